-- The walk one slot on, and what comes of a loop that goes along it.
use mathlib.Core.{Path.{◌≡◌, refl, sym, ap, ◌∙◌}, Bool.{Bool, true, false, cond}, List.{List, [], ◌∷◌}, Logic.◌≢◌}
use Prim.Native.Nat.{ℕ, zero, suc, ◌+◌, ◌-◌, ◌%◌, ◌^◌, ◌<◌, ◌≤◌}
use native.Mathlib.Omega.{arith}
use lib.{Dec.{eqb, leb}, ListN.get_or}
use borrow.Author.Tests.{eqb-true, eqb-false, le-leb}
use Rattle.word.specs.{Anchor.anchor_of, Link.{link_of, spare_of}}
use Rattle.model.specs.{declared.{Entry.Entry, Control.Control}, Sides.is_empty, Tables.Tables, Sound.{from1, link_sound}}
use Rattle.model.{specs.Walk.{Walk, along, and_then, broken, contents, entries}, proofs.Tests.Truth.{split, and-true}}
use Rattle.std.specs.Prelude.{Option, None, Some, Result, Ok, Err}
use Rattle.walk.specs.{declared.{Unsound.Unsound, Way.Way}, Over.{Made, made, lost, over}}
use Rattle.walk.specs.Ways.{unsound, way_of, beginning_of, links_on, leads_to, led_from, ahead, turned_back, walk_by}

-- The lower half of a sound link word is its slot.
pub half_slot : (slots l : ℕ) → link_sound slots l ≡ true → l % 2 ^ 32 ≡ (link_of l).slot
unfolding link_sound
half_slot slots l e = let z = eqb-true (spare_of l) 0 (and-true (eqb (spare_of l) 0) (leb (link_of l).slot slots) e).0 in omega arith

module _ (w : Way) (lefts rights labels : List ℕ) where
  -- At most n slots more, from slot x on.
  abbrev pub rest : ℕ → ℕ → Walk
  rest n x = along w.slots (links_on w lefts rights) labels w.last n x

  abbrev pub entry : ℕ → Entry
  entry x = record { slot = x; label = get_or labels x 0 }

  pub nowhere : (n x : ℕ) → from1 w.slots x ≡ false → rest n x ≡ broken
  unfolding along
  nowhere zero x e = refl
  nowhere (suc n) x e = rw e

  -- A slot is the last, or its link leads on.
  pub turn : (n x : ℕ) → from1 w.slots x ≡ true
      → rest (suc n) x ≡ cond (eqb x w.last) (entries (entry x ∷ [])) (and_then (entry x) (rest n (leads_to w lefts rights x)))
  unfolding along leads_to
  turn n x e =
      rw e (split (link_sound w.slots (get_or (links_on w lefts rights) x 0)) (λ f. rw f) (λ f. rw f (rw (nowhere n 0 refl))))

  -- It leads to a slot, or nowhere.
  real : (x : ℕ) → leads_to w lefts rights x ≢ 0 → from1 w.slots (leads_to w lefts rights x) ≡ true
  unfolding leads_to link_sound
  real x h = go (link_sound w.slots (get_or (links_on w lefts rights) x 0)) refl h
    where
      word : ℕ
      word = get_or (links_on w lefts rights) x 0

      slot : ℕ
      slot = (link_of word).slot

      go : (b : Bool) → link_sound w.slots word ≡ b → cond b slot 0 ≢ 0 → from1 w.slots (cond b slot 0) ≡ true
      go true e g = rw (le-leb 1 slot (omega (arith, g)), (and-true (eqb (spare_of word) 0) (leb slot w.slots) e).1)
      go false e g = absurd (g refl)

  pub led_to : (x y : ℕ) → Ok (Some y) ≡ led_from w lefts rights x → from1 w.slots y ≡ true
  unfolding led_from
  led_to x y e = go (eqb x w.last) (eqb (leads_to w lefts rights x) 0) refl e
    where
      go : (a b : Bool) → eqb (leads_to w lefts rights x) 0 ≡ b
          → Ok (Some y) ≡ cond a (Ok None) (cond b (Err unsound) (Ok (Some (leads_to w lefts rights x)))) → from1 w.slots y ≡ true
      go true b f e = cc
      go false true f e = cc
      go false false f e = let z : y ≡ leads_to w lefts rights x = cc in ap (from1 w.slots) z ∙ real x (eqb-false (leads_to w lefts rights x) 0 f)

-- What waits, by where its walk begins.
module _ (q : Tables) where
  abbrev begun : Walk
  begun = let w = way_of q.control in turned_back w (ahead w q.lefts q.rights q.labels)

  by_way : contents q ≡ cond (is_empty (anchor_of q.control.anchor)) (entries []) begun
  unfolding contents way_of
  by_way = split (eqb (anchor_of q.control.anchor).status 2) (λ e. rw e) (λ e. rw e)

  pub waits : (b : Result (Option Way) Unsound) → b ≡ beginning_of q.control → contents q ≡ walk_by b q.lefts q.rights q.labels
  unfolding beginning_of
  waits b e =
      let w = way_of q.control in
      by_way
      ∙ split (is_empty (anchor_of q.control.anchor)) (λ z. rw z)
      (λ z. rw z (split (from1 w.slots w.first) (λ y. rw y)
      (λ y. rw (y, nowhere w q.lefts q.rights q.labels w.slots w.first y))))
      ∙ ap (λ (b : Result (Option Way) Unsound). walk_by b q.lefts q.rights q.labels) (sym e)

-- It begins at a slot of its way.
pub begins-at : (c : Control) (w : Way) → Ok (Some w) ≡ beginning_of c → (w ≡ way_of c) × (from1 w.slots w.first ≡ true)
unfolding beginning_of
begins-at c w e = go (is_empty (anchor_of c.anchor)) (from1 (way_of c).slots (way_of c).first) refl e
  where
    go : (a b : Bool) → from1 (way_of c).slots (way_of c).first ≡ b
        → Ok (Some w) ≡ cond a (Ok None) (cond b (Ok (Some (way_of c))) (Err unsound)) → (w ≡ way_of c) × (from1 w.slots w.first ≡ true)
    go true b f e = absurd cc
    go false false f e = absurd cc
    go false true f e = let z : w ≡ way_of c = cc in (z, ap (λ (v : Way). from1 v.slots v.first) z ∙ f)

-- What comes of s with n slots met and the walk at slot x.
module _ {S : Type 0} (f : S → Entry → S) (w : Way) (lefts rights labels : List ℕ) where
  abbrev pub comes : ℕ → S → ℕ → Made S
  comes n s x = over f s (rest w lefts rights labels (w.slots - n) x)

  one_on : (s : S) (e : Entry) (v : Walk) → over f s (and_then e v) ≡ over f (f s e) v
  one_on s e (entries l) = refl
  one_on s e broken = refl

  pub begins : (s : S) → comes 0 s w.first ≡ over f s (ahead w lefts rights labels)
  begins s = let e : w.slots - 0 ≡ w.slots = omega arith in ap (λ (n : ℕ). over f s (rest w lefts rights labels n w.first)) e

  pub full : (n x : ℕ) (s : S) → w.slots ≤ n → comes n s x ≡ lost
  unfolding along
  full n x s h = let e : w.slots - n ≡ 0 = omega arith in rw e

  module _ (n x : ℕ) (s : S) (h : n < w.slots) (e : from1 w.slots x ≡ true) where
    left : w.slots - n ≡ suc (w.slots - (n + 1))
    left = omega arith

    abbrev met : S
    met = f s (entry w lefts rights labels x)

    -- What comes of a turn, by where the walk goes on.
    abbrev pub turned : Result (Option ℕ) Unsound → Made S
    turned (Ok None) = made met
    turned (Err e) = lost
    turned (Ok (Some y)) = comes (n + 1) met y

    pub turns : (r : Result (Option ℕ) Unsound) → r ≡ led_from w lefts rights x → comes n s x ≡ turned r
    unfolding led_from
    turns r g =
        let y = leads_to w lefts rights x in
        let m = w.slots - (n + 1) in
        rw left
        (ap (over f s) (turn w lefts rights labels m x e)
        ∙ split (eqb x w.last) (λ z. rw z)
        (λ z. rw z (one_on s (entry w lefts rights labels x) (rest w lefts rights labels m y)
        ∙ split (eqb y 0) (λ k. rw k (ap (over f met) (nowhere w lefts rights labels m y (rw (eqb-true y 0 k))))) (λ k. rw k)))
        ∙ ap turned (sym g))
