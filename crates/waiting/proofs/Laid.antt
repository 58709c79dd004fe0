-- What the loop stores is what the walk meets, turned to run from left to right.
use mathlib.Core.{Path.{◌≡◌, refl, sym, ap, subst, ◌∙◌}, Bool.{Bool, true, false, cond}}
use mathlib.Core.List.{List, [], ◌∷◌, ◌++◌, map, map-append, reverse, reverse-cons}
use Prim.Native.Nat.{ℕ, zero, suc, ◌+◌, ◌-◌, ◌<◌, ◌≤◌}
use native.Mathlib.{Nat.zero-add, Omega.arith}
use lib.{Dec.{eqb, leb}, ListN.{drop, get_or, length, length-map, length-reverse, length-set, set}}
use lib.Seq.{append_snoc, sets, sets-eq}
use borrow.Author.Tests.{leb-true}
use Rattle.word.specs.Link.{link_of}
use Rattle.model.{specs.{declared.Entry.Entry, Sound.{from1, link_sound}}, proofs.Tests.Truth.{and-true, not_both}}
use Rattle.model.specs.Walk.{Walk, along, and_then, broken, entries, is_broken, met}
use Rattle.walk.{specs.{declared.Way.Way, Ways.{links_on, ahead, turned_back}}, proofs.Along.rest}
use Rattle.waiting.specs.{Waiting.onto, Laid.{Inside, trail, place, laid}}

-- A walk that is not broken meets the entries of as many slots along the links.
abbrev Follows : List ℕ → List ℕ → ℕ → Walk → Type 0
Follows links labels x w = is_broken w ≡ false → met w ≡ trail links labels (length (met w)) x

module _ (w : Way) (lefts rights labels : List ℕ) where
  abbrev links : List ℕ
  links = links_on w lefts rights

  abbrev at : ℕ → Entry
  at x = record { slot = x; label = get_or labels x 0 }

  stuck : (x : ℕ) → Follows links labels x broken
  stuck x f = absurd (not_both refl f)

  follows : (n x : ℕ) → Follows links labels x (rest w lefts rights labels n x)
  unfolding along trail
  follows zero x = stuck x
  follows (suc n) x =
      go (from1 w.slots x) (eqb x w.last) (link_sound w.slots (get_or links x 0)) (rest w lefts rights labels n (link_of (get_or links x 0)).slot)
      (follows n (link_of (get_or links x 0)).slot)
    where
      go : (a b c : Bool) (v : Walk) → Follows links labels (link_of (get_or links x 0)).slot v
          → Follows links labels x (cond a (cond b (entries (at x ∷ [])) (and_then (at x) (cond c v broken))) broken)
      go true true c v h f = refl
      go true false true (entries l) h f = ap (λ (m : List Entry). at x ∷ m) (h refl)
      go true false true broken h f = absurd (not_both refl f)
      go true false false v h f = absurd (not_both refl f)
      go false b c v h f = absurd (not_both refl f)

  -- It meets no slot above slots.
  inside : (n x : ℕ) → Inside w.slots (met (rest w lefts rights labels n x))
  unfolding along
  inside zero x = tt
  inside (suc n) x =
      go (from1 w.slots x) refl (eqb x w.last) (link_sound w.slots (get_or links x 0)) (rest w lefts rights labels n (link_of (get_or links x 0)).slot)
      (inside n (link_of (get_or links x 0)).slot)
    where
      low : from1 w.slots x ≡ true → x ≤ w.slots
      low e = leb-true x w.slots (and-true (leb 1 x) (leb x w.slots) e).1

      go : (a : Bool) → from1 w.slots x ≡ a → (b c : Bool) (v : Walk) → Inside w.slots (met v)
          → Inside w.slots (met (cond a (cond b (entries (at x ∷ [])) (and_then (at x) (cond c v broken))) broken))
      go true e true c v h = (low e, tt)
      go true e false true (entries l) h = (low e, h)
      go true e false true broken h = tt
      go true e false false v h = tt
      go false e b c v h = tt

-- Stored upwards, numbers stand as they are; downwards, reversed.
up_all : (n i : ℕ) (xs t : List ℕ) → laid true n i xs t ≡ sets t i xs
unfolding laid
up_all n i [] t = refl
up_all n i (x ∷ xs) t = let k : i + 1 ≡ suc i = omega arith in ap (λ (j : ℕ). laid true n j xs (set t i x)) k ∙ up_all n (suc i) xs (set t i x)

dropped : (k : ℕ) (t : List ℕ) (x : ℕ) → k < length t → drop k (set t k x) ≡ x ∷ drop (suc k) t
dropped k [] x h = absurd (omega arith)
dropped zero (y ∷ t) x h = refl
dropped (suc k) (y ∷ t) x h = dropped k t x (omega arith)

down_all : (n i : ℕ) (xs t : List ℕ) → n ≡ i + length xs → length xs ≤ length t → laid false n i xs t ≡ reverse xs ++ drop (length xs) t
unfolding laid
down_all n i [] t e h = refl
down_all n i (x ∷ xs) t e h =
    let k : n - 1 - i ≡ length xs = omega arith in
    ap (λ (j : ℕ). laid false n (i + 1) xs (set t j x)) k
    ∙ down_all n (i + 1) xs (set t (length xs) x) (omega arith) (omega (arith, length-set t (length xs) x))
    ∙ ap (λ (l : List ℕ). reverse xs ++ l) (dropped (length xs) t x (omega arith))
    ∙ sym (append_snoc (reverse xs) x (drop (suc (length xs)) t))
    ∙ ap (λ (l : List ℕ). l ++ drop (suc (length xs)) t) (sym (reverse-cons x xs))

map_reverse : (g : Entry → ℕ) (l : List Entry) → map g (reverse l) ≡ reverse (map g l)
map_reverse g [] = refl
map_reverse g (e ∷ l) =
    ap (map g) (reverse-cons e l)
    ∙ map-append g (reverse l) (e ∷ [])
    ∙ ap (λ (m : List ℕ). m ++ (g e ∷ [])) (map_reverse g l)
    ∙ sym (reverse-cons (g e) (map g l))

-- So many entries stored where the walk meets them.
module _ (w : Way) (g : Entry → ℕ) (l : List Entry) (t : List ℕ) where
  abbrev Stored : Bool → Type 0
  Stored up = length l ≤ length t → laid up (length l) 0 (map g l) t ≡ onto (map g (met (turned_back (record {
    slots = w.slots;
    rightward = up;
    first = w.first;
    last = w.last;
  }) (entries l)))) t

  stored : (up : Bool) → Stored up
  stored true h =
      up_all (length l) 0 (map g l) t ∙ sets-eq (map g l) t 0 (omega (arith, length-map l g))
      ∙ ap (λ (k : ℕ). map g l ++ drop k t) (zero-add (length (map g l)))
  stored false h =
      let z : length (map g l) ≡ length (map g (reverse l)) = length-map l g ∙ sym (length-reverse l) ∙ sym (length-map (reverse l) g) in
      down_all (length l) 0 (map g l) t (omega (arith, length-map l g)) (omega (arith, length-map l g))
      ∙ ap (λ (m : List ℕ). m ++ drop (length (map g l)) t) (sym (map_reverse g l))
      ∙ ap (λ (m : ℕ). map g (reverse l) ++ drop m t) z

-- A walk that is turned meets as many.
as_many : (w : Way) (l : List Entry) (up : Bool)
    → length (met (turned_back (record { slots = w.slots; rightward = up; first = w.first; last = w.last }) (entries l))) ≡ length l
as_many w l true = refl
as_many w l false = length-reverse l

-- Of a walk that is not broken, as many slots along the links as it meets keep to the slots, and what is stored of them is what it meets.
module _ (w : Way) (lefts rights labels : List ℕ) (n : ℕ) where
  abbrev met-along : ℕ → List Entry
  met-along m = trail (links_on w lefts rights) labels m w.first

  abbrev Keeps : Walk → Type 0
  Keeps v = is_broken v ≡ false → n ≡ length (met v) → Inside w.slots (met-along n)

  kept : (v : Walk) → Follows (links_on w lefts rights) labels w.first v → Inside w.slots (met v) → Keeps (turned_back w v)
  kept broken f i b k = absurd (not_both refl b)
  kept (entries l) f i b k =
      subst (λ (m : ℕ). Inside w.slots (met-along m)) (sym (k ∙ as_many w l w.rightward)) (subst (Inside w.slots) (f refl) i)

  pub keeps : Keeps (turned_back w (ahead w lefts rights labels))
  keeps =
      kept (ahead w lefts rights labels) (follows w lefts rights labels w.slots w.first) (inside w lefts rights labels w.slots w.first)

  module _ (g : Entry → ℕ) (t : List ℕ) where
    abbrev Goal : Walk → Type 0
    Goal v =
        is_broken v ≡ false → n ≡ length (met v) → n ≤ length t
        → laid w.rightward n 0 (map g (met-along n)) t ≡ onto (map g (met v)) t

    some : (v : Walk) → Follows (links_on w lefts rights) labels w.first v → Goal (turned_back w v)
    some broken f b k h = absurd (not_both refl b)
    some (entries l) f b k h =
        let size = k ∙ as_many w l w.rightward in
        ap (λ (m : ℕ). laid w.rightward m 0 (map g (met-along m)) t) size
        ∙ ap (λ (m : List Entry). laid w.rightward (length l) 0 (map g m) t) (sym (f refl))
        ∙ stored w g l t w.rightward (omega arith)

    pub lays : Goal (turned_back w (ahead w lefts rights labels))
    lays = some (ahead w lefts rights labels) (follows w lefts rights labels w.slots w.first)

-- What is still to be stored, one slot on.
module _ (g : Entry → ℕ) (links labels : List ℕ) (up : Bool) (n : ℕ) where
  abbrev pub due : ℕ → ℕ → List ℕ
  due i x = map g (trail links labels (n - i) x)

  pub more : (i x v y : ℕ) (t u all : List ℕ) → i < n → v ≡ g (record { slot = x; label = get_or labels x 0 }) → y ≡ (link_of (get_or links x 0)).slot
      → u ≡ set t (place up n i) v → laid up n i (due i x) t ≡ all → laid up n (i + 1) (due (i + 1) y) u ≡ all
  unfolding trail laid
  more i x v y t u all h ev ey eu e =
      let left : suc (n - (i + 1)) ≡ n - i = omega arith in
      (λ j. laid up n (i + 1) (due (i + 1) (ey j)) (eu j))
      ∙ ap (λ (a : ℕ). laid up n (i + 1) (due (i + 1) (link_of (get_or links x 0)).slot) (set t (place up n i) a)) ev
      ∙ ap (λ (m : ℕ). laid up n i (map g (trail links labels m x)) t) left
      ∙ e

  pub ends : (i x : ℕ) (t all : List ℕ) → n ≤ i → laid up n i (due i x) t ≡ all → t ≡ all
  unfolding trail laid
  ends i x t all h e = let z : 0 ≡ n - i = omega arith in ap (λ (m : ℕ). laid up n i (map g (trail links labels m x)) t) z ∙ e

  pub begins : (x : ℕ) (t : List ℕ) → laid up n 0 (due 0 x) t ≡ laid up n 0 (map g (trail links labels n x)) t
  begins x t = let z : n - 0 ≡ n = omega arith in ap (λ (m : ℕ). laid up n 0 (map g (trail links labels m x)) t) z

-- The slot at hand keeps to the slots, and those one slot on.
pub inside-next : (links labels : List ℕ) (slots n i x : ℕ) → i < n → Inside slots (trail links labels (n - i) x)
    → (x ≤ slots) × Inside slots (trail links labels (n - (i + 1)) (link_of (get_or links x 0)).slot)
unfolding trail
inside-next links labels slots n i x h p =
    let left : n - i ≡ suc (n - (i + 1)) = omega arith in subst (λ (m : ℕ). Inside slots (trail links labels m x)) left p
