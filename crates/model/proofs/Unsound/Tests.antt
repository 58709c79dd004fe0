-- Facts as tests: an Anchor, a link word and a busy record within their meaning pass the tests of soundness.
use mathlib.Core.{Bool.{Bool, ◌&&◌, ◌||◌, cond, false, not, true}, Logic.◌≢◌, Path.{◌∙◌, ◌≡◌, ap, refl, subst, sym}}
use Prim.Native.Nat.{◌≤◌, ℕ}
use native.Mathlib.Omega.{arith}
use lib.Dec.{eqb, leb}
use borrow.Author.Tests.{eq-eqb, eqb-false, eqb-true, le-leb, leb-true, ne_eqb}
use Rattle.word.specs.{Anchor.anchor_of, Link.{link_of, spare_of}, declared.Anchor.Anchor}
use Rattle.model.specs.Sound.{anchor_sound, anchor_tests, from1, link_sound, record_sound, record_tests}
use Rattle.model.specs.declared.Call.{Call}
use Rattle.model.proofs.{Tests.{ByPlace.by_place, Rules.{◌and◌, passes}}, Machine.Book.BookCall}
use Rattle.model.proofs.Tests.Truth.{agree, and_of, and-true, beq_of, or_cases, or_first, or_second, split}
use Rattle.model.proofs.{Invariant.{Fields.Extra, Owners.Owner, Tasks.Task}, Places.Owned.push_pop}
use Rattle.model.proofs.Bridge.{Facts.{AnchorFine, RecordFine}, View.{kind_of, place_of, rec_of, status_of}}
use Rattle.model.proofs.Machine.Machine as M

pub anchor-sound : (slots : ℕ) (a : Anchor) → AnchorFine slots a → anchor_sound slots a ≡ true
unfolding anchor_sound
anchor-sound slots a h = passes (anchor_tests slots a)
    (le-leb _ _ h.status
    and le-leb _ _ h.left
    and le-leb _ _ h.right
    and beq_of _ _ (agree _ _ (λ e. eq-eqb _ _ (h.null (eqb-true _ _ e))) (λ e. eq-eqb _ _ (h.full (eqb-true _ _ e))))
    and split (eqb a.left a.right) (λ e. or_first _ (eq-eqb _ _ (h.single (eqb-true _ _ e)))) (λ e. or_second (eqb a.status 0) (ap not e))
    and tt)

pub link-sound : (slots w : ℕ) → spare_of w ≡ 0 → (link_of w).slot ≤ slots → link_sound slots w ≡ true
unfolding link_sound
link-sound slots w e h = and_of (eq-eqb _ _ e) (le-leb _ _ h)

-- The two tests of a record that depend on its place.
abbrev Placed : ℕ → ℕ → ℕ → ℕ → Type 0
Placed f k st p = (eqb f 0 || (eqb k 0 && (leb 5 p && leb p 10)) ≡ true) × (not (leb 5 p && leb p 10) || not (eqb st 0) ≡ true)

small_zero : (f : ℕ) → f ≤ 1 → eqb f 1 ≡ false → eqb f 0 ≡ true
small_zero f h e = eq-eqb f 0 (let z = eqb-false f 1 e in omega arith)

kind_push : (k : ℕ) → kind_of k ≡ M.push → eqb k 0 ≡ true
kind_push k e = go (eqb k 0) refl e
  where
    go : (b : Bool) → eqb k 0 ≡ b → cond b M.push M.pop ≡ M.push → eqb k 0 ≡ true
    go true g z = g
    go false g z = absurd (let w : ◌≡◌ {A = ℕ} 0 1 = cc in omega arith)

pub unstable : (n : ℕ) (d : Bool) → status_of n ≡ M.pushing d → eqb n 0 ≡ false
unstable n d e = split (eqb n 0) (λ z. absurd (go n (eqb-true n 0 z) e)) (λ z. z)
  where
    go : (n : ℕ) → n ≡ 0 → status_of n ≡ M.pushing d → ⊥
    go n z e = let f : M.stable ≡ M.pushing d = subst (λ n. status_of n ≡ M.pushing d) z e in let w : ◌≡◌ {A = ℕ} 0 1 = cc in omega arith

module _ (pooled : Bool) (slots : ℕ) (r : Call) (h : RecordFine pooled slots r) where
  unfinished : (p : ℕ) → leb 5 p && leb p 10 ≡ false → eqb r.finishing 1 ≡ false → Placed r.finishing r.kind (anchor_of r.seen).status p
  unfinished p z e = (or_first _ (small_zero r.finishing h.finishing e), rw z)

  late : (p : ℕ) → leb 5 p && leb p 10 ≡ true → (eqb r.finishing 1 ≡ true → kind_of r.kind ≡ M.push) → (d : Bool)
      → status_of (anchor_of r.seen).status ≡ M.pushing d
      → Placed r.finishing r.kind (anchor_of r.seen).status p
  late p z o d s = (
    split (eqb r.finishing 1) (λ e. or_second (eqb r.finishing 0) (and_of (kind_push r.kind (o e)) z))
        (λ e. or_first _ (small_zero r.finishing h.finishing e)),
    rw (unstable _ d s) (or_second (not (leb 5 p && leb p 10)) refl),
  )

  -- The tests of the own slot: at 1 to 11, 12 to 14, 15 to 17.
  abbrev Owned : ℕ → Type 0
  Owned p = cond (cond (eqb r.kind 0) (not (leb 12 p && leb p 14)) (leb 15 p)) (from1 slots r.own) (eqb r.own 0) ≡ true

  real : r.own ≢ 0 → from1 slots r.own ≡ true
  real n = and_of (le-leb 1 r.own (omega arith)) (le-leb _ _ h.own)

  own_trying : (kind_of r.kind ≡ M.push → r.own ≢ 0) → (kind_of r.kind ≡ M.pop → r.own ≡ 0)
      → cond (cond (eqb r.kind 0) true false) (from1 slots r.own) (eqb r.own 0) ≡ true
  own_trying push pop = split (eqb r.kind 0) (λ e. rw e (real (push (rw e)))) (λ e. rw e (eq-eqb _ _ (pop (rw e))))

  own_drawing : r.own ≡ 0 → cond (cond (eqb r.kind 0) false false) (from1 slots r.own) (eqb r.own 0) ≡ true
  own_drawing z = split (eqb r.kind 0) (λ e. rw e (eq-eqb _ _ z)) (λ e. rw e (eq-eqb _ _ z))

  own_giving : r.own ≢ 0 → cond (cond (eqb r.kind 0) true true) (from1 slots r.own) (eqb r.own 0) ≡ true
  own_giving n = split (eqb r.kind 0) (λ e. rw e (real n)) (λ e. rw e (real n))

  -- The test of the head as read at 13 and 14.
  abbrev Topped : ℕ → Type 0
  Topped p = not (eqb p 13 || eqb p 14) || not (eqb (link_of r.link).slot 0) ≡ true

  topped : (link_of r.link).slot ≢ 0 → not (eqb (link_of r.link).slot 0) ≡ true
  topped n = rw (ne_eqb _ 0 n)

  place_test : leb r.place (cond pooled 17 11) ≡ true
  place_test = split pooled (λ e. rw e (le-leb _ _ h.place)) (λ e. rw e (le-leb _ _ (h.named e)))

  pop_test : not (eqb r.place 11 || leb 15 r.place) || eqb r.kind 1 ≡ true
  pop_test = split (eqb r.place 11 || leb 15 r.place)
      (λ e. or_second (not (eqb r.place 11 || leb 15 r.place))
      (or_cases (eqb r.place 11) (leb 15 r.place) e (λ z. eq-eqb _ _ (h.last (eqb-true _ _ z))) (λ z. eq-eqb _ _ (h.gives (leb-true _ _ z)))))
      (λ e. or_first _ (ap not e))

  push_test : not (leb 12 r.place && leb r.place 14) || eqb r.kind 0 ≡ true
  push_test = split (leb 12 r.place && leb r.place 14)
      (λ e. let z = and-true (leb 12 r.place) (leb r.place 14) e in
      or_second (not (leb 12 r.place && leb r.place 14)) (eq-eqb _ _ (h.draws (leb-true _ _ z.0) (leb-true _ _ z.1))))
      (λ e. or_first _ (ap not e))

  module _ (s : M.Shared) (o : ℕ → Owner) (t : ℕ) (c : BookCall) where
    abbrev Says : ℕ → Type 0
    Says p = Task (place_of p) s o t (rec_of r) c → Extra (place_of p) (rec_of r) → Placed r.finishing r.kind (anchor_of r.seen).status p
        × Owned p × Topped p

    placed : r.place ≢ 0 → Says r.place
    unfolding rec_of
    placed b = by_place Says
        (λ y x. (unfinished 1 refl y.0, own_trying x.kept.1 x.kept.2, refl))
        (λ y x. (unfinished 2 refl y.0.unfinished, own_trying x.kept.1 x.kept.2, refl))
        (λ y x. (unfinished 3 refl y.0.unfinished, own_trying x.kept.1 x.kept.2, refl))
        (λ y x. (unfinished 4 refl y.0.unfinished, own_trying x.kept.1 x.kept.2, refl))
        (λ y x. (late 5 refl x.kept.0 _ y.status, own_trying x.kept.1 x.kept.2, refl))
        (λ y x. (late 6 refl x.kept.0 _ y.0.status, own_trying x.kept.1 x.kept.2, refl))
        (λ y x. (late 7 refl x.kept.0 _ y.0.status, own_trying x.kept.1 x.kept.2, refl))
        (λ y x. (late 8 refl x.kept.0 _ y.0.status, own_trying x.kept.1 x.kept.2, refl))
        (λ y x. (late 9 refl x.kept.0 _ y.0.status, own_trying x.kept.1 x.kept.2, refl))
        (λ y x. (late 10 refl x.kept.0 _ y.0.status, own_trying x.kept.1 x.kept.2, refl))
        (λ y x. (unfinished 11 refl x.kept.1, own_trying (λ e. absurd (push_pop (sym e ∙ x.kept.0))) (λ e. x.kept.3), refl))
        (λ y x. (unfinished 12 refl y.1.unfinished, own_drawing x.kept, refl))
        (λ y x. (unfinished 13 refl y.1.unfinished, own_drawing x.kept, topped y.2.0))
        (λ y x. (unfinished 14 refl y.1.unfinished, own_drawing x.kept, topped y.2.0))
        (λ y x. (unfinished 15 refl x.kept.1, own_giving x.kept.2, refl))
        (λ y x. (unfinished 16 refl x.kept.1, own_giving x.kept.2, refl))
        (λ y x. (unfinished 17 refl x.kept.1, own_giving x.kept.2, refl))
        r.place b h.place

    pub record_sound_lem : r.place ≢ 0 → Task (place_of r.place) s o t (rec_of r) c → Extra (place_of r.place) (rec_of r)
        → record_sound pooled slots r ≡ true
    unfolding record_sound
    record_sound_lem b y x =
        let p = placed b y x in
        or_second (eqb r.place 0) (passes (record_tests pooled slots r)
        (place_test
        and le-leb _ _ h.kind
        and le-leb _ _ h.side
        and le-leb _ _ h.finishing
        and pop_test
        and push_test
        and p.0.0
        and p.1
        and p.2
        and le-leb _ _ h.neighbour
        and link-sound slots r.link h.spare h.link
        and anchor-sound slots (anchor_of r.seen) h.seen
        and p.0.1
        and tt))
