-- An Anchor is sound if equal ends are no unstable ones and no slots above the last, and different ones are both slots.
use mathlib.Core.Path.{◌≡◌, refl, ◌∙◌}
use mathlib.Core.Bool.{Bool, true, false, ◌&&◌, ◌||◌, beq, and_assoc, and-true, and-false, or-true}
use Prim.Native.Nat.{ℕ}
use native.Mathlib.Omega.{arith}
use lib.Dec.{leb, eqb}
use borrow.Author.Tests.{eq-eqb, ne_eqb, eqb-true, eqb-false, le-leb, lt-leb}
use Rattle.word.specs.declared.Anchor.{Anchor}
use Rattle.model.specs.Sound.{from1, anchor_sound}

twice : (b c : Bool) → b ≡ (b && (b && (beq c c && true)))
twice true true = refl
twice true false = refl
twice false c = refl

pub equal : (slots : ℕ) (a : Anchor) → a.left ≡ a.right → (eqb a.status 0 && leb a.left slots) ≡ anchor_sound slots a
unfolding anchor_sound
equal slots a e = rw (eq-eqb a.left a.right e, ← e) (by_status (eqb a.status 0) refl)
  where
    by_status : (stable : Bool) → eqb a.status 0 ≡ stable
        → (stable && leb a.left slots)
        ≡ (leb a.status 2 && (leb a.left slots && (leb a.left slots && (beq (eqb a.left 0) (eqb a.left 0) && (stable || false)))))
    by_status true h =
        let zero : a.status ≡ 0 = eqb-true _ _ h in
        rw (le-leb a.status 2 (omega arith)) (twice (leb a.left slots) (eqb a.left 0))
    by_status false h = simp and-false

pub apart : (slots : ℕ) (a : Anchor) → (a.left ≡ a.right → ⊥)
    → ((leb a.status 2 && from1 slots a.left) && from1 slots a.right) ≡ anchor_sound slots a
unfolding anchor_sound
apart slots a other =
    and_assoc (leb a.status 2) (from1 slots a.left) (from1 slots a.right)
    ∙ rw (ne_eqb a.left a.right other) (by_ends (eqb a.left 0) (eqb a.right 0) refl refl)
  where
    by_ends : (s t : Bool) → eqb a.left 0 ≡ s → eqb a.right 0 ≡ t
        → (leb a.status 2 && (from1 slots a.left && from1 slots a.right))
        ≡ (leb a.status 2 && (leb a.left slots && (leb a.right slots && (beq s t && (eqb a.status 0 || true)))))
    by_ends true true e f =
        let left : a.left ≡ 0 = eqb-true _ _ e in
        let right : a.right ≡ 0 = eqb-true _ _ f in
        absurd (other (omega arith))
    by_ends true false e f = let left : a.left ≡ 0 = eqb-true _ _ e in rw (lt-leb 1 a.left (omega arith)) (simp and-false)
    by_ends false true e f = let right : a.right ≡ 0 = eqb-true _ _ f in rw (lt-leb 1 a.right (omega arith)) (simp and-false)
    by_ends false false e f =
        let left : a.left ≡ 0 → ⊥ = eqb-false _ _ e in
        let right : a.right ≡ 0 → ⊥ = eqb-false _ _ f in
        rw (le-leb 1 a.left (omega arith), le-leb 1 a.right (omega arith)) (simp (or-true, and-true))

-- The tests of different ends one by one.
module _ (slots : ℕ) (a : Anchor) (other : a.left ≡ a.right → ⊥) where
  pub left_null : from1 slots a.left ≡ false → false ≡ anchor_sound slots a
  left_null l = rw (← apart slots a other, l) (simp and-false)

  pub right_null : from1 slots a.right ≡ false → false ≡ anchor_sound slots a
  right_null r = rw (← apart slots a other, r) (simp and-false)

  pub both_slots : from1 slots a.left ≡ true → from1 slots a.right ≡ true → leb a.status 2 ≡ anchor_sound slots a
  both_slots l r = rw (← apart slots a other, l, r) (simp and-true)
