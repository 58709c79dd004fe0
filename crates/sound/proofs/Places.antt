-- What a record's place asks of it: at 12 to 14, at 15 and beyond, and at 1 to 11 of a push and of any other kind.
use mathlib.Core.Path.{◌≡◌, refl}
use mathlib.Core.Bool.{Bool, true, false, ◌&&◌, ◌||◌, not, cond, and_assoc, and-true, and-false, or-true, or-false}
use Prim.Native.Nat.{ℕ, ◌<◌, ◌≤◌}
use native.Mathlib.Omega.{arith}
use lib.Dec.{leb, eqb}
use borrow.Author.Tests.{eq-eqb, ne_eqb, eqb-true, eqb-false, le-leb, lt-leb}
use Rattle.word.specs.Link.{link_of}
use Rattle.model.specs.{declared.Call.Call, Sound.from1, Kinds.helping}
use Rattle.sound.proofs.Parts.{call_tests_pass}

-- 0 is at most 1, and so is 1.
zero_most : (n : ℕ) (b : Bool) → (leb n 1 && (eqb n 0 && b)) ≡ (eqb n 0 && b)
zero_most n b = go (eqb n 0) refl
  where
    go : (t : Bool) → eqb n 0 ≡ t → (leb n 1 && (t && b)) ≡ (t && b)
    go true e = let h : n ≡ 0 = eqb-true n 0 e in rw (le-leb n 1 (omega arith))
    go false e = simp and-false

-- Of 12 to 14 the first is neither 13 nor 14.
first_of_three : (p : ℕ) → 11 < p → p ≤ 14 → not (eqb p 13 || eqb p 14) ≡ eqb p 12
first_of_three p low high = go (eqb p 13) (eqb p 14) refl refl
  where
    go : (s t : Bool) → eqb p 13 ≡ s → eqb p 14 ≡ t → not (s || t) ≡ eqb p 12
    go true t e f = let h : p ≡ 13 = eqb-true p 13 e in rw (ne_eqb p 12 (λ x. omega (arith, x)))
    go false true e f = let h : p ≡ 14 = eqb-true p 14 f in rw (ne_eqb p 12 (λ x. omega (arith, x)))
    go false false e f =
        let h : p ≡ 13 → ⊥ = eqb-false p 13 e in
        let k : p ≡ 14 → ⊥ = eqb-false p 14 f in
        rw (eq-eqb p 12 (omega arith))

module _ (slots : ℕ) (r : Call) where
  abbrev within : Bool
  within = leb r.place 17 && leb r.side 1 && eqb r.finishing 0

  pub at_draw : 11 < r.place → r.place ≤ 14
      → (within && eqb r.kind 0 && eqb r.own 0 && (eqb r.place 12 || not (eqb (link_of r.link).slot 0))) ≡ call_tests_pass true slots r
  unfolding call_tests_pass
  at_draw low high =
      rw (
        lt-leb 15 r.place (omega arith),
        le-leb 12 r.place (omega arith),
        le-leb r.place 14 high,
        ne_eqb r.place 11 (λ x. omega (arith, x)),
        le-leb 5 r.place (omega arith),
        lt-leb r.place 10 (omega arith),
        first_of_three r.place low high,
      )
      (by_kind (eqb r.kind 0) refl (eqb r.place 12 || not (eqb (link_of r.link).slot 0)))
    where
      by_kind : (push : Bool) → eqb r.kind 0 ≡ push → (named : Bool)
          → (within && push && eqb r.own 0 && named)
          ≡ (leb r.place 17 && (leb r.kind 1 && (leb r.side 1 && (leb r.finishing 1
          && (push && ((eqb r.finishing 0 || (push && false))
          && (cond (cond push false false) (from1 slots r.own) (eqb r.own 0) && named)))))))
      by_kind true e named =
          let h : r.kind ≡ 0 = eqb-true r.kind 0 e in
          rw (le-leb r.kind 1 (omega arith)) (simp (and_assoc, or-false, zero_most))
      by_kind false e named = simp (and_assoc, and-false)

  pub at_give : 14 < r.place → (within && eqb r.kind 1 && from1 slots r.own) ≡ call_tests_pass true slots r
  unfolding call_tests_pass
  at_give low = by_kind (eqb r.kind 1) refl
    where
      by_kind : (pop : Bool) → eqb r.kind 1 ≡ pop → (within && eqb r.kind 1 && from1 slots r.own) ≡ call_tests_pass true slots r
      by_kind true e =
          let h : r.kind ≡ 1 = eqb-true r.kind 1 e in
          rw (
            e,
            ne_eqb r.kind 0 (λ x. omega (arith, x)),
            le-leb r.kind 1 (omega arith),
            le-leb 15 r.place low,
            lt-leb r.place 14 low,
            le-leb 12 r.place (omega arith),
            ne_eqb r.place 13 (λ x. omega (arith, x)),
            ne_eqb r.place 14 (λ x. omega (arith, x)),
          )
          (simp (and_assoc, or-true, or-false, and-true, zero_most))
      by_kind false e = rw (e, le-leb 15 r.place low) (simp (or-true, and-false))

  module _ (pooled : Bool) (low : r.place ≤ 11) where
    below : (b : Bool) → leb r.place (cond b 17 11) ≡ true
    below true = le-leb r.place 17 (omega arith)
    below false = le-leb r.place 11 low

    pub at_push : r.kind ≡ 0
        → (leb r.side 1 && leb r.finishing 1 && not (eqb r.place 11) && (eqb r.finishing 0 || helping r) && from1 slots r.own)
        ≡ call_tests_pass pooled slots r
    unfolding call_tests_pass
    at_push e =
        rw (
          below pooled,
          eq-eqb r.kind 0 e,
          ne_eqb r.kind 1 (λ x. omega (arith, x)),
          le-leb r.kind 1 (omega (arith, e)),
          lt-leb 15 r.place (omega arith),
          lt-leb 12 r.place (omega arith),
          ne_eqb r.place 13 (λ x. omega (arith, x)),
          ne_eqb r.place 14 (λ x. omega (arith, x)),
        )
        (simp (and_assoc, or-false, and-true))

    pub at_other : (r.kind ≡ 0 → ⊥)
        → (leb r.side 1 && leb r.finishing 1 && eqb r.kind 1 && eqb r.finishing 0 && eqb r.own 0)
        ≡ call_tests_pass pooled slots r
    unfolding call_tests_pass
    at_other other = by_kind (eqb r.kind 1) refl
      where
        by_kind : (pop : Bool) → eqb r.kind 1 ≡ pop
            → (leb r.side 1 && leb r.finishing 1 && eqb r.kind 1 && eqb r.finishing 0 && eqb r.own 0)
            ≡ call_tests_pass pooled slots r
        by_kind true e =
            rw (
              e,
              below pooled,
              ne_eqb r.kind 0 other,
              le-leb r.kind 1 (let h : r.kind ≡ 1 = eqb-true r.kind 1 e in omega arith),
              lt-leb 15 r.place (omega arith),
              lt-leb 12 r.place (omega arith),
              ne_eqb r.place 13 (λ x. omega (arith, x)),
              ne_eqb r.place 14 (λ x. omega (arith, x)),
            )
            (simp (and_assoc, or-false, or-true, and-true))
        by_kind false e =
            rw (e, lt-leb r.kind 1 (let h : r.kind ≡ 1 → ⊥ = eqb-false r.kind 1 e in omega arith)) (simp and-false)

  -- Beyond 11 only a pooled queue's record is sound.
  pub beyond : (pooled : Bool) → 11 < r.place → (pooled && call_tests_pass true slots r) ≡ call_tests_pass pooled slots r
  unfolding call_tests_pass
  beyond true low = refl
  beyond false low = rw (lt-leb r.place 11 low)
