-- What a record that is not refused shows, and its plan.
use mathlib.Core.{Path.{◌≡◌, refl, ap, sym, ◌∙◌}, Bool.{Bool, true, false, not, cond}}
use Prim.Native.Nat.{ℕ, ◌≤◌}
use native.Mathlib.Omega.{arith}
use lib.Dec.{eqb, leb}
use borrow.Author.Tests.{eqb-false, ne_eqb, leb-true, lt-leb}
use Rattle.engine.proofs.InParts.{above}
use Rattle.model.specs.{declared.Call.Call, Tables.at_place, Refusals.record_refusal, Sound.record_sound}
use Rattle.model.proofs.Tests.Truth.{split}
use Rattle.sound.proofs.Refused.{unsound}
use Rattle.threads_model.specs.declared.PlannedTouch.{PlannedTouch}
use Rattle.threads_model.specs.Split.{refuses, planned, plan, place_refusal, within, plan_unasked}
use Rattle.threads.proofs.Split.{ByRecord.{plans_at, sound_none}, Within.Within, Unasked.within_same}

-- The side of a link word that leads away from the right one.
pub inward : (right : Bool) → ◌≡◌ {A = ℕ} (cond (not right) 1 0) (cond right 0 1)
inward true = refl
inward false = refl

pub sound_of : (pooled : Bool) (slots : ℕ) (r : Call) → record_refusal pooled slots r ≡ 0 → record_sound pooled slots r ≡ true
sound_of pooled slots r none =
    split (record_sound pooled slots r) (λ s. s) (λ b. let z : 34 ≡ 0 = unsound pooled slots r b ∙ none in absurd (omega (arith, z)))

-- A record that is asked nothing but its place is at 1 to 17.
module _ (r : Call) (none : place_refusal r ≡ 0) where
  pub low : 1 ≤ r.place
  low =
      split (eqb r.place 0)
      (λ z. let e : 31 ≡ 0 = sym (rw z) ∙ none in absurd (omega (arith, e)))
      (λ n. above (omega arith) (eqb-false _ _ n))

  pub high : r.place ≤ 17
  high =
      split (leb r.place 17)
      (leb-true _ _)
      (λ n. let l = low in let e : 34 ≡ 0 = sym (rw (ne_eqb r.place 0 (λ z. omega (arith, l, z)), n)) ∙ none in absurd (omega (arith, e)))

pub beyond : (r : Call) (n : ℕ) → r.place ≡ n → 18 ≤ n → place_refusal r ≡ 34
beyond r n at far = rw (ap (λ (k : ℕ). eqb k 0) at ∙ ne_eqb n 0 (λ z. omega (arith, far, z)), ap (λ (k : ℕ). leb k 17) at ∙ lt-leb n 17 far)

module _ (pooled slots : ℕ) (r : Call) where
  -- Of a record that is asked nothing but its place.
  pub at-place : (n : ℕ) → eqb n 0 ≡ false → leb n 17 ≡ true → r.place ≡ n → place_refusal r ≡ 0
  at-place n some within at = rw (ap (λ (k : ℕ). eqb k 0) at ∙ some, ap (λ (k : ℕ). leb k 17) at ∙ within)

  pub plans_at_place : (n : ℕ) → eqb n 0 ≡ false → leb n 17 ≡ true → r.place ≡ n
      → (p : PlannedTouch) → p ≡ within slots (planned pooled slots (at_place r n)) → p ≡ plan_unasked pooled slots r
  unfolding plan_unasked
  plans_at_place n some low at p e =
      e ∙ ap (λ (k : ℕ). within slots (planned pooled slots (at_place r k))) (sym at) ∙ rw (at-place n some low at)

  -- Where the slot was tested, or none is named.
  pub plans_row : (n : ℕ) → eqb n 0 ≡ false → leb n 17 ≡ true → r.place ≡ n → Within slots (planned pooled slots (at_place r n))
      → (p : PlannedTouch) → p ≡ planned pooled slots (at_place r n) → p ≡ plan_unasked pooled slots r
  plans_row n some low at ok p e = plans_at_place n some low at p (e ∙ sym (within_same slots (planned pooled slots (at_place r n)) ok))

  pub plans_none : (why : ℕ) → place_refusal r ≡ why → eqb why 0 ≡ false → (p : PlannedTouch) → p ≡ refuses why → p ≡ plan_unasked pooled slots r
  unfolding plan_unasked
  plans_none why is some p e = e ∙ rw (is, some)

  busy : (n : ℕ) → eqb n 0 ≡ false → r.place ≡ n → r.place ≡ 0 → ⊥
  busy n other at zero = eqb-false n 0 other (sym at ∙ zero)

  -- Of one that is sound.
  pub plans : record_sound (eqb pooled 1) slots r ≡ true → (n : ℕ) → eqb n 0 ≡ false → r.place ≡ n
      → (p : PlannedTouch) → p ≡ planned pooled slots (at_place r n) → p ≡ plan pooled slots r
  plans sound n other at p e = plans_at pooled slots r (sound_none pooled slots r sound (busy n other at)) n at p e
