-- Why a record is refused before its place is looked at, or not.
use mathlib.Core.{Path.◌≡◌, Bool.{Bool, true, false}}
use Prim.Native.Nat.{ℕ}
use borrow.Author.Tests.{eq-eqb, ne_eqb}
use Rattle.model.specs.{declared.Call.Call, Sound.record_sound, Refusals.record_refusal}
use Rattle.sound.proofs.Parts.{idle-sound}

module _ (pooled : Bool) (slots : ℕ) (r : Call) where
  pub no_call : r.place ≡ 0 → 31 ≡ record_refusal pooled slots r
  unfolding record_refusal
  no_call idle = simp (idle-sound pooled slots r (eq-eqb _ _ idle), eq-eqb _ _ idle)

  pub unsound : record_sound pooled slots r ≡ false → 34 ≡ record_refusal pooled slots r
  unfolding record_refusal
  unsound e = simp e

  pub passes : (r.place ≡ 0 → ⊥) → record_sound pooled slots r ≡ true → record_refusal pooled slots r ≡ 0
  unfolding record_refusal
  passes busy e = simp (e, ne_eqb _ _ busy)
