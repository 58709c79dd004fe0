-- The plan of a record that is refused, idle or sound.
use mathlib.Core.{Path.{◌≡◌, ap, sym, ◌∙◌}, Bool.true, List.[]}
use Prim.Native.Nat.{ℕ, ◌≤◌}
use lib.Dec.{eqb}
use borrow.Author.Tests.{eq-eqb, ne_eqb}
use Rattle.model.specs.{declared.Call.Call, Tables.{tables_of, at_place, counting}, Sound.record_sound}
use Rattle.model.specs.Refusals.{record_refusal}
use Rattle.engine.proofs.InParts.{placed, below_18}
use Rattle.threads_model.specs.{declared.PlannedTouch.PlannedTouch, Split.{knowing, refuses, planned, plan}}

module _ (pooled slots : ℕ) (r : Call) where
  abbrev why : ℕ
  why = record_refusal (eqb pooled 1) slots r

  pub refuses-plan : (n : ℕ) → n ≡ why → (n ≡ 0 → ⊥) → refuses n ≡ plan pooled slots r
  unfolding plan
  refuses-plan n e h = rw (← e, ne_eqb _ _ h)

  pub idle-plan : r.place ≡ 0 → refuses 31 ≡ plan pooled slots r
  unfolding plan record_refusal record_sound
  idle-plan e = rw (eq-eqb _ _ e)

  pub sound_none : record_sound (eqb pooled 1) slots r ≡ true → (r.place ≡ 0 → ⊥) → record_refusal (eqb pooled 1) slots r ≡ 0
  unfolding record_refusal
  sound_none s b = rw (s, ne_eqb _ _ b)

  module _ (none : why ≡ 0) where
    pub low : 1 ≤ r.place
    low = (placed (tables_of (knowing pooled slots 0 0) [] [] [] [] []) (counting r 0) none).0

    pub high : r.place ≤ 17
    high = below_18 (tables_of (knowing pooled slots 0 0) [] [] [] [] []) (counting r 0) none

    pub plans_at : (n : ℕ) → r.place ≡ n → (p : PlannedTouch) → p ≡ planned pooled slots (at_place r n) → p ≡ plan pooled slots r
    unfolding plan
    plans_at n at p e = e ∙ ap (λ (k : ℕ). planned pooled slots (at_place r k)) (sym at) ∙ rw none
