-- A run is refused only where its first step is, with that step's number; then, and where no step was made, every table keeps its contents.
use mathlib.Core.{Bool.true, Path.{◌≡◌, refl, ap}}
use Prim.Native.Nat.{ℕ, zero, suc}
use native.Mathlib.Omega.{arith}
use Rattle.model.specs.Outcomes.{Refused}
use Rattle.model.specs.{declared.Op.TheVariants.Step, Tables.Queue, Calls.act}
use Rattle.model.specs.{Ends.{is_moved, is_running}, Solo.{SoloDone, solo_steps, solo_run}}
use Rattle.model.proofs.Tests.Truth.{by_test, either, not_both}

abbrev Unrefused : SoloDone → Type 0
Unrefused d = is_moved d.outcome ≡ true

goes_on : (n : ℕ) (q : Queue) (t : ℕ) → Unrefused (solo_steps n q t)
unfolding solo_steps
goes_on zero q t = refl
goes_on (suc n) q t =
    let d = act q t Step in
    either Unrefused (is_running d.outcome) (goes_on n d.queue t) (by_test Unrefused (is_moved d.outcome) (λ e. e) (λ _. refl))

pub run-refused : (n : ℕ) (q : Queue) (t : ℕ) (why : ℕ) → (solo_run n q t).outcome ≡ Refused why
    → ((act q t Step).outcome ≡ Refused why) × ((solo_run n q t).queue ≡ q)
unfolding solo_run
run-refused n q t why =
    by_test (λ (d : SoloDone). d.outcome ≡ Refused why → ((act q t Step).outcome ≡ Refused why) × (d.queue ≡ q)) (is_moved (act q t Step).outcome)
    (λ _ e. absurd (not_both (goes_on n q t) (ap is_moved e)))
    (λ _ e. (e, refl))

pub none_made : (n : ℕ) (q : Queue) (t : ℕ) → (solo_run n q t).steps ≡ 0 → (solo_run n q t).queue ≡ q
unfolding solo_run solo_steps
none_made n q t =
    either Still (is_moved (act q t Step).outcome) (still n) (λ _. refl)
  where
    Still : SoloDone → Type 0
    Still d = d.steps ≡ 0 → d.queue ≡ q

    still : (n : ℕ) → Still (solo_steps n q t)
    still zero = λ _. refl
    still (suc n) =
        let d = act q t Step in
        either Still (is_running d.outcome) (λ e. absurd (omega (arith, e)))
        (either Still (is_moved d.outcome) (λ e. absurd (omega (arith, e))) (λ _. refl))
