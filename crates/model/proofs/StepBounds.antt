-- Request #108: how long a call may hold up.
use mathlib.Core.{Bool.Bool, List.List, Path.{subst, subst₂, sym}}
use Prim.Native.Nat.{◌≤◌, ℕ}
use Rattle.model.specs.{Calls.opened, Solo.solo_run, History.{AfterOpening, Request, final, run}}
use Rattle.model.specs.Progress.{AnsweredWithin, SoloBound, SoloWithin, StretchBound, StretchProgresses, limit}
use Rattle.model.specs.{Progress.{steps, stretch_limit}, Tables.{Queue, record_at}}
use Rattle.model.proofs.Progress.{AloneSteps.solo-within, TogetherSteps.stretch_progresses}
use Rattle.model.proofs.{Progress.Reached.{Reached, final_reached, open_reached}, Openings.after-opening}

-- What holds of every reached queue.
opening : (P : Queue → List Request → Type 0) → ((pooled : Bool) (tasks : ℕ) (q : Queue) → Reached pooled tasks q → (os : List Request) → P q os)
    → AfterOpening P
opening P h pooled = after-opening pooled P (λ q tasks slots tag e os.
    h pooled tasks (opened pooled q tasks slots tag) (open_reached pooled tasks q slots tag e) os)

pub solo-bound : SoloBound
solo-bound = opening SoloWithin (λ pooled tasks q z os t n b.
    let now = final q os in
    subst (λ way. limit way (record_at now t).kind ≤ n → AnsweredWithin (limit way (record_at now t).kind) (solo_run n now t)) (sym z.roomy.way)
    (solo-within pooled tasks now (final_reached pooled tasks os q z) t n b))

pub stretch-bound : StretchBound
stretch-bound = opening StretchProgresses (λ pooled tasks q z os stretch le.
    stretch_progresses pooled tasks (final q os) (final_reached pooled tasks os q z) stretch
    (subst₂ (λ way n. stretch_limit way n ≤ steps (run (final q os) stretch)) z.roomy.way z.roomy.tasks_are le))
