-- A refused run is its first step's refusal.
use mathlib.Core.{Bool.cond, Path.ap}
use Prim.Native.Nat.{ℕ}
use Rattle.model.specs.Outcomes.{Outcome}
use Rattle.model.specs.{Tables.Queue, Ends.is_moved, Solo.{SoloDone, solo_run, solo_steps}}
use Rattle.model.proofs.Laws.Runs.{run-refused}
use Rattle.capi_run.specs.{Replies.ran, Laws.RefusalKeeps}

-- The run of a task whose first step has the outcome o.
abbrev by : ℕ → Queue → ℕ → Outcome → SoloDone
by n q t o = cond (is_moved o) (solo_steps n q t) (record { queue = q; outcome = o; steps = 0 })

pub refusal-keeps : RefusalKeeps
unfolding solo_run
refusal-keeps n q t us why e =
    let first = (run-refused n q t why e).0 in
    record { first = first; kept = ap (λ (o : Outcome). ran t us (by n q t o)) first }
