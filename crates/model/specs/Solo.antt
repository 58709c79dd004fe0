-- A task stepped until it answers. (Request #108.)
use mathlib.Core.{Bool.{cond, true}, List.{List, [], ◌∷◌}, Logic.◌≢◌, Path.◌≡◌}
use Rattle.std.specs.Prelude.{ℕ, zero, suc, replicate}
use Rattle.model.specs.Outcomes.{Moved, Outcome, Refused}
use Rattle.model.specs.declared.{Answer.TheVariants.Running}
use Rattle.model.specs.{declared.Op.TheVariants.Step, Tables.{Queue, record_at}, Calls.{Done, act}, Lists.All}
use Rattle.model.specs.{Ends.{is_moved, is_running}, History.{AfterOpening, Event, Request, final, run}}

-- What a run leaves, its outcome, and how many steps were made.
pub record SoloDone : Type 0 where
  pub queue : Queue
  pub outcome : Outcome
  pub steps : ℕ

-- No step is made: task t is running at its place.
abbrev pub resting : Queue → ℕ → SoloDone
resting q t = record { queue = q; outcome = Moved (Running (record_at q t).place); steps = 0 }

-- The step that answers.
abbrev pub last_step : Done → SoloDone
last_step d = record { queue = d.queue; outcome = d.outcome; steps = 1 }

abbrev pub one_more : SoloDone → SoloDone
one_more d = record { queue = d.queue; outcome = d.outcome; steps = suc d.steps }

-- Task t is stepped until it answers, n times at the most. A step that would be refused is not made, and no other after it.
unfoldable pub solo_steps : ℕ → Queue → ℕ → SoloDone
solo_steps zero q t = resting q t
solo_steps (suc n) q t =
    let d = act q t Step in
    cond (is_running d.outcome) (one_more (solo_steps n d.queue t)) (cond (is_moved d.outcome) (last_step d) (resting q t))

-- A run is refused by what its first step would be refused by, whatever n; so a refusal changes nothing.
unfoldable pub solo_run : ℕ → Queue → ℕ → SoloDone
solo_run n q t =
    let o = (act q t Step).outcome in
    cond (is_moved o) (solo_steps n q t) (record { queue = q; outcome = o; steps = 0 })

-- So many steps of task t, one after the other.
abbrev pub steps_of : ℕ → ℕ → List Request
steps_of t n = replicate n (record { task = t; op = Step })

-- What the last event tells; o, where there is none.
unfoldable pub last_told : Outcome → List Event → Outcome
last_told o [] = o
last_told o (e ∷ es) = last_told e.outcome es

-- A run is the steps that it made, each accepted, and tells what the last of them tells; so every promise of lists holds of runs.
-- (Document 01, the clerk: the list of starts and steps.)
pub record RunIsSteps (n : ℕ) (q : Queue) (t : ℕ) : Type 0 where
  pub queue : let d = solo_run n q t in d.queue ≡ final q (steps_of t d.steps)
  pub accepted : All (λ (e : Event). is_moved e.outcome ≡ true) (run q (steps_of t (solo_run n q t).steps))
  pub told : let d = solo_run n q t in d.outcome ≡ last_told (solo_run 0 q t).outcome (run q (steps_of t d.steps))

abbrev pub RunsAreSteps : Type 0
RunsAreSteps = (n : ℕ) (q : Queue) (t : ℕ) → RunIsSteps n q t

-- From an opening on no run is refused 34.
abbrev pub RunNever34 : Type 0
RunNever34 = AfterOpening (λ q os. (n t : ℕ) → (solo_run n (final q os) t).outcome ≢ Refused 34)
