-- Lists in which a step on one lent record takes the place of its task's step. (Document 01: The clerk.)
use mathlib.Core.{Path.◌≡◌, Logic.◌≢◌, List.{List, [], ◌∷◌, map}}
use Rattle.std.specs.Prelude.{ℕ, ◌<◌, ◌≤◌, length}
use Rattle.model.specs.Outcomes.{Refused}
use Rattle.model.specs.{declared.{Record.Record, Op.TheVariants.Step}, Lists.All}
use Rattle.model.specs.{Tables.{Tables, Queue, task_at}, Calls.{Done, back, act, step_lent}}
use Rattle.model.specs.History.{Request, Event, run, final}

-- An operation of the list; or a task's record is lent, moved on by one step, and put back as the task's row.
pub data Turn : Type 0 where
  requested : Request → Turn
  lent : (task : ℕ) → Turn

-- What it stands for in the list.
abbrev pub request_of : Turn → Request
request_of (requested o) = o
request_of (lent t) = record { task = t; op = Step }

unfoldable pub take_turn : Queue → Turn → Done
take_turn q (requested o) = act q o.task o.op
take_turn q (lent t) = back q t (step_lent q.tables (task_at q t))

-- The events of such a list, and the queue after it, as `run` and `final` of one without.
unfoldable pub run_turns : Queue → List Turn → List Event
run_turns q [] = []
run_turns q (u ∷ us) =
    let d = take_turn q u in
    let o = request_of u in
    record { task = o.task; op = o.op; outcome = d.outcome; before = q.tables.control.anchor; after = d.queue.tables.control.anchor }
    ∷ run_turns d.queue us

unfoldable pub final_turns : Queue → List Turn → Queue
final_turns q [] = q
final_turns q (u ∷ us) = final_turns (take_turn q u).queue us

-- A record can be lent for a task that there is.
abbrev pub Lendable : ℕ → Turn → Type 0
Lendable tasks (requested o) = Unit {0}
Lendable tasks (lent t) = t < tasks

-- The events and the queue are those of the list without lent records; so every promise of such lists holds.
pub record AsSteps (q : Queue) (us : List Turn) : Type 0 where
  pub events : run_turns q us ≡ run q (map request_of us)
  pub queue : final_turns q us ≡ final q (map request_of us)

abbrev pub LentStand : Type 0
LentStand = (q : Queue) (us : List Turn) → q.tables.control.tasks ≤ length q.records → All (Lendable q.tables.control.tasks) us → AsSteps q us

-- 13 can't occur on a lent record.
abbrev pub LentKnown : Type 0
LentKnown = (q : Tables) (r : Record) → (step_lent q r).outcome ≢ Refused 13
