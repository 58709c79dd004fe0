-- A step of the search, and back.
use mathlib.Core.{Path.◌≡◌, Bool.not}
use Rattle.std.specs.Prelude.{ℕ, set}
use Rattle.model.specs.{Tables.{Queue, task_at, record_at}, Places.row, Ends.is_moved, Calls.{Done, back}}
use Rattle.engine.specs.StepAdmitted.{step_admitted}
use Rattle.layout.specs.Rows.{record_of}
use Rattle.schedule_model.specs.Undo.{saved, put_back}
use Rattle.schedule_search.specs.declared.undo.Kept.{Kept}

-- The step of a task whose queue is admitted, which is asked once for the whole search.
unfoldable pub moved : Queue → ℕ → Done
moved q t = back q t (step_admitted q.tables (task_at q t))

-- Task t stepped from q on: k holds what the step can write, as it was in q.
pub record Steps (q : Queue) (t : ℕ) (k : Kept) (q' : Queue) : Type 0 where
  pub record_kept : record_of k.row ≡ task_at q t
  pub words_kept : k.saved ≡ saved (row (record_at q t)) q.tables
  pub stopped : k.stopped ≡ not (is_moved (moved q t).outcome)
  pub queue : q' ≡ (moved q t).queue

-- All of it put back.
abbrev pub restored : Kept → ℕ → Queue → Queue
restored k t q = record { tables = put_back k.saved q.tables; records = set q.records t (record_of k.row) }
