-- The report. (Document 01: Places, below the table; document 02, #101 and #102.)
use Rattle.std.specs.Prelude.{Err, Ok}
use mathlib.Core.{Bool.{Bool, not, cond}, List.List}
use Rattle.std.specs.Prelude.{ℕ, ◌+◌}
use lib.{Dec.{eqb, ltb}, ListN.length}
use Rattle.word.specs.Anchor.{anchor_of}
use Rattle.model.specs.Outcomes.{Refused, Reported}
use Rattle.model.specs.{declared.Report.Report, Walk.{contents, met}, Lists.{count, listed}}
use Rattle.model.specs.{Tables.{Tables, Queue, marked, record_at, task_at}, Refusals.{records_fit, report_refusal}}

-- Busy: the tasks with a place other than 0.
unfoldable pub busy : Queue → ℕ
busy q = count (λ t. not (eqb (record_at q t).place 0)) q.tables.control.tasks

-- Waiting: the labels in the queue.
unfoldable pub waiting : Tables → ℕ
waiting q = length (met (contents q))

-- Taken: the marks set for slots 1 to slots.
unfoldable pub taken_slots : ℕ → List ℕ → ℕ
taken_slots slots marks = count (λ n. marked marks (n + 1)) slots

-- What is told, when busy is how many tasks are.
abbrev pub told : Tables → ℕ → Report
told q busy = record {
  anchor = anchor_of q.control.anchor;
  busy = busy;
  waiting = waiting q;
  taken = taken_slots q.control.slots q.marks;
}

unfoldable pub tell : Tables → Bool → ℕ → Reported
tell q enough busy =
    let why = report_refusal q enough in
    cond (eqb why 0) (Ok (told q busy)) (Refused why)

unfoldable pub report : Queue → Reported
report q = tell q.tables (records_fit q.tables.control.tasks q) (busy q)

-- The number of a report: 0 told, or that of a refusal.
abbrev pub report_code : Reported → ℕ
report_code (Ok r) = 0
report_code (Err refusal) = refusal.number

-- Retries: one count a task, in task order, with places for sixteen tasks: 0 beyond those opened. They stand beside the report.
unfoldable pub retry_counts : Queue → List ℕ
retry_counts q = listed (λ t. cond (ltb t q.tables.control.tasks) (task_at q t).retries 0) 16
