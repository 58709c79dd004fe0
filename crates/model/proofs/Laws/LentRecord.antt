-- A step on one lent record answers, and leaves record and tables, as the step of its task does with the record as the task's row.
use mathlib.Core.Path.{◌≡◌, ap₂, ◌∙◌}
use Prim.Native.Nat.{ℕ, ◌≤◌, ◌<◌}
use native.Mathlib.Omega.{arith}
use lib.{ListN.{length, set, length-set}, Seq.{set-set, get_or-set_same}}
use borrow.Author.Tests.{lt-ltb, le-leb}
use Rattle.model.specs.{declared.{Record.Record, Op.TheVariants.Step}, Tables.{Queue, unused, task_at}}
use Rattle.model.specs.{Refusals.{Lent, among, alone}, Calls.{Acted, step, act_on, back, act, step_lent}}

-- The queue with a record as the row of task t.
abbrev pub with_row : Queue → ℕ → Record → Queue
with_row q t r = record { tables = q.tables; records = set q.records t r }

module _ (q : Queue) (t : ℕ) (r : Record) (task : t < q.tables.control.tasks) (long : q.tables.control.tasks ≤ length q.records) where
  row-lent : task_at (with_row q t r) t ≡ r
  row-lent = get_or-set_same q.records t r unused (omega arith)

  -- 13 does not occur, and 12 finds enough records.
  seen_lent : among (with_row q t r) t ≡ alone
  seen_lent = λ i. record {
    enough = le-leb q.tables.control.tasks (length (set q.records t r)) (rw length-set long) i;
    known = lt-ltb t q.tables.control.tasks task i;
  }

  pub lent_record : act (with_row q t r) t Step ≡ back q t (step_lent q.tables r)
  unfolding act act_on step_lent
  lent_record = ap₂ (λ (p : Lent) (x : Record). back (with_row q t r) t (step q.tables p x)) seen_lent row-lent ∙ put_back (step_lent q.tables r)
    where
      put_back : (a : Acted) → back (with_row q t r) t a ≡ back q t a
      put_back a = λ i. record { queue = record { tables = a.tables; records = set-set q.records t r a.task i }; outcome = a.outcome }
