-- One touch at a time: how far the shared tables may differ after a step. (Document 01: "moved one touch at a time".)
use mathlib.Core.{Path.◌≡◌, Logic.◌≢◌}
use Rattle.std.specs.Prelude.{ℕ, set}
use Rattle.model.specs.{declared.{Record.Record, Op.{Op, TheVariants.Step}}, Tables.with_taken}
use Rattle.model.specs.Tables.{Tables, Queue, record_at, task_at, with_anchor, with_head, linked, with_marks, with_next}
use Rattle.model.specs.Calls.{act, step_lent}

-- After a step at a place: tables q, or those that differ from q in one word: Anchor, a link word, a word of marks, a next, the head.
-- At 14 alone, where a slot is drawn, head, label and mark are set at once.
pub data OneTouch (place : ℕ) (q : Tables) : Tables → Type 0 where
  untouched : OneTouch place q q
  anchor : (w : ℕ) → OneTouch place q (with_anchor q w)
  link : (side x w : ℕ) → OneTouch place q (linked q side x w)
  mark : (x w : ℕ) → OneTouch place q (with_marks q (set q.marks x w))
  next : (x v : ℕ) → OneTouch place q (with_next q (set q.next x v))
  head : (w : ℕ) → OneTouch place q (with_head q w)
  drawn : (w x l : ℕ) → place ≡ 14 → OneTouch place q (with_taken (with_head q w) x l)

-- What is promised of every step, of a task and of a lent record; and that no start or step changes the record of another task.
pub record TouchesOnce : Type 0 where
  pub operation : (q : Queue) (t : ℕ) → OneTouch (record_at q t).place q.tables (act q t Step).queue.tables
  pub lent : (q : Tables) (r : Record) → OneTouch r.call.place q (step_lent q r).tables
  pub others : (q : Queue) (t u : ℕ) (o : Op) → u ≢ t → task_at (act q t o).queue u ≡ task_at q u
