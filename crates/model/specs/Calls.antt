-- What every call answers and what each table then holds. (Document 01: Tables, Places, and how a call is refused.)
use Rattle.std.specs.Prelude.{Err, Ok}
use mathlib.Core.{Bool.{Bool, true, false, cond}, List.{List, ◌∷◌, ◌++◌}}
use Rattle.std.specs.Prelude.{ℕ, ◌+◌, ◌/◌}
use lib.{Dec.eqb, ListN.{get_or, set, drop}}
use Rattle.model.specs.Outcomes.{Moved, Opened, Opening, Outcome, Refused}
use Rattle.model.specs.declared.{Call.Call, Record.Record, Entry.Entry, Reply.Reply}
use Rattle.model.specs.{Refusals.step_refusal}
use Rattle.model.specs.{declared.Op.{Op, TheVariants.{Push, Pop, PushPooled, Step}}, Lists.{zeroed, climb}}
use Rattle.model.specs.declared.Answer.TheVariants.{Running, Pushed, Empty, Popped, NoFreeSlot}
use Rattle.model.specs.Tables.{Tables, Queue, tables_of, opened_control, unused, counting, with_call, started}
use Rattle.model.specs.{Tables.{asking, task_at, with_taken}, Places.{row, word_found, Move, move, apply}}
use Rattle.model.specs.Route.{route, onward, answer, goes, counted}
use Rattle.model.specs.Refusals.{open_refusal, Lent, among, alone, push_refusal, push_pooled_refusal, pop_refusal}

-- A next table with all slots stacked, slot 1 on top: row n holds n + 1, rows 0 and slots hold 0; rows beyond are as they were.
abbrev pub stacked : ℕ → List ℕ → List ℕ
stacked slots l = 0 ∷ climb 2 slots ++ drop (slots + 1) l

-- Opening: rows 0 to slots, the records, their counts and marks zeroed; control as `opened_control` has it. A pooled opening also stacks all slots.
unfoldable pub opened : Bool → Queue → ℕ → ℕ → ℕ → Queue
opened pooled q tasks slots tag = record {
  tables =
      tables_of (opened_control pooled tasks slots tag)
      (zeroed (slots + 1) 0 q.tables.lefts)
      (zeroed (slots + 1) 0 q.tables.rights)
      (zeroed (slots + 1) 0 q.tables.labels)
      (zeroed (slots / 64 + 1) 0 q.tables.marks)
      (cond pooled (stacked slots q.tables.next) q.tables.next);
  records = zeroed tasks unused q.records;
}

pub record OpenDone : Type 0 where
  pub queue : Queue
  pub outcome : Opening

unfoldable pub open_as : Bool → Queue → ℕ → ℕ → ℕ → OpenDone
open_as pooled q tasks slots tag =
    let why = open_refusal pooled q tasks slots in
    cond (eqb why 0)
    (record { queue = opened pooled q tasks slots tag; outcome = Opened })
    (record { queue = q; outcome = Refused why })

-- The two ways of opening.
abbrev pub open_queue : Queue → ℕ → ℕ → ℕ → OpenDone
open_queue q tasks slots tag = open_as false q tasks slots tag

abbrev pub open_pooled : Queue → ℕ → ℕ → ℕ → OpenDone
open_pooled q tasks slots tag = open_as true q tasks slots tag

-- What a start or step of one record leaves of tables and record, and its outcome.
pub record Acted : Type 0 where
  pub tables : Tables
  pub task : Record
  pub outcome : Outcome

-- A refusal is its number alone; everything keeps its contents.
abbrev pub decide : ℕ → Tables → Record → Acted → Acted
decide why q r done = cond (eqb why 0) done (record { tables = q; task = r; outcome = Refused why })

-- A push start also stores the label in the named slot's row and sets its mark.
unfoldable pub push_start : Tables → Lent → Record → ℕ → ℕ → ℕ → Acted
push_start q p r side slot label =
    decide (push_refusal q p r.call side slot) q r
    (record { tables = with_taken q slot label; task = with_call r (started 0 side slot label); outcome = Moved (Running 1) })

-- One that names no slot only writes the record.
unfoldable pub push_pooled_start : Tables → Lent → Record → ℕ → ℕ → Acted
push_pooled_start q p r side label =
    decide (push_pooled_refusal q p r.call side) q r
    (record { tables = q; task = with_call r (asking side label); outcome = Moved (Running 12) })

unfoldable pub pop_start : Tables → Lent → Record → ℕ → Acted
pop_start q p r side =
    decide (pop_refusal q p r.call side) q r
    (record { tables = q; task = with_call r (started 1 side 0 0); outcome = Moved (Running 1) })

-- The entry that a pop answers: the end taken with the label found, or, once the slot is given back, the record's.
abbrev pub entry_of : Tables → Call → Entry
entry_of q r = record { slot = row r; label = cond (eqb r.place 17) r.label (get_or q.labels (row r) 0) }

-- A place's move made: its touch, the call gone on, a failed change counted, the answer.
unfoldable pub finish : Tables → Record → Move → Acted
finish q r m =
    let n = onward (route r.call.place r.call.kind m.branch) m.task.finishing in
    record {
      tables = apply m.touch q;
      task = counting (goes m.task n) (counted r.retries m.failed);
      outcome = Moved (answer n (entry_of q r.call));
    }

unfoldable pub step : Tables → Lent → Record → Acted
step q p r = decide (step_refusal q p r.call) q r (finish q r (move q.control r.call (word_found q r.call)))

-- A start or step of one record.
unfoldable pub act_on : Tables → Lent → Record → Op → Acted
act_on q p r (Push side slot label) = push_start q p r side slot label
act_on q p r (Pop side) = pop_start q p r side
act_on q p r (PushPooled side label) = push_pooled_start q p r side label
act_on q p r Step = step q p r

-- A start or step of task t: its record is put back where it lay.
pub record Done : Type 0 where
  pub queue : Queue
  pub outcome : Outcome

abbrev pub back : Queue → ℕ → Acted → Done
back q t a = record { queue = record { tables = a.tables; records = set q.records t a.task }; outcome = a.outcome }

unfoldable pub act : Queue → ℕ → Op → Done
act q t o = back q t (act_on q.tables (among q t) (task_at q t) o)

-- A step on one lent record.
unfoldable pub step_lent : Tables → Record → Acted
step_lent q r = step q alone r

-- The number of an opening: 0 carried out, or that of a refusal.
abbrev pub opening_code : Opening → ℕ
opening_code (Ok u) = 0
opening_code (Err refusal) = refusal.number

-- The number and values of each outcome.
abbrev pub reply_of : Outcome → Reply
reply_of (Err refusal) = record { code = refusal.number; label = 0; value = 0 }
reply_of (Ok (Running p)) = record { code = 1; label = 0; value = p }
reply_of (Ok Pushed) = record { code = 2; label = 0; value = 0 }
reply_of (Ok Empty) = record { code = 3; label = 0; value = 0 }
reply_of (Ok (Popped e)) = record { code = 4; label = e.label; value = e.slot }
reply_of (Ok NoFreeSlot) = record { code = 5; label = 0; value = 0 }
