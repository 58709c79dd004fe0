-- The mirror of a queue: left and right exchanged. (Document 01: Places, "for the left swap Left with Right, left end with right end, and RPUSH with LPUSH".)
use mathlib.Core.{Path.◌≡◌, List.map, Bool.{Bool, cond}}
use Rattle.std.specs.Prelude.{ℕ, eqb}
use Rattle.word.specs.{declared.Anchor.Anchor, Anchor.{anchor_of, anchor_word}}
use Rattle.model.specs.declared.{Control.Control, Call.Call, Record.Record}
use Rattle.model.specs.declared.Op.{Op, TheVariants.{Push, Pop, PushPooled, Step}}
use Rattle.model.specs.Tables.{Tables, Queue, tables_of, with_words, with_seen, of_kind, with_call}
use Rattle.model.specs.Calls.{OpenDone, Acted, Done, open_as, act, step_lent}

-- Sides 0 and 1 exchanged, RPUSH and LPUSH exchanged; any other number is kept.
unfoldable pub mirror_side : ℕ → ℕ
mirror_side side = cond (eqb side 0) 1 (cond (eqb side 1) 0 side)

unfoldable pub mirror_status : ℕ → ℕ
mirror_status status = cond (eqb status 1) 2 (cond (eqb status 2) 1 status)

abbrev pub mirror_anchor : Anchor → Anchor
mirror_anchor a = record { tag = a.tag; status = mirror_status a.status; left = a.right; right = a.left }

unfoldable pub mirror_word : ℕ → ℕ
mirror_word w = anchor_word (mirror_anchor (anchor_of w))

abbrev pub mirror_control : Control → Control
mirror_control c = with_words c (mirror_word c.anchor) c.head

abbrev pub mirror_tables : Tables → Tables
mirror_tables q = tables_of (mirror_control q.control) q.rights q.lefts q.labels q.marks q.next

-- A record's side and its Anchor as read. An idle record has no side.
abbrev pub mirror_busy : Call → Call
mirror_busy r = of_kind (with_seen r (mirror_word r.seen) r.finishing) r.kind (mirror_side r.side)

unfoldable pub mirror_record : Call → Call
mirror_record r = cond (eqb r.place 0) r (mirror_busy r)

abbrev pub mirror_task : Record → Record
mirror_task r = with_call r (mirror_record r.call)

abbrev pub mirror_queue : Queue → Queue
mirror_queue q = record { tables = mirror_tables q.tables; records = map mirror_task q.records }

abbrev pub mirror_op : Op → Op
mirror_op (Push side slot label) = Push (mirror_side side) slot label
mirror_op (Pop side) = Pop (mirror_side side)
mirror_op (PushPooled side label) = PushPooled (mirror_side side) label
mirror_op Step = Step

-- What a call leaves.
abbrev pub mirror_acted : Acted → Acted
mirror_acted a = record { tables = mirror_tables a.tables; task = mirror_task a.task; outcome = a.outcome }

abbrev pub mirror_opened : OpenDone → OpenDone
mirror_opened d = record { queue = mirror_queue d.queue; outcome = d.outcome }

abbrev pub mirror_done : Done → Done
mirror_done d = record { queue = mirror_queue d.queue; outcome = d.outcome }

-- What is promised: whatever an opening, a start or step, or a step on a lent record does to a queue, it does mirrored to the mirror; and the
-- mirror of the mirror is the queue itself.
pub record Mirrored : Type 0 where
  pub opening : (pooled : Bool) (q : Queue) (tasks slots tag : ℕ)
      → open_as pooled (mirror_queue q) tasks slots tag ≡ mirror_opened (open_as pooled q tasks slots tag)
  pub operation : (q : Queue) (t : ℕ) (o : Op) → act (mirror_queue q) t (mirror_op o) ≡ mirror_done (act q t o)
  pub lent : (q : Tables) (r : Record) → step_lent (mirror_tables q) (mirror_task r) ≡ mirror_acted (step_lent q r)
  pub twice : (q : Queue) → mirror_queue (mirror_queue q) ≡ q
