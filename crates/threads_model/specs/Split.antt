-- A step split at its touch of shared memory: `plan`, what a task's own record says that the step does there; `perform`, that touch made as one
-- act; `settle`, what the record, with the word found, comes to. Neither plan nor settle sees a shared table. Promises are in crate `threads`.
use Rattle.std.specs.Prelude.{Bool, ◌&&◌, ◌||◌, not, cond, ℕ, ◌%◌, ◌^◌}
use lib.{Dec.{eqb, leb}, ListN.{get_or, set}}
use Rattle.word.specs.{Anchor.anchor_of, Link.{link_of, pack_link}}
use Rattle.model.specs.{declared.{Control.Control, Call.Call, Record.Record, Entry.Entry}, Tables.with_next, Sides.links}
use Rattle.model.specs.Outcomes.{Moved, Outcome, Refused}
use Rattle.model.specs.{Calls.Acted, Kinds.{drawing, giving}}
use Rattle.model.specs.Tables.{with_taken, Tables, at_place, counting, with_mark, with_anchor, with_head, linked, with_marks}
use Rattle.model.specs.{Sound.{from1, anchor_sound, link_sound}, Places.{take_slot, set_next, set_head}}
use Rattle.model.specs.Places.{end_seen, row, link_side, Move, move, Touch, nothing, set_anchor, set_link, clear_mark}
use Rattle.model.specs.Route.{route, onward, answer, goes, counted}
use Rattle.model.specs.Refusals.{needs_row, meets_link, leaves_sound, has_room, step_sound, record_refusal}
use Rattle.threads_model.specs.declared.PlannedTouch.{PlannedTouch}

-- PLAN. What the executive is asked to do: `act` says what, side and slot where, the other fields with which words.
abbrev pub plan_of : ℕ → ℕ → ℕ → ℕ → ℕ → ℕ → PlannedTouch
plan_of act side slot expected word label =
    record { act = act; label = label; side = side; slot = slot; expected = expected; word = word }

-- 0: nothing; the step is refused by this number.
abbrev pub refuses : ℕ → PlannedTouch
refuses n = plan_of 0 0 0 0 n 0

-- 1, 2: read Anchor; change it from a word to a word.
abbrev pub loads_anchor : PlannedTouch
loads_anchor = plan_of 1 0 0 0 0 0

abbrev pub swaps_anchor : ℕ → ℕ → PlannedTouch
swaps_anchor expected word = plan_of 2 0 0 expected word 0

-- 3, 4, 5: read a slot's link word that leads to a side; change it; put a slot into it, its tag kept.
abbrev pub loads_link : ℕ → ℕ → PlannedTouch
loads_link side slot = plan_of 3 side slot 0 0 0

abbrev pub swaps_link : ℕ → ℕ → ℕ → ℕ → PlannedTouch
swaps_link side slot expected word = plan_of 4 side slot expected word 0

abbrev pub puts_link : ℕ → ℕ → ℕ → PlannedTouch
puts_link side slot end = plan_of 5 side slot 0 end 0

-- 6: read a slot's label and clear its mark.
abbrev pub takes_label : ℕ → PlannedTouch
takes_label slot = plan_of 6 0 slot 0 0 0

-- 7, 8, 9: read the head; change it; change it and, if that was done, store the label of the slot drawn and set its mark.
abbrev pub loads_head : PlannedTouch
loads_head = plan_of 7 0 0 0 0 0

abbrev pub swaps_head : ℕ → ℕ → PlannedTouch
swaps_head expected word = plan_of 8 0 0 expected word 0

abbrev pub draws_slot : ℕ → ℕ → ℕ → ℕ → PlannedTouch
draws_slot expected word slot label = plan_of 9 0 slot expected word label

-- 10, 11: read a slot's next; store it.
abbrev pub loads_next : ℕ → PlannedTouch
loads_next slot = plan_of 10 0 slot 0 0 0

abbrev pub stores_next : ℕ → ℕ → PlannedTouch
stores_next slot next = plan_of 11 0 slot 0 next 0

-- The control that a task knows by itself, slots and kind of queue; a word stands for Anchor, one for the head.
abbrev pub knowing : ℕ → ℕ → ℕ → ℕ → Control
knowing pooled slots anchor head = record { tasks = 1; slots = slots; anchor = anchor; pooled = pooled; head = head }

-- The touch of a place that finds every word as it was read: what it writes where it writes.
abbrev pub touch_as_read : ℕ → ℕ → Call → Touch
touch_as_read pooled slots r = (move (knowing pooled slots r.seen r.link) r r.link).touch

-- The word that a place reads: a link word at 3, 5, 7 and 9, a next at 13, the head at 12, 14, 15 and 17, else Anchor.
unfoldable pub loads : Call → PlannedTouch
loads r =
    cond (meets_link r || eqb r.place 9) (loads_link (link_side r) (row r))
    (cond (eqb r.place 13) (loads_next (row r))
    (cond (drawing r || giving r) loads_head
    loads_anchor))

abbrev pub asks : Call → Touch → PlannedTouch
asks r nothing = loads r
asks r (set_anchor w) = swaps_anchor r.seen w
asks r (set_link side x w) = cond (eqb r.place 3) (puts_link side x (end_seen r)) (swaps_link side x r.link w)
asks r (clear_mark x) = takes_label x
asks r (take_slot w x l) = draws_slot r.link w x l
asks r (set_next x v) = stores_next x v
asks r (set_head w) = swaps_head r.link w

-- 34 for a row outside 1 to slots. A change that may not be made, since it would leave Anchor unsound or raise a tag past 32 bits, is only a reading:
-- where the word is still as read the step is refused (`settle`), else the change has failed.
abbrev pub plan_for : ℕ → Call → Touch → PlannedTouch
plan_for slots r t =
    cond (needs_row r && not (from1 slots (row r))) (refuses 34)
    (cond (leaves_sound slots t && has_room r t) (asks r t) (loads r))

unfoldable pub planned : ℕ → ℕ → Call → PlannedTouch
planned pooled slots r = plan_for slots r (touch_as_read pooled slots r)

-- 34 and 31 for the record come first.
unfoldable pub plan : ℕ → ℕ → Call → PlannedTouch
plan pooled slots r =
    let why = record_refusal (eqb pooled 1) slots r in
    cond (eqb why 0) (planned pooled slots r) (refuses why)

-- A record that is known to be sound, as a start or a settlement leaves it, is asked nothing but its place: 31 where it is idle, 34 beyond 17.
abbrev pub place_refusal : Call → ℕ
place_refusal r = cond (eqb r.place 0) 31 (cond (leb r.place 17) 0 34)

-- The touches of a slot's row, its label or its mark: 3 to 6 and 9 to 11. 34 where there is no such slot, whatever the record holds.
abbrev pub on_row : ℕ → Bool
on_row act = (leb 3 act && leb act 6) || leb 9 act

abbrev pub within : ℕ → PlannedTouch → PlannedTouch
within slots p = cond (on_row p.act && not (from1 slots p.slot)) (refuses 34) p

unfoldable pub plan_unasked : ℕ → ℕ → Call → PlannedTouch
plan_unasked pooled slots r =
    let why = place_refusal r in
    cond (eqb why 0) (within slots (planned pooled slots r)) (refuses why)

-- PERFORM. The touch as one act: the tables after it, and the word found.
pub record Touched : Type 0 where
  pub tables : Tables
  pub found : ℕ

abbrev pub found : Tables → ℕ → Touched
found q w = record { tables = q; found = w }

-- A change: made only where the word found is the one expected.
abbrev pub swapped : Tables → ℕ → ℕ → Tables → Touched
swapped q w expected q' = record { tables = cond (eqb w expected) q' q; found = w }

unfoldable pub perform : Tables → PlannedTouch → Touched
perform q p =
    let anchor = q.control.anchor in
    let head = q.control.head in
    let link = get_or (links q p.side) p.slot 0 in
    cond (eqb p.act 1) (found q anchor)
    (cond (eqb p.act 2) (swapped q anchor p.expected (with_anchor q p.word))
    (cond (eqb p.act 3) (found q link)
    (cond (eqb p.act 4) (swapped q link p.expected (linked q p.side p.slot p.word))
    (cond (eqb p.act 5)
    (record {
      tables =
          cond (link_sound q.control.slots link) (linked q p.side p.slot (pack_link (record { tag = (link_of link).tag; slot = p.word })))
          q;
      found = link;
    })
    (cond (eqb p.act 6) (record { tables = with_marks q (with_mark q.marks p.slot 0); found = get_or q.labels p.slot 0 })
    (cond (eqb p.act 7) (found q head)
    (cond (eqb p.act 8) (swapped q head p.expected (with_head q p.word))
    (cond (eqb p.act 9) (swapped q head p.expected (with_taken (with_head q p.word) p.slot p.label))
    (cond (eqb p.act 10) (found q (get_or q.next p.slot 0))
    (cond (eqb p.act 11) (found (with_next q (set q.next p.slot p.word)) 0)
    (found q 0)))))))))))

-- SETTLE. What is left of the record, and the outcome.
pub record Settled : Type 0 where
  pub task : Record
  pub outcome : Outcome

abbrev pub refusing : Record → ℕ → Settled
refusing r why = record { task = r; outcome = Refused why }

-- The entry that a pop answers: w is the label found at 11; at 17 the record has it.
abbrev pub entry_found : Call → ℕ → Entry
entry_found r w = record { slot = row r; label = cond (eqb r.place 17) r.label w }

-- The call gone on after its place's move.
unfoldable pub gone : Record → ℕ → Move → Settled
gone r w m =
    let n = onward (route r.call.place r.call.kind m.branch) m.task.finishing in
    record {
      task = counting (goes m.task n) (counted r.retries m.failed);
      outcome = Moved (answer n (entry_found r.call w));
    }

-- At place n: 34 for what the step has met, else its move, with w for the word found, wherever it stood.
unfoldable pub settled_at : ℕ → Control → Call → ℕ → ℕ → Settled
settled_at n c r w retries =
    let s = at_place r n in
    cond (step_sound c s w) (gone (counting s retries) w (move c s w)) (refusing (counting r retries) 34)

-- The word found is Anchor's.
unfoldable pub meets_anchor : Call → Bool
meets_anchor r = not (needs_row r) && not (drawing r || giving r)

-- 34 and 31 for the record, then 34 for an Anchor found that is unsound; the record stays.
unfoldable pub settle : ℕ → ℕ → Record → ℕ → Settled
settle pooled slots r w =
    let why = record_refusal (eqb pooled 1) slots r.call in
    cond (eqb why 0)
    (cond (meets_anchor r.call && not (anchor_sound slots (anchor_of w))) (refusing r 34)
    (settled_at r.call.place (knowing pooled slots w w) r.call w r.retries))
    (refusing r why)

-- The same of a record that is asked nothing but its place; an Anchor that is as read is not tested again.
unfoldable pub settle_unasked : ℕ → ℕ → Record → ℕ → Settled
settle_unasked pooled slots r w =
    let why = place_refusal r.call in
    cond (eqb why 0)
    (cond (meets_anchor r.call && not (eqb w r.call.seen) && not (anchor_sound slots (anchor_of w))) (refusing r 34)
    (settled_at r.call.place (knowing pooled slots w w) r.call w r.retries))
    (refusing r why)

-- The three in one.
unfoldable pub split_step : Tables → Record → Acted
split_step q r =
    let c = q.control in
    let d = perform q (plan c.pooled c.slots r.call) in
    let s = settle c.pooled c.slots r d.found in
    record { tables = d.tables; task = s.task; outcome = s.outcome }

-- A label has 32 bits: of a word handed back as one, the lower half.
abbrev pub heard_as : Call → ℕ → ℕ
heard_as r w = cond (eqb r.place 11) (w % 2 ^ 32) w
