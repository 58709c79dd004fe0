-- What each place does: one touch of the shared tables at the most. (Document 01: Places, the table's columns push and pop.)
use Rattle.std.specs.Prelude.{Bool, true, false, ◌&&◌, ◌||◌, cond, ℕ, ◌+◌}
use lib.{Dec.eqb, ListN.{get_or, set}}
use Rattle.word.specs.{declared.Anchor.Anchor, Anchor.{anchor_of, pack_anchor}, Link.{link_of, pack_link}}
use Rattle.model.specs.{declared.{Control.Control, Call.Call}, Kinds.{is_push, is_pop, helping}}
use Rattle.model.specs.Tables.{Tables, is_pooled, with_mark, with_own, with_seen, with_neighbour, with_link, with_anchor}
use Rattle.model.specs.Tables.{with_head, linked, with_marks, with_next, with_taken}
use Rattle.model.specs.Sides.{opposite, near, far, facing, links, pushing, status_side, is_empty}
use Rattle.model.specs.Route.{done, equal, failed_reading, has_failed, named_queue, none_free, only_way, pooled_queue}
use Rattle.model.specs.Route.{read_empty, read_single, read_stable, read_unstable, some_free, unequal}

-- The side: at 1 to 4 and 11 the task's, at 5 to 10 the one that the status as read names.
unfoldable pub side_of : Call → ℕ
side_of r = cond (helping r) (status_side (anchor_of r.seen).status) r.side

-- The end as read at that side: the table's r.
abbrev pub end_seen : Call → ℕ
end_seen r = near (side_of r) (anchor_of r.seen)

-- The slot whose row or mark a place touches, and at 17 the one that it gives back, a line a place; 0: none.
unfoldable pub row : Call → ℕ
row r =
    cond (eqb r.place 3) (cond (is_push r) r.own (end_seen r))
    (cond (eqb r.place 5) (end_seen r)
    (cond (eqb r.place 7) r.neighbour
    (cond (eqb r.place 9) r.neighbour
    (cond (eqb r.place 11) (end_seen r)
    (cond (eqb r.place 13) (link_of r.link).slot
    (cond (eqb r.place 14) (link_of r.link).slot
    (cond (eqb r.place 16) r.own
    (cond (eqb r.place 17) r.own
    0))))))))

-- The link word of that row: Left at 3 and 5, Right at 7 and 9.
unfoldable pub link_side : Call → ℕ
link_side r = cond (eqb r.place 3 || eqb r.place 5) (opposite (side_of r)) (side_of r)

-- What a place finds in that row, a line a place: a link word, the label, the next slot; 0: it reads none.
abbrev pub word_found : Tables → Call → ℕ
word_found q r =
    let link = get_or (links q (link_side r)) (row r) 0 in
    cond (eqb r.place 3) link
    (cond (eqb r.place 5) link
    (cond (eqb r.place 7) link
    (cond (eqb r.place 9) link
    (cond (eqb r.place 11) (get_or q.labels (row r) 0)
    (cond (eqb r.place 13) (get_or q.next (row r) 0)
    0)))))

-- A touch of the shared tables: at most one word is written, but where a slot is drawn, which sets the head, the slot's label and its mark.
pub data Touch : Type 0 where
  nothing : Touch
  set_anchor : (word : ℕ) → Touch
  set_link : (side slot word : ℕ) → Touch
  clear_mark : (slot : ℕ) → Touch
  take_slot : (word slot label : ℕ) → Touch
  set_next : (slot next : ℕ) → Touch
  set_head : (word : ℕ) → Touch

-- What a place does: its touch, the call with its new fields, the branch of the route that it takes, whether a change failed.
pub record Move : Type 0 where
  pub touch : Touch
  pub task : Call
  pub branch : ℕ
  pub failed : Bool

-- A place that only reads.
abbrev pub reads : Call → ℕ → Move
reads r branch = record { touch = nothing; task = r; branch = branch; failed = false }

-- A comparison of the word as it is with the word as read.
abbrev pub compares : ℕ → ℕ → Call → Move
compares now read r = reads r (cond (eqb now read) equal unequal)

-- A change: the word is replaced only if it still equals the word as read. Done, with the record r'; failed, with r.
abbrev pub changes : ℕ → ℕ → Touch → Call → Call → Move
changes now read touch r' r =
    cond (eqb now read) (record { touch = touch; task = r'; branch = done; failed = false })
    (record { touch = nothing; task = r; branch = has_failed; failed = true })

-- 1: read Anchor.
unfoldable pub reading : Bool → Anchor → ℕ
reading pop a =
    cond (is_empty a) read_empty
    (cond (pop && eqb a.left a.right) read_single
    (cond (eqb a.status 0) read_stable
    read_unstable))

unfoldable pub at1 : Control → Call → Move
at1 c r = reads (with_seen r c.anchor r.finishing) (reading (is_pop r) (anchor_of c.anchor))

-- A change of Anchor at 2 or 4: done, with the record r'. A failed one takes the word found as its reading and goes on as place 1.
-- (Document 02: #106.)
abbrev pub replaces : Control → ℕ → Call → Call → Move
replaces c word r' r =
    cond (eqb c.anchor r.seen) (record { touch = set_anchor word; task = r'; branch = done; failed = false })
    (record {
      touch = nothing;
      task = with_seen r c.anchor r.finishing;
      branch = failed_reading (reading (is_pop r) (anchor_of c.anchor));
      failed = true;
    })

-- 2: change Anchor to own, own, s; a pop to null, null, s.
unfoldable pub at2 : Control → Call → Move
at2 c r =
    let a = anchor_of r.seen in
    let end : ℕ = cond (is_push r) r.own 0 in
    replaces c (pack_anchor (facing (side_of r) (a.tag + 1) a.status end end)) r r

-- 3: put r into own slot's Left, its tag kept; a pop reads r's Left as neighbour. w is the link word met.
unfoldable pub at3 : Call → ℕ → Move
at3 r w =
    cond (is_push r)
    (record {
      touch = set_link (link_side r) (row r) (pack_link (record { tag = (link_of w).tag; slot = end_seen r }));
      task = r;
      branch = only_way;
      failed = false;
    })
    (reads (with_neighbour r (link_of w).slot) only_way)

-- 4: change Anchor to l, own, RPUSH, and remember it, finishing; a pop to l, neighbour, s.
unfoldable pub new4 : Call → ℕ
new4 r =
    let a = anchor_of r.seen in
    let d = side_of r in
    cond (is_push r)
    (pack_anchor (facing d (a.tag + 1) (pushing d) r.own (far d a)))
    (pack_anchor (facing d (a.tag + 1) a.status r.neighbour (far d a)))

unfoldable pub at4 : Control → Call → Move
at4 c r = replaces c (new4 r) (cond (is_push r) (with_seen r (new4 r) 1) r) r

-- 5: read r's Left as neighbour.
unfoldable pub at5 : Call → ℕ → Move
at5 r w = reads (with_neighbour r (link_of w).slot) only_way

-- 6 and 8: compare Anchor.
unfoldable pub at6 : Control → Call → Move
at6 c r = compares c.anchor r.seen r

-- 7: read neighbour's Right: it names r, or not.
unfoldable pub at7 : Call → ℕ → Move
at7 r w = reads (with_link r w) (cond (eqb (link_of w).slot (end_seen r)) equal unequal)

-- 9: change neighbour's Right to r.
unfoldable pub at9 : Call → ℕ → Move
at9 r w = changes w r.link (set_link (link_side r) (row r) (pack_link (record { tag = (link_of r.link).tag + 1; slot = end_seen r }))) r r

-- 10: change Anchor to l, r, STABLE.
unfoldable pub at10 : Control → Call → Move
at10 c r =
    let a = anchor_of r.seen in
    changes c.anchor r.seen (set_anchor (pack_anchor (record { tag = a.tag + 1; status = 0; left = a.left; right = a.right }))) r r

-- 11: read the label of r, the end taken (it goes into the answer, below in `Calls`), and clear its mark.
-- In a pooled queue slot and label go into the record, and the slot is given back first.
unfoldable pub at11 : Control → Call → ℕ → Move
at11 c r l =
    cond (is_pooled c)
    (record { touch = clear_mark (row r); task = with_own r (row r) l; branch = pooled_queue; failed = false })
    (record { touch = clear_mark (row r); task = r; branch = named_queue; failed = false })

-- The head as read with its tag raised, which names slot x.
abbrev pub raised : Call → ℕ → ℕ
raised r x = pack_link (record { tag = (link_of r.link).tag + 1; slot = x })

-- The empty stack: a head with slot 0.
abbrev pub stack_empty : ℕ → Bool
stack_empty head = eqb (link_of head).slot 0

-- 12: read the head: the stack is empty, or not.
unfoldable pub at12 : Control → Call → Move
at12 c r = reads (with_link r c.head) (cond (stack_empty c.head) none_free some_free)

-- 13: read the next of its slot.
unfoldable pub at13 : Call → ℕ → Move
at13 r n = reads (with_neighbour r n) only_way

-- 14: change the head to that next; the slot is the push's, marked and with its label.
unfoldable pub at14 : Control → Call → Move
at14 c r = changes c.head r.link (take_slot (raised r r.neighbour) (row r) r.label) (with_own r (row r) r.label) r

-- 15: read the head.
unfoldable pub at15 : Control → Call → Move
at15 c r = reads (with_link r c.head) only_way

-- 16: put its slot into the own slot's next.
unfoldable pub at16 : Call → Move
at16 r = record { touch = set_next (row r) (link_of r.link).slot; task = r; branch = only_way; failed = false }

-- 17: change the head to the own slot.
unfoldable pub at17 : Control → Call → Move
at17 c r = changes c.head r.link (set_head (raised r r.own)) r r

-- What the place of a record does, where w is what it finds in its row.
unfoldable pub move : Control → Call → ℕ → Move
move c r w =
    cond (eqb r.place 1) (at1 c r)
    (cond (eqb r.place 2) (at2 c r)
    (cond (eqb r.place 3) (at3 r w)
    (cond (eqb r.place 4) (at4 c r)
    (cond (eqb r.place 5) (at5 r w)
    (cond (eqb r.place 6) (at6 c r)
    (cond (eqb r.place 7) (at7 r w)
    (cond (eqb r.place 8) (at6 c r)
    (cond (eqb r.place 9) (at9 r w)
    (cond (eqb r.place 10) (at10 c r)
    (cond (eqb r.place 11) (at11 c r w)
    (cond (eqb r.place 12) (at12 c r)
    (cond (eqb r.place 13) (at13 r w)
    (cond (eqb r.place 14) (at14 c r)
    (cond (eqb r.place 15) (at15 c r)
    (cond (eqb r.place 16) (at16 r)
    (at17 c r))))))))))))))))

-- The tables after a touch.
abbrev pub apply : Touch → Tables → Tables
apply nothing q = q
apply (set_anchor w) q = with_anchor q w
apply (set_link side x w) q = linked q side x w
apply (clear_mark x) q = with_marks q (with_mark q.marks x 0)
apply (take_slot w x l) q = with_taken (with_head q w) x l
apply (set_next x v) q = with_next q (set q.next x v)
apply (set_head w) q = with_head q w
