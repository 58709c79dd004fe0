-- How a step ends, by value: refused, gone on, Anchor compared or changed, a link or the head read.
use Rattle.std.specs.Prelude.{Bool, true, false, ◌&&◌, not, cond, ℕ, ◌/◌, ◌^◌, eqb, ltb}
use Rattle.word.specs.{Anchor.anchor_of, Link.link_of}
use Rattle.model.specs.declared.{Control.Control, Call.Call, Entry.Entry, Transition.Transition}
use Rattle.model.specs.Outcomes.{Moved, Refused}
use Rattle.model.specs.Sound.{from1, anchor_sound, link_sound}
use Rattle.model.specs.{Route.{onward, goes, answer}, Tables.{with_seen, with_neighbour, with_link, with_words}}

abbrev pub refused : Control → Call → Transition
refused c r = record { control = c; task = r; outcome = Refused 34; failed = false }

-- The record gone on by the route's n, and the answer, with e the entry popped.
unfoldable pub settled : Control → Call → ℕ → Entry → Transition
settled c t n e =
    let m = onward n t.finishing in
    record { control = c; task = goes t m; outcome = Moved (answer m e); failed = false }

-- The same with a change that failed or none.
abbrev pub with_failed : Transition → Bool → Transition
with_failed m b = record { control = m.control; task = m.task; outcome = m.outcome; failed = b }

abbrev pub failing : Transition → Transition
failing m = with_failed m true

-- Control with another Anchor, and with another head.
abbrev pub anchored : Control → ℕ → Control
anchored c w = with_words c w c.head

abbrev pub headed : Control → ℕ → Control
headed c w = with_words c c.anchor w

abbrev pub no_entry : Entry
no_entry = record { slot = 0; label = 0 }

-- The tag of an Anchor, a link word or a head can be raised.
abbrev pub tag_has_room : ℕ → Bool
tag_has_room w = ltb (w / 2 ^ 32) 4294967295

-- The tag as read can be raised, and the new Anchor is sound.
unfoldable pub may_change : ℕ → ℕ → ℕ → Bool
may_change slots seen new = anchor_sound slots (anchor_of new) && tag_has_room seen

-- Anchor is as read, so that a change to `new` would be made, and it may not be.
unfoldable pub change_refused : Control → Call → ℕ → Bool
change_refused c r new = eqb c.anchor r.seen && not (may_change c.slots r.seen new)

-- A push whose change of Anchor at place 4 is done remembers the new word, and is finishing.
unfoldable pub remembered : Call → ℕ → Call
remembered r new = cond (eqb r.kind 0) (with_seen r new 1) r

-- Anchor compared with the word as read.
unfoldable pub compared : Control → Call → ℕ → ℕ → Transition
compared c r same other = cond (eqb c.anchor r.seen) (settled c r same no_entry) (settled c r other no_entry)

-- Slot x may be touched, and w, the link word met there, is sound.
unfoldable pub row_sound : ℕ → ℕ → ℕ → Bool
row_sound slots x w = from1 slots x && link_sound slots w

-- The slot that w, slot x's inward link, names is the neighbour.
unfoldable pub neighbour_read : Control → Call → ℕ → ℕ → ℕ → Transition
neighbour_read c r x w n =
    cond (row_sound c.slots x w) (settled c (with_neighbour r (link_of w).slot) n no_entry) (refused c r)

-- The neighbour's outward link w is remembered; it may name the end.
unfoldable pub link_read : Control → Call → ℕ → ℕ → ℕ → ℕ → Transition
link_read c r end w same other =
    cond (row_sound c.slots r.neighbour w)
    (cond (eqb (link_of w).slot end) (settled c (with_link r w) same no_entry) (settled c (with_link r w) other no_entry))
    (refused c r)

-- The head is remembered; its slot may be 0.
unfoldable pub head_read : Control → Call → ℕ → ℕ → Transition
head_read c r none other =
    let t = with_link r c.head in
    cond (link_sound c.slots c.head)
    (cond (eqb (link_of c.head).slot 0) (settled c t none no_entry) (settled c t other no_entry))
    (refused c r)
