-- What a place makes of the word w that it found, apart from touching it: at 3, 5, 7 and 9 a link word, at 11 a label, at 13 a next. And the new word
-- of each change. What 1, 2, 4, 6, 8, 10, 12, 15 and 17 make of Anchor or head, which control holds, is in `Ending`.
use Rattle.std.specs.Prelude.{Bool, ◌&&◌, not, cond, ℕ, ◌+◌, eqb, leb}
use Rattle.word.specs.{declared.Anchor.Anchor, Anchor.{anchor_of, pack_anchor}, Link.{link_of, pack_link}}
use Rattle.model.specs.{declared.{Control.Control, Call.Call, Transition.Transition}, Sound.from1, Kinds.is_push}
use Rattle.model.specs.{Ends.is_moved, Sides.{near, far, facing, pushing}, Tables.{is_pooled, with_neighbour, with_own}}
use Rattle.model.specs.Route.{route, only_way, done, has_failed, equal, unequal, named_queue, pooled_queue}
use Rattle.decide.specs.{declared.touched.LinkWord.LinkWord, Ending.link_read}
use Rattle.decide.specs.Ending.{refused, settled, no_entry, failing, tag_has_room, headed, row_sound, neighbour_read}

-- The end as read: at the task's side, and at 5 to 10 at the side that the status names. The slot of the head as read.
abbrev pub own_end : Call → ℕ
own_end r = cond (eqb r.side 1) (anchor_of r.seen).right (anchor_of r.seen).left

abbrev pub status_end : Call → ℕ
status_end r = cond (eqb (anchor_of r.seen).status 1) (anchor_of r.seen).right (anchor_of r.seen).left

abbrev pub top : Call → ℕ
top r = (link_of r.link).slot

-- The link words touched: at 3 the own slot's inward one, of a pop the end's; at 5 the end's inward one; at 7 and 9 the neighbour's outward one.
-- `a` is Anchor as read.
abbrev pub link3_of : Call → Anchor → LinkWord
link3_of r a = record { right = not (eqb r.side 1); slot = cond (is_push r) r.own (near r.side a) }

abbrev pub link3 : Call → LinkWord
link3 r = link3_of r (anchor_of r.seen)

abbrev pub link5_of : Anchor → LinkWord
link5_of a = record { right = not (eqb a.status 1); slot = cond (eqb a.status 1) a.right a.left }

abbrev pub link5 : Call → LinkWord
link5 r = link5_of (anchor_of r.seen)

abbrev pub link7 : Call → LinkWord
link7 r = record { right = eqb (anchor_of r.seen).status 1; slot = r.neighbour }

-- NEW WORDS, each with the tag as read raised by 1, but at 3, which keeps that of w, the word found.
abbrev pub new2 : Call → ℕ
new2 r =
    let a = anchor_of r.seen in
    let end : ℕ = cond (is_push r) r.own 0 in
    pack_anchor (facing r.side (a.tag + 1) a.status end end)

abbrev pub new3 : Call → ℕ → ℕ
new3 r w = pack_link (record { tag = (link_of w).tag; slot = own_end r })

abbrev pub new4 : Call → ℕ
new4 r =
    let a = anchor_of r.seen in
    let status : ℕ = cond (is_push r) (pushing r.side) a.status in
    let end : ℕ = cond (is_push r) r.own r.neighbour in
    pack_anchor (facing r.side (a.tag + 1) status end (far r.side a))

abbrev pub new9 : Call → ℕ
new9 r = pack_link (record { tag = (link_of r.link).tag + 1; slot = status_end r })

abbrev pub new10 : Call → ℕ
new10 r =
    let a = anchor_of r.seen in
    pack_anchor (record { tag = a.tag + 1; status = 0; left = a.left; right = a.right })

abbrev pub new14 : Call → ℕ
new14 r = pack_link (record { tag = (link_of r.link).tag + 1; slot = r.neighbour })

abbrev pub new17 : Call → ℕ
new17 r = pack_link (record { tag = (link_of r.link).tag + 1; slot = r.own })

-- DECISIONS. A step that was carried out and whose change, if it makes one, has not failed.
abbrev pub made_of : Transition → Bool
made_of m = is_moved m.outcome && not m.failed

unfoldable pub found3 : Control → Call → ℕ → Transition
found3 c r w =
    cond (is_push r)
    (cond (row_sound c.slots r.own w) (settled c r (route 3 r.kind only_way) no_entry) (refused c r))
    (neighbour_read c r (own_end r) w (route 3 r.kind only_way))

unfoldable pub found5 : Control → Call → ℕ → Transition
found5 c r w = neighbour_read c r (status_end r) w (route 5 r.kind only_way)

unfoldable pub found7 : Control → Call → ℕ → Transition
found7 c r w = link_read c r (status_end r) w (route 7 r.kind equal) (route 7 r.kind unequal)

unfoldable pub found9 : Control → Call → ℕ → Transition
found9 c r w =
    cond (from1 c.slots r.neighbour)
    (cond (eqb w r.link)
    (cond (tag_has_room r.link) (settled c r (route 9 r.kind done) no_entry) (refused c r))
    (failing (settled c r (route 9 r.kind has_failed) no_entry)))
    (refused c r)

unfoldable pub found11 : Control → Call → ℕ → Transition
found11 c r l =
    cond (from1 c.slots (own_end r))
    (cond (is_pooled c)
    (settled c (with_own r (own_end r) l) (route 11 r.kind pooled_queue) no_entry)
    (settled c r (route 11 r.kind named_queue) (record { slot = own_end r; label = l })))
    (refused c r)

unfoldable pub found13 : Control → Call → ℕ → Transition
found13 c r n = cond (leb n c.slots) (settled c (with_neighbour r n) (route 13 r.kind only_way) no_entry) (refused c r)

unfoldable pub found14 : Control → Call → Transition
found14 c r =
    cond (eqb c.head r.link)
    (cond (tag_has_room r.link)
    (settled (headed c (new14 r)) (with_own r (top r) r.label) (route 14 r.kind done) no_entry)
    (refused c r))
    (failing (settled c r (route 14 r.kind has_failed) no_entry))

unfoldable pub found16 : Control → Call → Transition
found16 c r = settled c r (route 16 r.kind only_way) no_entry
