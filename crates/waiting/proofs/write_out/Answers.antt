-- Refused by the walk, for want of room, or written.
use Rattle.std.proofs.Common.{◌≡◌, sym, ap, ◌∙◌, true, false, cond, Ok}
use Rattle.model.specs.Walk.{Walk}
use Rattle.walk.specs.{Ways.{ahead, turned_back}, Counted.counted}
use Rattle.walk.proofs.Counting.{either_way}
use Rattle.waiting.specs.{declared.WaitingReply.WaitingReply}
use Rattle.waiting.proofs.ReadingOut.{short, may_lay, lays_all}
use Rattle.waiting.proofs.write_out.Goals as goal
use Rattle.waiting.proofs.write_out.Goals.{In-Ok}

-- What was counted, of the walk turned.
module _ (c : In-Ok) where
  abbrev ahead-is : Walk
  ahead-is = ahead c.args.w c.args.lefts.now c.args.rights.now c.args.labels.now

  counts : Ok c.in-Ok.n ≡ counted (turned_back c.args.w ahead-is)
  counts = c.in-Ok.ensures c.args.labels.now ∙ sym (either_way (cond c.args.w.rightward 0 1) ahead-is)

pub returns-then-slots-n : goal.returns-then-slots-n
returns-then-slots-n c =
    let a = c.args in
    let v = (goal.at.returns-then-slots-n c).In-Ok in
    ap (λ (r : WaitingReply). record { reply = r; slots = a.slots.now; labels = a.copies.now }) c.refused-then-slots-n.ensures
    ∙ short a.slots.now a.copies.now _ c.in-Ok.n (counts v) c.if-slots-n.true

pub lay-requires : goal.lay-requires
lay-requires c =
    let a = c.args in
    may_lay a.w a.lefts.now a.rights.now a.labels.now _ _ _ (counts (goal.at.lay-requires c).In-Ok) c.if-slots-n.false true c.if-w.true
    c.requires c.requires.right_rows

pub lay-requires-else-w : goal.lay-requires-else-w
lay-requires-else-w c =
    let a = c.args in
    may_lay a.w a.lefts.now a.rights.now a.labels.now _ _ _ (counts (goal.at.lay-requires-else-w c).In-Ok) c.if-slots-n.false false c.if-w.false
    c.requires c.requires.left_rows

pub returns-then-w : goal.returns-then-w
returns-then-w c =
    let a = c.args in
    lays_all a.w a.lefts.now a.rights.now a.labels.now _ _ _ (counts (goal.at.returns-then-w c).In-Ok) c.if-slots-n.false true c.if-w.true
    _ _ c.lay.ensures.slots_after c.lay.ensures.copies_after

pub returns-else-w : goal.returns-else-w
returns-else-w c =
    let a = c.args in
    lays_all a.w a.lefts.now a.rights.now a.labels.now _ _ _ (counts (goal.at.returns-else-w c).In-Ok) c.if-slots-n.false false c.if-w.false
    _ _ c.lay-else-w.ensures.slots_after c.lay-else-w.ensures.copies_after
