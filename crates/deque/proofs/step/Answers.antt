-- Refused by its number alone, or its task's record moved on.
use mathlib.Core.Path.{sym, ◌∙◌}
use borrow.Author.Rules.{rules}
use Rattle.deque.proofs.Said.{found, refused, there, moved}
use Rattle.deque.proofs.step.Goals as goal

pub returns-then-why-ne0 : goal.returns-then-why-ne0
returns-then-why-ne0 c =
    let e = found c.args.control.now c.args.records.now c.args.task
    c.args.lefts.now c.args.rights.now c.args.labels.now c.args.marks.now c.args.next.now
    _ _ (c.of-lent.ensures c.args.control.now) c.admit_step-why.ensures in
    rw c.refuse.ensures (refused _ _ _ _ _ _ _ _ _ e c.if-why-ne0.true)

pub bounds-records-task : goal.bounds-records-task
bounds-records-task c =
    let e = found c.args.control.now c.args.records.now c.args.task
    c.args.lefts.now c.args.rights.now c.args.labels.now c.args.marks.now c.args.next.now
    _ _ (c.of-lent.ensures c.args.control.now) c.admit_step-why.ensures in
    there _ _ _ c.args.lefts.now c.args.rights.now c.args.labels.now c.args.marks.now c.args.next.now (sym e ∙ c.if-why-ne0.false)

pub offset_bounds-records-task : goal.offset_bounds-records-task
offset_bounds-records-task c = let here = bounds-records-task c in search rules

pub returns : goal.returns
returns c =
    let e = found c.args.control.now c.args.records.now c.args.task
    c.args.lefts.now c.args.rights.now c.args.labels.now c.args.marks.now c.args.next.now
    _ _ (c.of-lent.ensures c.args.control.now) c.admit_step-why.ensures in
    moved _ _ _ _ _ _ _ _ _ (sym e ∙ c.if-why-ne0.false) c.step_by_value-m.ensures
