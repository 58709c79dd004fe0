-- Not admitted: the number alone. Admitted: the task has a record, and what its step may change is stored.
use mathlib.Core.Path.{sym, ◌∙◌}
use borrow.Author.Rules.{rules}
use Rattle.rows.proofs.OneStep.{asked, refused, there, stepped}
use Rattle.rows.proofs.step.Goals as goal

pub returns-then-why-ne0-clause-fact : goal.returns-then-why-ne0-clause-fact
returns-then-why-ne0-clause-fact c =
    let e = asked _ c.args.records.now _ _ _ _ _ c.args.task _ _ _ c.control_of-c.ensures (c.of-t.ensures c.control_of-c.result) c.admit_step-why.ensures in
    (refused _ _ _ _ _ _ _ _ _ _ e c.if-why-ne0.true c.refuse.ensures).0

pub bounds-records-task : goal.bounds-records-task
bounds-records-task c =
    let e = asked _ c.args.records.now _ _ _ _ _ c.args.task _ _ _ c.control_of-c.ensures (c.of-t.ensures c.control_of-c.result) c.admit_step-why.ensures in
    there _ _ _ _ _ _ _ _ (sym e ∙ c.if-why-ne0.false)

pub offset_bounds-records-task : goal.offset_bounds-records-task
offset_bounds-records-task c = let there = bounds-records-task c in search rules

pub returns-clause-fact : goal.returns-clause-fact
returns-clause-fact c =
    let e = asked _ c.args.records.now _ _ _ _ _ c.args.task _ _ _ c.control_of-c.ensures (c.of-t.ensures c.control_of-c.result) c.admit_step-why.ensures in
    (stepped _ _ _ _ _ _ _ _ _ _ _ _ _ _ _ _ (sym e ∙ c.if-why-ne0.false) c.move_row.ensures).0

pub returns-clause-records_after : goal.returns-clause-records_after
returns-clause-records_after c =
    let e = asked _ c.args.records.now _ _ _ _ _ c.args.task _ _ _ c.control_of-c.ensures (c.of-t.ensures c.control_of-c.result) c.admit_step-why.ensures in
    (stepped _ _ _ _ _ _ _ _ _ _ _ _ _ _ _ _ (sym e ∙ c.if-why-ne0.false) c.move_row.ensures).1
