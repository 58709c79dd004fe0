-- Refused: everything is as it was. Accepted: each table is long enough to be zeroed, and the next table to be stacked.
use mathlib.Core.Path.{sym, ◌∙◌}
use borrow.Author.Rules.{rules}
use Rattle.model.specs.Tables.{tables_of}
use Rattle.calls.proofs.Openings.{found, accepted, refused_parts, opened_parts}
use Rattle.calls.proofs.opening.open_tables.Goals as goal

pub returns-then-why-ne0 : goal.returns-then-why-ne0
returns-then-why-ne0 c =
    let e = found c.args.pooled _ _ _ _ _ _ (c.of-t.ensures c.args.c) c.open_refusal-why.ensures in
    rw e (refused_parts _ _ _ _ _ _ (rw (← e) c.if-why-ne0.true))

pub overflow_add-rows : goal.overflow_add-rows
overflow_add-rows c =
    let q = tables_of c.args.c c.args.lefts.now c.args.rights.now c.args.labels.now c.args.marks.now c.args.next.now in
    let e = found c.args.pooled q _ _ _ _ _ (c.of-t.ensures c.args.c) c.open_refusal-why.ensures in
    let h = accepted _ _ _ (sym e ∙ c.if-why-ne0.false) in search rules

pub returns : goal.returns
returns c =
    let e = found c.args.pooled _ _ _ _ _ _ (c.of-t.ensures c.args.c) c.open_refusal-why.ensures in
    rw (
      c.opened_control-control.ensures,
      c.stack_slots.ensures,
      c.fill-4.ensures,
      c.fill-3.ensures,
      c.fill-2.ensures,
      c.fill.ensures,
    )
    (opened_parts _ _ _ _ _ _ (sym e ∙ c.if-why-ne0.false))
