-- The opening of the tables, its control and as many records as it says, its answer in numbers.
use Rattle.std.proofs.Common.{refl, false}
use Rattle.capi.proofs.Border.{any_next, opened}
use Rattle.capi.proofs.openings.open.Goals as goal

pub returns-clause-whole : goal.returns-clause-whole
returns-clause-whole c =
    let a = c.args in
    opened a.control.now a.records.now a.lefts.now a.rights.now a.labels.now a.marks.now a.next.now a.pooled _ _ _ _ _ _ _ _ _ _ _ _ _ _
    c.control_of-c.ensures refl c.open_tables-made.ensures c.control_row.ensures
    c.clear.ensures.rows_after c.clear.ensures.rows_after_2 c.opening_code.ensures

pub returns-clause-named : goal.returns-clause-named
returns-clause-named c f any =
    let a = c.args in
    opened a.control.now a.records.now a.lefts.now a.rights.now a.labels.now a.marks.now any false _ _ _ _ _ _ _ _ _ any _ _ _ _
    c.control_of-c.ensures refl (any_next _ _ _ _ _ _ any _ _ _ _ (rw f at c.open_tables-made.ensures)) c.control_row.ensures
    c.clear.ensures.rows_after c.clear.ensures.rows_after_2 c.opening_code.ensures
