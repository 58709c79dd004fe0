-- Control, records and tables put back from the shelf, unless a test forbids it.
use Rattle.std.proofs.Common.{◌∙◌}
use Rattle.shelf.proofs.Changing.{return_low, returning-lent, returning-refused}
use Rattle.shelf.proofs.zc_return.Goals as goal

pub returns-then-why-ne0 : goal.returns-then-why-ne0
returns-then-why-ne0 c =
    let a = c.args in
    returning-refused a.control.now a.records.now a.lefts.now a.rights.now a.labels.now a.marks.now a.next.now
    a.controls8.now a.records8.now a.lefts8.now a.rights8.now a.labels8.now a.marks8.now a.next8.now a.shelf
    _ (c.control_of-c.ensures ∙ c.control_at-row.ensures) _ c.return_refusal-why.ensures c.if-why-ne0.true

pub take_tables-requires : goal.take_tables-requires
take_tables-requires c = return_low _ _ _ _ _ _ c.return_refusal-why.ensures c.if-why-ne0.false

pub returns : goal.returns
returns c =
    let a = c.args in
    let put = c.take_tables.ensures in
    returning-lent a.control.now a.records.now a.lefts.now a.rights.now a.labels.now a.marks.now a.next.now
    a.controls8.now a.records8.now a.lefts8.now a.rights8.now a.labels8.now a.marks8.now a.next8.now a.shelf
    _ _ _ _ _ _ _ _ c.control_of-c.ensures c.control_at-row.ensures _ c.return_refusal-why.ensures c.if-why-ne0.false
    c.take.ensures put.lefts_after put.rights_after put.labels_after put.marks_after put.next_after
