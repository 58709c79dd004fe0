-- Control, records and tables put on the shelf, unless a test forbids it.
use Rattle.shelf.proofs.Changing.{save_low, saving-lent, saving-refused}
use Rattle.shelf.proofs.zc_save.Goals as goal

pub returns-then-why-ne0 : goal.returns-then-why-ne0
returns-then-why-ne0 c =
    let a = c.args in
    saving-refused a.control.now a.records.now a.lefts.now a.rights.now a.labels.now a.marks.now a.next.now
    a.controls8.now a.records8.now a.lefts8.now a.rights8.now a.labels8.now a.marks8.now a.next8.now a.shelf
    _ c.control_of-c.ensures _ c.save_refusal-why.ensures c.if-why-ne0.true

pub put_tables-requires : goal.put_tables-requires
put_tables-requires c = save_low _ _ _ _ _ _ c.save_refusal-why.ensures c.if-why-ne0.false

pub returns : goal.returns
returns c =
    let a = c.args in
    let put = c.put_tables.ensures in
    saving-lent a.control.now a.records.now a.lefts.now a.rights.now a.labels.now a.marks.now a.next.now
    a.controls8.now a.records8.now a.lefts8.now a.rights8.now a.labels8.now a.marks8.now a.next8.now a.shelf
    _ _ _ _ _ _ _ _ c.control_of-c.ensures _ c.save_refusal-why.ensures c.if-why-ne0.false
    c.put_control.ensures c.put.ensures put.lefts8_after put.rights8_after put.labels8_after put.marks8_after put.next8_after
