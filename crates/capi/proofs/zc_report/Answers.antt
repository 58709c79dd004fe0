-- The records to look at, what they tell, and what is told of all.
use Rattle.std.proofs.Common.{refl, sym, ◌∙◌}
use Rattle.capi.proofs.Border.{few, reported}
use Rattle.capi.proofs.zc_report.Goals as goal

pub look-l-requires : goal.look-l-requires
look-l-requires c = few c.args.records.now _ _ _ refl c.to_count-k.ensures

pub returns-in-Err : goal.returns-in-Err
returns-in-Err c =
    let a = c.args in
    c.refused_report.ensures c.look-l.result.retries
    ∙ reported a.control.now a.records.now a.lefts.now a.rights.now a.labels.now a.marks.now a.next.now _ _ _ _ _ _
    c.control_of-c.ensures refl c.to_count-k.ensures c.look-l.ensures.0 (sym c.in-Err.is ∙ c.told-r.ensures) c.look-l.ensures.1

pub returns-in-Ok : goal.returns-in-Ok
returns-in-Ok c =
    let a = c.args in
    c.told_report.ensures
    ∙ reported a.control.now a.records.now a.lefts.now a.rights.now a.labels.now a.marks.now a.next.now _ _ _ _ _ _
    c.control_of-c.ensures refl c.to_count-k.ensures c.look-l.ensures.0 (sym c.in-Ok.is ∙ c.told-r.ensures) c.look-l.ensures.1
