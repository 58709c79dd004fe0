-- What a step would be refused by, by `turned_away` and `free`.
use Rattle.std.proofs.Common.{refl, ◌∙◌}
use Rattle.layout.specs.Rows.{queue_in}
use Rattle.capi_run.proofs.NoSteps.{turned_away, free, met}
use Rattle.capi_run.proofs.run_of_none.Goals as goal

pub returns-then-why-ne0 : goal.returns-then-why-ne0
returns-then-why-ne0 c =
    let a = c.args in
    let q = queue_in a.control.now a.records.now a.lefts.now a.rights.now a.labels.now a.marks.now a.next.now in
    let why = met a.control.now a.records.now a.lefts.now a.rights.now a.labels.now a.marks.now a.next.now a.task _ _ _ _
    c.control_of-c.ensures c.call_at-r.ensures refl c.refusal-why.ensures in
    c.run_reply.ensures ∙ turned_away q a.task _ why c.if-why-ne0.true

pub returns : goal.returns
returns c =
    let a = c.args in
    let q = queue_in a.control.now a.records.now a.lefts.now a.rights.now a.labels.now a.marks.now a.next.now in
    let why = met a.control.now a.records.now a.lefts.now a.rights.now a.labels.now a.marks.now a.next.now a.task _ _ _ _
    c.control_of-c.ensures c.call_at-r.ensures refl c.refusal-why.ensures in
    c.resting.ensures ∙ free q a.task _ why c.if-why-ne0.false
