-- A start carried out: its call is written, and its first step planned.
use mathlib.Core.Path.{sym, ap, ◌∙◌}
use Rattle.model.specs.declared.Reply.{Reply}
use Rattle.layout.specs.Rows.{record_of, upper_of}
use Rattle.threads_model.specs.Split.{plan}
use Rattle.touch.proofs.Starting.{begun}
use Rattle.touch.proofs.start.decides.Goals as goal

pub returns : goal.returns
unfolding record_of
returns c =
    let a = c.args in
    let row = c.record_row.result in
    let touch = c.first_plan.result in
    ap (λ (y : Reply). record { task = record_of row; upper = upper_of row; reply = y; touch = touch }) c.reply-2.ensures
    ∙ begun a.pooled a.slots a.task.now a.s row c.first_call-call.result a.why touch c.if-why-ne0.false c.first_call-call.ensures
    c.record_row.ensures (c.first_plan.ensures ∙ ap (plan a.pooled a.slots) (sym c.first_call-call.ensures))
