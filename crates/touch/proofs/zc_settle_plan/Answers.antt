-- Refused for its record, or settled.
use mathlib.Core.Path.{ap, sym, ◌∙◌}
use lib.Dec.{eqb}
use Rattle.model.specs.declared.Reply.{Reply}
use Rattle.layout.specs.Rows.{call_of, record_of, upper_of}
use Rattle.threads_model.specs.Split.{heard_as}
use Rattle.threads.proofs.Split.{ByRecord.refuses-plan, Unasked.placed}
use Rattle.touch.proofs.{Tested.sound_of, Border.{turned_away, as_asked}}
use Rattle.touch.proofs.zc_settle_plan.Goals as goal

pub returns-then-why-ne0-clause-fact : goal.returns-then-why-ne0-clause-fact
returns-then-why-ne0-clause-fact c =
    let a = c.args in
    let was = a.task.now in
    ap (λ (y : Reply). record { task = record_of was; upper = upper_of was; reply = y }) c.refused.ensures.reply_value
    ∙ turned_away a.pooled a.slots was (heard_as (call_of was) a.found) c.refusal-why.result c.refusal-why.ensures c.if-why-ne0.true

pub returns-then-why-ne0-clause-touch_value : goal.returns-then-why-ne0-clause-touch_value
returns-then-why-ne0-clause-touch_value c =
    let a = c.args in
    c.refused.ensures.touch_value ∙ refuses-plan a.pooled a.slots (call_of a.task.now) c.refusal-why.result c.refusal-why.ensures c.if-why-ne0.true

pub returns-clause-fact : goal.returns-clause-fact
returns-clause-fact c =
    let a = c.args in
    let r = call_of a.task.now in
    let none = sym c.refusal-why.ensures ∙ c.if-why-ne0.false in
    (as_asked a.pooled a.slots a.found a.task.now _ _ _ (sound_of (eqb a.pooled 1) a.slots r none)
    (c.settle.ensures (placed a.pooled a.slots r none))).0

pub returns-clause-touch_value : goal.returns-clause-touch_value
returns-clause-touch_value c =
    let a = c.args in
    let r = call_of a.task.now in
    let none = sym c.refusal-why.ensures ∙ c.if-why-ne0.false in
    (as_asked a.pooled a.slots a.found a.task.now _ _ _ (sound_of (eqb a.pooled 1) a.slots r none)
    (c.settle.ensures (placed a.pooled a.slots r none))).1
