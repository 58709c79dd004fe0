use Rattle.touch.proofs.Starting.{loaded-none}
use Rattle.touch.proofs.start.start_loaded.Goals as goal

pub returns-then-why-ne0 : goal.returns-then-why-ne0
returns-then-why-ne0 c =
    let a = c.args in
    loaded-none a.pooled a.slots a.task.now a.s c.own_refusal-why.result a.found _ _ c.own_refusal-why.ensures c.if-why-ne0.true
    c.refused.ensures.reply_value c.refused.ensures.touch_value
