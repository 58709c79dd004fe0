-- Refused for its place, or settled.
use mathlib.Core.Path.{refl, sym, ap, ◌∙◌}
use native.Mathlib.Omega.{arith}
use Rattle.model.specs.declared.Call.{Call}
use Rattle.layout.specs.Rows.{call_of}
use Rattle.touch.proofs.{Tested.beyond, Border.nowhere}
use Rattle.touch.proofs.settle_unasked.Goals as goal

pub returns-in-0 : goal.returns-in-0
returns-in-0 c =
    let a = c.args in
    let placed = sym (ap (λ (r : Call). r.place) c.call_of.ensures) in
    nowhere a.pooled a.slots a.task.now a.w 31 _ _ (rw (placed ∙ c.in-0.is)) refl c.refused.ensures.reply_value c.refused.ensures.touch_value

pub returns-in_default : goal.returns-in_default
returns-in_default c =
    let a = c.args in
    let placed = sym (ap (λ (r : Call). r.place) c.call_of.ensures) in
    nowhere a.pooled a.slots a.task.now a.w 34 _ _ (beyond (call_of a.task.now) _ placed (omega arith)) refl
    c.refused-in_default.ensures.reply_value c.refused-in_default.ensures.touch_value
