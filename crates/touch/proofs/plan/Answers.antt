-- A sound record is asked nothing more than its place; any other is refused 34.
use mathlib.Core.Path.{sym, ap, ◌∙◌}
use native.Mathlib.Omega.{arith}
use Rattle.model.specs.declared.Call.{Call}
use Rattle.layout.specs.Rows.{call_of}
use Rattle.sound.proofs.Refused.{unsound}
use Rattle.threads.proofs.Split.{ByRecord.refuses-plan, Unasked.plan-same}
use Rattle.touch.proofs.plan.Goals as goal

pub returns-then-is_sound : goal.returns-then-is_sound
returns-then-is_sound c =
    let a = c.args in
    c.arms_row.ensures (sym (ap (λ (r : Call). r.place) c.call_of.ensures)) a.pooled
    ∙ plan-same a.pooled a.slots (call_of a.task.now) (sym c.is_sound.ensures ∙ c.if-is_sound.true)

pub returns-else-is_sound : goal.returns-else-is_sound
returns-else-is_sound c =
    let a = c.args in
    c.into.ensures
    ∙ refuses-plan a.pooled a.slots (call_of a.task.now) 34 (unsound _ _ _ (sym c.is_sound.ensures ∙ c.if-is_sound.false)) (λ z. omega (arith, z))
