use Rattle.std.proofs.Common.{arith, refl, ◌∙◌, ap, ◌≡◌}
use borrow.Author.Tests.{le-leb, lt-leb}
use Rattle.model.specs.Lists.{zeroed}
use Rattle.table.specs.Filling.{filling}
use Rattle.table.proofs.Filling.{filled_next}
use Rattle.table.proofs.fill.Goals as goal

pub loop-i-init : goal.loop-i-init
loop-i-init g c = (refl, refl)

pub loop-i-preserved : goal.loop-i-preserved
loop-i-preserved g c = filled_next c.args.v c.args.t.now c.loop-i.t c.loop-i.i (omega arith) c.loop-i.invariant

pub returns-after-loop-i : goal.returns-after-loop-i
unfolding filling
returns-after-loop-i g c =
    let e : c.loop-i.i ≡ c.args.n = omega arith in
    simp (le-leb _ _ c.if-k-t.true) (c.loop-i.invariant.1 ∙ ap (λ k. zeroed k c.args.v c.args.t.now) e)

pub returns-else-k-t : goal.returns-else-k-t
unfolding filling
returns-else-k-t g c = simp (lt-leb _ _ c.if-k-t.false)
