use Rattle.std.proofs.Common.{rules, arith, refl}
use Rattle.table.proofs.Stack.{stacked-none, stacked-only, stacked-more, stacked-last}
use Rattle.table.proofs.fill_stack.Goals as goal

pub returns-then-slots-eq0 : goal.returns-then-slots-eq0
returns-then-slots-eq0 c = stacked-only c.args.t.now c.args.slots c.requires c.if-slots-eq0.true

pub loop-i-init : goal.loop-i-init
loop-i-init c = stacked-none c.args.t.now c.args.slots c.requires c.if-slots-eq0.false

pub loop-i-preserved : goal.loop-i-preserved
loop-i-preserved c = stacked-more c.args.t.now c.args.slots c.requires c.loop-i.t c.loop-i.i (search rules) c.loop-i.invariant

pub returns : goal.returns
returns c = stacked-last c.args.t.now c.args.slots c.requires c.loop-i.t c.loop-i.i (omega arith) c.loop-i.invariant _ refl
