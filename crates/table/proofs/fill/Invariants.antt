use Rattle.table.proofs.Filling.{Filled}
use Rattle.table.proofs.fill.Given as goal

abbrev pub invariant-loop-i : goal.invariant-loop-i
invariant-loop-i g l = Filled l.v l.fn.t l.t l.i
