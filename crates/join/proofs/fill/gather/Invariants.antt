-- After k turns k rows are filled, and x is the slot after them.
use Rattle.std.proofs.Common.{◌≡◌}
use Rattle.join_model.specs.Closed.{filled}
use Rattle.join.specs.Scratch.{trail, walked_to}
use Rattle.join.proofs.fill.gather.Given as goal

abbrev pub invariant-loop-k : goal.invariant-loop-k
invariant-loop-k l = record { at : l.x ≡ trail l.links l.end l.k; done : l.out ≡ filled (walked_to l.links l.end) l.k l.fn.out }
