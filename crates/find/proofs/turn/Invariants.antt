-- The first i positions are counted from the other end.
use Rattle.std.proofs.Common.{◌≡◌}
use Rattle.find_model.specs.Noting.{turned}
use Rattle.find.specs.Looked.{turning}
use Rattle.find.proofs.turn.Given as goal

abbrev pub invariant-loop-i : goal.invariant-loop-i
invariant-loop-i l = l.positions ≡ turning (turned l.rows) l.i l.fn.positions
