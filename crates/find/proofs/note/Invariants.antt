-- The first i labels asked for are done.
use Rattle.std.proofs.Common.{◌≡◌, take}
use Rattle.find_model.specs.Noting.{note}
use Rattle.find.proofs.note.Given as goal

abbrev pub invariant-loop-i : goal.invariant-loop-i
invariant-loop-i l = l.positions ≡ note l.foremost l.y l.k (take l.i l.wanted) l.fn.positions
