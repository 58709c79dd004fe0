-- What is found so far is zero if all entries so far are.
use Rattle.std.proofs.Common.{◌≡◌, ℕ}
use mathlib.Core.List.{map}
use lib.Dec.{eqb}
use Rattle.join_model.specs.Join.{blank}
use Rattle.join.specs.Numbers.{AreNumbers}
use Rattle.join.proofs.rest.blank.Given as goal

abbrev pub invariant-loop-x : goal.invariant-loop-x
invariant-loop-x g l =
    (number : g.row.T.Denot → ℕ) → AreNumbers g.T.Default.is_default g.T.BitOr.bitor_gives g.T.Into.converts number
    → eqb (number l.any) 0 ≡ blank l.x-index (map number l.t)
