-- The first rules are marked.
use Rattle.std.proofs.Common.{◌≡◌, drop}
use Rattle.sheet.specs.Squares.{rules_marked}
use Rattle.sheet.proofs.rows.mark.Given as goal

abbrev pub invariant-loop-w : goal.invariant-loop-w
invariant-loop-w g l = rules_marked g.R.Marks.kind (drop l.w-index l.rules) l.rows ≡ rules_marked g.R.Marks.kind l.rules l.fn.rows
