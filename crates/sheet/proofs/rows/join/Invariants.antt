-- For the first k places each row with the place marked has its marks; of row k the first i rows.
use Rattle.std.proofs.Common.{◌≡◌, ◌-◌}
use Rattle.sheet.specs.Squares.{sweep, join_via, rounds}
use Rattle.sheet.proofs.rows.join.Given as goal

abbrev pub invariant-loop-k : goal.invariant-loop-k
invariant-loop-k g l = rounds g.R.Marks.kind l.n l.k (l.n - l.k) l.rows ≡ rounds g.R.Marks.kind l.n 0 l.n l.fn.rows

abbrev pub invariant-loop-i : goal.invariant-loop-i
invariant-loop-i g l =
    let via = join_via g.R.Marks.kind l.k l.via in
    sweep g.R.Marks.kind.bare via l.i (l.n - l.i) l.rows ≡ sweep g.R.Marks.kind.bare via 0 l.n l.initial.rows
