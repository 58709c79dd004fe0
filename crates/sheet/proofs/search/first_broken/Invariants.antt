-- No pair before is broken.
use Rattle.std.proofs.Common.{◌≡◌, ◌+◌, ◌-◌}
use Rattle.sheet.specs.{Squares.crossed, Search.{in_row, in_rows}}
use Rattle.sheet.proofs.search.first_broken.Given as goal

abbrev pub invariant-pairs : goal.invariant-pairs
invariant-pairs g l =
    let p = crossed g.R.Marks.kind l.square l.seen.low l.seen.high in
    (in_rows p l.n (l.a + 1) (l.n - l.a) ≡ in_rows p l.n 1 l.n) × (l.first ≡ 0) × (l.second ≡ 0)

abbrev pub invariant-loop-b : goal.invariant-loop-b
invariant-loop-b g l =
    let p = crossed g.R.Marks.kind l.square l.seen.low l.seen.high in
    (in_row p (l.a + 1) (l.b + 1) (l.n - l.b) (in_rows p l.n ((l.a + 1) + 1) (l.n - (l.a + 1))) ≡ in_rows p l.n 1 l.n)
    × (l.first ≡ 0) × (l.second ≡ 0)
