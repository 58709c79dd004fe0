-- A pair of places is broken, or the next is looked at.
use Rattle.std.proofs.Common.{sym, ap, ◌∙◌, ℕ, ◌&&◌, ◌+◌, ◌-◌, ◌<◌, get_or, length, arith}
use mathlib.Core.Path.{ap₂}
use lib.Dec.{leb}
use Rattle.sheet.specs.{Squares.crossed, Search.{in_row, in_rows}}
use Rattle.sheet.proofs.Turns.{crossed-here, row_here, row_on, row_end, rows_on, rows_end, all_left}
use Rattle.sheet.proofs.search.first_broken.Goals as goal

pub loop-b-init : goal.loop-b-init
loop-b-init g c =
    let n = c.args.n in
    let a = c.pairs.a in
    let p = crossed g.R.Marks.kind c.args.square.now c.args.seen.now.low c.args.seen.now.high in (
      ap (λ (k : ℕ). in_row p (a + 1) 1 k (in_rows p n ((a + 1) + 1) (n - (a + 1)))) (all_left n)
          ∙ sym (rows_on n a p n c.pairs-test.true)
          ∙ c.pairs.invariant.0,
      c.pairs.invariant.1,
      c.pairs.invariant.2,
    )

pub returns-then-has-seen : goal.returns-then-has-seen
returns-then-has-seen g c =
    let a = c.pairs.a in
    let b = c.loop-b.b in
    let e = c.args.seen.now in
    let row : a < length c.args.square.now = omega arith in
    row_here c.args.n b (crossed g.R.Marks.kind c.args.square.now e.low e.high) (a + 1) _ c.loop-b-test.true
    (crossed-here g.R.Marks.kind c.args.square.now a row e.low e.high b c.index-square-a.result c.index-square-a.is
    ∙ ap (λ t. t && leb (get_or e.low b 0) (get_or e.high a 0)) (sym c.has.ensures) ∙ c.if-has-seen.true)
    ∙ c.loop-b.invariant.0

pub loop-b-preserved : goal.loop-b-preserved
loop-b-preserved g c =
    let a = c.pairs.a in
    let b = c.loop-b.b in
    let e = c.args.seen.now in
    let row : a < length c.args.square.now = omega arith in (
      row_on c.args.n b (crossed g.R.Marks.kind c.args.square.now e.low e.high) (a + 1) _ c.loop-b-test.true
          (crossed-here g.R.Marks.kind c.args.square.now a row e.low e.high b c.index-square-a.result c.index-square-a.is
          ∙ ap (λ t. t && leb (get_or e.low b 0) (get_or e.high a 0)) (sym c.has.ensures) ∙ c.if-has-seen.false)
          ∙ c.loop-b.invariant.0,
      c.loop-b.invariant.1,
      c.loop-b.invariant.2,
    )

pub pairs-preserved : goal.pairs-preserved
pairs-preserved g c =
    (sym (row_end c.args.n c.loop-b.b _ (c.pairs.a + 1) _ c.loop-b-test.false) ∙ c.loop-b.invariant.0, c.loop-b.invariant.1, c.loop-b.invariant.2)

pub returns-after-pairs : goal.returns-after-pairs
returns-after-pairs g c =
    ap₂ (λ (x y : ℕ). record { code = 0; first = x; second = y }) c.pairs.invariant.1 c.pairs.invariant.2
    ∙ sym (rows_end c.args.n c.pairs.a _ c.args.n c.pairs-test.false) ∙ c.pairs.invariant.0
