-- A turn of the inner loop is one element of a sweep, one of the outer a round.
use Rattle.std.proofs.Common.{refl, sym, ap, ◌∙◌, ◌+◌, ◌-◌, ◌<◌, set, length, arith}
use Rattle.std.proofs.lemmas.List.{get_or_read_under}
use Rattle.sheet.specs.Squares.{sweep, join_via, rounds}
use Rattle.sheet.proofs.Turns.{row-joined, row-kept, sweep-on, sweep_end, rounds-on, rounds_end}
use Rattle.sheet.proofs.rows.join.Goals as goal
use Rattle.sheet.proofs.rows.join.Goals.{then-has, else-has}

pub loop-i-preserved : goal.loop-i-preserved
loop-i-preserved g c =
    let r = g.R.Marks.kind in
    let n = c.args.n in
    let i = c.loop-i.i in
    let m = c.loop-i.rows in
    let via = c.index-rows-k.result in
    let row : i < length m = omega arith in
    ap (sweep r.bare (join_via r c.loop-k.k via) (i + 1) (n - (i + 1)))
    (elim c.if-has.branch [
      | then-has w ↦
          w.rows-is ∙ ap (set m i) w.join.ensures ∙ row-joined r m i row c.loop-k.k via _ _ (sym w.if-has.ensures)
      | else-has w ↦ w.rows-is ∙ row-kept r m i row c.loop-k.k via _ (sym w.if-has.ensures)
    ])
    ∙ sym (sweep-on n i r.bare (join_via r c.loop-k.k via) m c.loop-i-test.true)
    ∙ c.loop-i.invariant

pub loop-k-preserved : goal.loop-k-preserved
loop-k-preserved g c =
    let r = g.R.Marks.kind in
    let n = c.args.n in
    let k = c.loop-k.k in
    let via = c.index-rows-k.result in
    let row : k < length c.loop-k.rows = omega arith in
    ap (rounds r n (k + 1) (n - (k + 1)))
    (sym (sweep_end n c.loop-i.i r.bare (join_via r k via) c.loop-i.rows c.loop-i-test.false)
    ∙ c.loop-i.invariant
    ∙ ap (λ v. sweep r.bare (join_via r k v) 0 n c.loop-k.rows) (get_or_read_under c.loop-k.rows k _ via r.bare c.index-rows-k.is row refl))
    ∙ sym (rounds-on n k r n c.loop-k.rows c.loop-k-test.true)
    ∙ c.loop-k.invariant

pub returns : goal.returns
returns g c = sym (rounds_end c.args.n c.loop-k.k g.R.Marks.kind c.args.n c.loop-k.rows c.loop-k-test.false) ∙ c.loop-k.invariant
