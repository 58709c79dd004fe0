-- The rule met points inside the list, and so at a row.
use Rattle.std.proofs.Common.{refl, sym, ap, ◌∙◌, ◌+◌, ◌-◌, ◌<◌, get_or, set, length, drop, arith}
use Rattle.sheet.specs.Squares.{rules_marked}
use Rattle.sheet.proofs.Turns.{inside, rule-set, rules-on, rules_end}
use Rattle.sheet.proofs.rows.mark.Goals as goal

pub loop-w-preserved : goal.loop-w-preserved
loop-w-preserved g c =
    let i = c.loop-w.w-index in
    let points = inside c.args.n i c.args.rules.now c.requires.2 c.loop-w-test.true in
    let b = c.before-in-loop-w.result in
    let row : b - 1 < length c.loop-w.rows = omega (arith, points, c.before-in-loop-w.ensures) in
    ap (λ x. rules_marked g.R.Marks.kind (drop (i + 1) c.args.rules.now) (set c.loop-w.rows (b - 1) x)) c.put.ensures
    ∙ ap (rules_marked g.R.Marks.kind (drop (i + 1) c.args.rules.now))
    (rule-set g.R.Marks.kind c.loop-w.rows (b - 1) row (get_or c.args.rules.now i 0) b c.after.result _ c.before-in-loop-w.ensures c.after.ensures refl)
    ∙ sym (rules-on c.args.rules.now i g.R.Marks.kind c.loop-w.rows c.loop-w-test.true)
    ∙ c.loop-w.invariant

pub returns : goal.returns
returns g c = sym (rules_end c.args.rules.now c.loop-w.w-index g.R.Marks.kind c.loop-w.rows c.loop-w-test.false) ∙ c.loop-w.invariant
