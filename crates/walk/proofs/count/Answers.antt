-- A turn tells what comes of the walk, by where it goes on.
use Rattle.std.proofs.Common.{◌≡◌, sym, ap, ◌∙◌, ℕ, List, [], arith, Option, None, Some, Result, Ok}
use Rattle.std.proofs.lemmas.Result.{err_from_is_err_and}
use Rattle.model.specs.Walk.{Walk}
use Rattle.walk.specs.{declared.Unsound.Unsound, Ways.ahead, Counted.counted, Over.{Made, over}}
use Rattle.walk.proofs.{Along.{full, turned, turns, led_to}, Counting.{one_more, tallied, tally_is}}
use Rattle.walk.proofs.count.Goals as goal
use Rattle.walk.proofs.count.Goals.{After-leads}

module _ (c : After-leads) (labels : List ℕ) where
  abbrev walk : Walk
  walk = ahead c.args.w c.args.lefts.now c.args.rights.now labels

  abbrev on : Result (Option ℕ) Unsound → Made ℕ
  on = turned one_more c.args.w c.args.lefts.now c.args.rights.now labels c.loop-n.n c.loop-n.x c.loop-n.n c.loop-n-test.true c.loop-n.invariant.at

  onwards : (r : Result (Option ℕ) Unsound) → c.leads.result ≡ r → on r ≡ over one_more 0 walk
  onwards r e =
      sym (turns one_more c.args.w c.args.lefts.now c.args.rights.now labels c.loop-n.n c.loop-n.x c.loop-n.n c.loop-n-test.true c.loop-n.invariant.at r
      (sym e ∙ c.leads.ensures)) ∙ c.loop-n.invariant.counts labels

  told : (r : Result (Option ℕ) Unsound) → c.leads.result ≡ r → tallied (on r) ≡ counted walk
  told r e = ap tallied (onwards r e) ∙ tally_is walk

pub returns-in_err-y : goal.returns-in_err-y
returns-in_err-y c labels =
    let p = err_from_is_err_and c.from_residual.result c.from_residual.ensures.1 in
    p.1 ∙ told (goal.at.returns-in_err-y c).After-leads labels _ c.in_err-y.was

pub returns-in_default : goal.returns-in_default
returns-in_default c labels =
    told (goal.at.returns-in_default c).After-leads labels (Ok None) (c.in_ok-y.was ∙ ap Ok c.in_default.is)

pub loop-n-preserved : goal.loop-n-preserved
loop-n-preserved c =
    let on : c.leads.result ≡ Ok (Some c.in-Some.y) = c.in_ok-y.was ∙ ap Ok c.in-Some.is in
    record {
      at = led_to c.args.w c.args.lefts.now c.args.rights.now [] c.loop-n.x c.in-Some.y (sym on ∙ c.leads.ensures);
      counts = λ labels. onwards (goal.at.loop-n-preserved c).After-leads labels _ on;
    }

pub returns : goal.returns
returns c labels =
    let a = c.args in
    ap tallied (sym (full one_more a.w a.lefts.now a.rights.now labels c.loop-n.n c.loop-n.x c.loop-n.n (omega (arith, c.loop-n-test.false)))
    ∙ c.loop-n.invariant.counts labels)
    ∙ tally_is (ahead a.w a.lefts.now a.rights.now labels)
