-- A turn notes a label; what comes of it goes by where the walk goes on.
use Rattle.std.proofs.Common.{◌≡◌, sym, ap, ◌∙◌, ℕ, [], ◌+◌, get_or, Option, None, Some, Result, Ok}
use Rattle.std.proofs.lemmas.Result.{err_from_is_err_and}
use Rattle.model.specs.declared.Entry.{Entry}
use Rattle.walk.specs.{declared.Unsound.Unsound, Ways.ahead, Over.{made, over}}
use Rattle.walk.proofs.Along.{comes, full, turned, turns, led_to}
use Rattle.find_model.specs.Noting.{note}
use Rattle.find.specs.Looked.{Noted, note_on, noted}
use Rattle.find.proofs.Searching.{with}
use Rattle.find.proofs.look.Goals as goal
use Rattle.find.proofs.look.Goals.{After-leads}

module _ (c : After-leads) where
  abbrev f : Noted → Entry → Noted
  f = note_on c.args.w.rightward c.args.wanted.now

  met : with (c.loop-n.n + 1) c.meet.new.positions
      ≡ note_on c.args.w.rightward c.args.wanted.now (with c.loop-n.n c.loop-n.positions)
      (record { slot = c.loop-n.x; label = get_or c.args.labels.now c.loop-n.x 0 })
  met =
      ap (with (c.loop-n.n + 1))
      (c.meet.ensures ∙ ap (λ (y : ℕ). note c.args.w.rightward y (c.loop-n.n + 1) c.args.wanted.now c.loop-n.positions) c.get_or-label.ensures)

  onwards : (r : Result (Option ℕ) Unsound) → c.leads.result ≡ r
      → turned f c.args.w c.args.lefts.now c.args.rights.now c.args.labels.now c.loop-n.n c.loop-n.x (with c.loop-n.n c.loop-n.positions)
      c.loop-n-test.true c.loop-n.invariant.at r
      ≡ over f (with 0 c.args.positions.now) (ahead c.args.w c.args.lefts.now c.args.rights.now c.args.labels.now)
  onwards r e =
      sym (turns f c.args.w c.args.lefts.now c.args.rights.now c.args.labels.now c.loop-n.n c.loop-n.x (with c.loop-n.n c.loop-n.positions)
      c.loop-n-test.true c.loop-n.invariant.at r (sym e ∙ c.leads.ensures)) ∙ c.loop-n.invariant.notes

pub returns-in_err-y : goal.returns-in_err-y
returns-in_err-y c =
    let p = err_from_is_err_and c.from_residual.result c.from_residual.ensures.1 in
    ap (λ r. noted r c.meet.new.positions) p.1 ∙ onwards (goal.at.returns-in_err-y c).After-leads _ c.in_err-y.was

pub returns-in_default : goal.returns-in_default
returns-in_default c =
    let v = (goal.at.returns-in_default c).After-leads in
    ap made (met v) ∙ onwards v (Ok None) (c.in_ok-y.was ∙ ap Ok c.in_default.is)

pub loop-n-preserved : goal.loop-n-preserved
loop-n-preserved c =
    let v = (goal.at.loop-n-preserved c).After-leads in
    let a = c.args in
    let on : c.leads.result ≡ Ok (Some c.in-Some.y) = c.in_ok-y.was ∙ ap Ok c.in-Some.is in
    record {
      at = led_to a.w a.lefts.now a.rights.now [] c.loop-n.x c.in-Some.y (sym on ∙ c.leads.ensures);
      ready = c.ready.ensures;
      notes =
          ap (λ (s : Noted). comes (note_on a.w.rightward a.wanted.now) a.w a.lefts.now a.rights.now a.labels.now (c.loop-n.n + 1) s c.in-Some.y) (met v)
          ∙ onwards v _ on;
    }

pub returns : goal.returns
returns c =
    let a = c.args in
    sym (full (note_on a.w.rightward a.wanted.now) a.w a.lefts.now a.rights.now a.labels.now c.loop-n.n c.loop-n.x (with c.loop-n.n c.loop-n.positions)
    c.loop-n-test.false) ∙ c.loop-n.invariant.notes
