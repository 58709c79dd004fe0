-- A turn notes a label; what comes of it goes by where the walk goes on.
use Rattle.std.proofs.Common.{◌≡◌, sym, ap, ◌∙◌, ℕ, [], ◌+◌, get_or, Option, None, Some, Result, Ok}
use Rattle.std.proofs.lemmas.Result.{err_from_is_err_and}
use Rattle.walk.specs.{declared.Unsound.Unsound, Ways.ahead, Over.{made, over}}
use Rattle.walk.proofs.Along.{comes, full, turned, turns, led_to}
use Rattle.sheet.specs.{declared.extents.Extents.Extents, Extents.{Noting, begun, noted, ended, told, next_at}}
use Rattle.sheet.proofs.{Gather.noted-is, Turns.{position-on}}
use Rattle.sheet.proofs.extents.gather.Goals as goal
use Rattle.sheet.proofs.extents.gather.Goals.{After-leads}

module _ (c : After-leads) where
  abbrev before : Noting
  before = record { at = c.loop.at; low = c.loop.seen.low; high = c.loop.seen.high }

  abbrev met : Noting
  met = record { at = next_at c.args.w.rightward c.loop.at; low = c.note.new.self.low; high = c.note.new.self.high }

  here : met ≡ noted c.args.w.rightward c.args.listed.now before (record { slot = c.loop.x; label = get_or c.args.labels.now c.loop.x 0 })
  here =
      noted-is c.args.w.rightward c.args.listed.now c.place_from.result c.get_or.result _ c.loop.x c.loop.at c.loop.seen.low c.loop.seen.high _ _
      c.place_from.ensures c.get_or.ensures (ap (λ (e : Extents). e.low) c.note.ensures) (ap (λ (e : Extents). e.high) c.note.ensures)

  onwards : (r : Result (Option ℕ) Unsound) → c.leads.result ≡ r
      → turned (noted c.args.w.rightward c.args.listed.now) c.args.w c.args.lefts.now c.args.rights.now c.args.labels.now c.loop.counter c.loop.x before
      c.loop-test.true c.loop.invariant.on r
      ≡ over (noted c.args.w.rightward c.args.listed.now) (begun c.args.w.rightward c.args.seen.now)
      (ahead c.args.w c.args.lefts.now c.args.rights.now c.args.labels.now)
  onwards r e =
      sym (turns (noted c.args.w.rightward c.args.listed.now) c.args.w c.args.lefts.now c.args.rights.now c.args.labels.now c.loop.counter c.loop.x before
      c.loop-test.true c.loop.invariant.on r (sym e ∙ c.leads.ensures)) ∙ c.loop.invariant.notes

pub returns-in_err-y : goal.returns-in_err-y
returns-in_err-y c =
    let p = err_from_is_err_and c.from_residual.result c.from_residual.ensures.1 in
    ap (λ r. told r c.note.new.self) p.1 ∙ ap ended (onwards (goal.at.returns-in_err-y c).After-leads _ c.in_err-y.was)

pub returns-in_default : goal.returns-in_default
returns-in_default c =
    let v = (goal.at.returns-in_default c).After-leads in
    ap (λ (s : Noting). ended (made s)) (here v) ∙ ap ended (onwards v (Ok None) (c.in_ok-y.was ∙ ap Ok c.in_default.is))

pub loop-preserved : goal.loop-preserved
loop-preserved c =
    let v = (goal.at.loop-preserved c).After-leads in
    let a = c.args in
    let on : c.leads.result ≡ Ok (Some c.in-Some.y) = c.in_ok-y.was ∙ ap Ok c.in-Some.is in
    record {
      on = led_to a.w a.lefts.now a.rights.now [] c.loop.x c.in-Some.y (sym on ∙ c.leads.ensures);
      place = c.next_at-at.ensures ∙ ap (next_at a.w.rightward) c.loop.invariant.place ∙ position-on a.w.rightward c.loop.counter;
      notes =
          (λ i. comes (noted a.w.rightward a.listed.now) a.w a.lefts.now a.rights.now a.labels.now (c.loop.counter + 1)
          (record { at = c.next_at-at.ensures i; low = c.note.new.self.low; high = c.note.new.self.high }) c.in-Some.y)
          ∙ ap (λ (s : Noting). comes (noted a.w.rightward a.listed.now) a.w a.lefts.now a.rights.now a.labels.now (c.loop.counter + 1) s c.in-Some.y) (here v)
          ∙ onwards v _ on;
    }

pub returns : goal.returns
returns c =
    let a = c.args in
    ap ended (sym (full (noted a.w.rightward a.listed.now) a.w a.lefts.now a.rights.now a.labels.now c.loop.counter c.loop.x
    (record { at = c.loop.at; low = c.loop.seen.low; high = c.loop.seen.high }) c.loop-test.false) ∙ c.loop.invariant.notes)
