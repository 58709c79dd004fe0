-- What is gathered, by where the walk begins.
use Rattle.std.proofs.Common.{◌≡◌, sym, ap, ◌∙◌, Option, None, Some, Result, Ok}
use Rattle.std.proofs.lemmas.Result.{err_from_is_err_and}
use Rattle.walk.{specs.{declared.{Unsound.Unsound, Way.Way}, Ways.{way_of, beginning_of}}, proofs.Along.begins-at}
use Rattle.sheet.specs.Extents.{extents, told}
use Rattle.sheet.proofs.extents.of_waiting.Goals as goal
use Rattle.sheet.proofs.extents.of_waiting.Goals.{After-begin}

begun : (c : After-begin) (r : Result (Option Way) Unsound) → c.begin.result ≡ r
    → extents r c.args.listed.now c.args.lefts.now c.args.rights.now c.args.labels.now c.args.seen.now
    ≡ extents (beginning_of c.args.c) c.args.listed.now c.args.lefts.now c.args.rights.now c.args.labels.now c.args.seen.now
begun c r e =
    ap (λ (r : Result (Option Way) Unsound). extents r c.args.listed.now c.args.lefts.now c.args.rights.now c.args.labels.now c.args.seen.now)
    (sym e ∙ c.begin.ensures)

pub gather-requires : goal.gather-requires
unfolding way_of
gather-requires c =
    let at = begins-at c.args.c c.in-Some.w (sym (c.in_ok-begin.was ∙ ap Ok c.in-Some.is) ∙ c.begin.ensures) in
    (rw at.0 c.requires, at.1)

pub returns-in_err-begin : goal.returns-in_err-begin
unfolding extents
returns-in_err-begin c =
    let p = err_from_is_err_and c.from_residual.result c.from_residual.ensures.1 in
    ap (λ r. told r c.args.seen.now) p.1 ∙ begun (goal.at.returns-in_err-begin c).After-begin _ c.in_err-begin.was

pub returns-in-None : goal.returns-in-None
unfolding extents
returns-in-None c = begun (goal.at.returns-in-None c).After-begin (Ok None) (c.in_ok-begin.was ∙ ap Ok c.in-None.is)

pub returns-in-Some : goal.returns-in-Some
unfolding extents
returns-in-Some c = c.gather.ensures ∙ begun (goal.at.returns-in-Some c).After-begin (Ok (Some c.in-Some.w)) (c.in_ok-begin.was ∙ ap Ok c.in-Some.is)
