-- What waits, by where its walk begins.
use Rattle.std.proofs.Common.{◌≡◌, sym, ap, ◌∙◌, ℕ, List, cond, Option, None, Some, Result, Ok}
use Rattle.std.proofs.lemmas.Result.{err_from_is_err_and}
use Rattle.model.specs.{Tables.{Tables, tables_of}, Walk.contents}
use Rattle.walk.specs.{declared.{Unsound.Unsound, Way.Way}, Counted.counted, Ways.{ahead, walk_by}}
use Rattle.walk.proofs.{Along.{waits, begins-at}, Counting.either_way}
use Rattle.walk.proofs.waiting.Goals as goal
use Rattle.walk.proofs.waiting.Goals.{After-begin}

-- The tables, whatever their labels, marks and next rows.
module _ (c : After-begin) (labels marks next : List ℕ) where
  abbrev q : Tables
  q = tables_of c.args.c c.args.lefts.now c.args.rights.now labels marks next

  begun : (r : Result (Option Way) Unsound) → c.begin.result ≡ r → counted (walk_by r q.lefts q.rights labels) ≡ counted (contents q)
  begun r e = ap counted (sym (waits q r (sym e ∙ c.begin.ensures)))

pub returns-in_err-begin : goal.returns-in_err-begin
returns-in_err-begin c labels marks next =
    let p = err_from_is_err_and c.from_residual.result c.from_residual.ensures.1 in
    p.1 ∙ begun (goal.at.returns-in_err-begin c).After-begin labels marks next _ c.in_err-begin.was

pub returns-in-None : goal.returns-in-None
returns-in-None c labels marks next =
    begun (goal.at.returns-in-None c).After-begin labels marks next (Ok None) (c.in_ok-begin.was ∙ ap Ok c.in-None.is)

pub returns-in-Some : goal.returns-in-Some
returns-in-Some c labels marks next =
    let w = c.in-Some.w in
    c.count.ensures labels
    ∙ sym (either_way (cond w.rightward 0 1) (ahead w c.args.lefts.now c.args.rights.now labels))
    ∙ begun (goal.at.returns-in-Some c).After-begin labels marks next (Ok (Some w)) (c.in_ok-begin.was ∙ ap Ok c.in-Some.is)

pub count-requires : goal.count-requires
count-requires c = (begins-at c.args.c c.in-Some.w (sym (c.in_ok-begin.was ∙ ap Ok c.in-Some.is) ∙ c.begin.ensures)).1
