-- Refused before the walk, by it, or found.
use Rattle.std.proofs.Common.{◌≡◌, refl, sym, ap, ◌∙◌, ℕ, List, [], Result}
use Rattle.model.specs.{declared.Control.Control, Tables.{Tables, tables_of}}
use Rattle.layout.specs.Rows.{control_of}
use Rattle.walk.{specs.{declared.Unsound.Unsound, Ways.beginning_of}, proofs.Along.waits}
use Rattle.find.specs.Looked.{answered}
use Rattle.find_model.specs.{declared.FindReply.FindReply, Find.{find}}
use Rattle.find.proofs.Finding.{turned_away, few, finds}
use Rattle.find.proofs.zc_find.Goals as goal
use Rattle.find.proofs.zc_find.Goals.{After-refusal-why}

-- What the call was given, where the rules before the walk have been tried.
module _ (c : After-refusal-why) (next : List ℕ) where
  -- The tables, whatever the next rows.
  abbrev under : Control → Tables
  under k = tables_of k c.args.lefts.now c.args.rights.now c.args.labels.now c.args.marks.now next

  abbrev tables : Tables
  tables = under c.control_of-c.result

  -- The control that the row is.
  answers : (n : FindReply) → n ≡ find tables c.args.wanted.now → n ≡ find (under (control_of c.args.control.now)) c.args.wanted.now
  answers n e = e ∙ ap (λ (k : Control). find (under k) c.args.wanted.now) c.control_of-c.ensures

pub returns-then-why-ne0 : goal.returns-then-why-ne0
returns-then-why-ne0 c next =
    let r = (goal.at.returns-then-why-ne0 c).After-refusal-why in
    answers r next _ (turned_away (tables r next) c.args.wanted.now c.from.result (c.from.ensures ∙ c.refusal-why.ensures next)
    (λ z. c.if-why-ne0.true (sym c.from.ensures ∙ z)))

pub search-requires : goal.search-requires
search-requires c =
    let r = (goal.at.search-requires c).After-refusal-why in
    (few (tables r []) c.args.wanted.now _ (c.refusal-why.ensures []) c.if-why-ne0.false, refl)

pub returns-in-Ok : goal.returns-in-Ok
returns-in-Ok c next =
    let r = (goal.at.returns-in-Ok c).After-refusal-why in
    let q = tables r next in
    answers r next _ (ap (λ (x : Result ℕ Unsound). answered x c.search.new.positions) (sym c.in-Ok.is) ∙ c.search.ensures
    ∙ finds q c.args.wanted.now _ (c.refusal-why.ensures next) c.if-why-ne0.false _ (waits q (beginning_of q.control) refl))

pub returns-in-Err : goal.returns-in-Err
returns-in-Err c next =
    let r = (goal.at.returns-in-Err c).After-refusal-why in
    let q = tables r next in
    answers r next _ (ap (λ (x : Result ℕ Unsound). answered x c.search.new.positions) (sym c.in-Err.is) ∙ c.search.ensures
    ∙ finds q c.args.wanted.now _ (c.refusal-why.ensures next) c.if-why-ne0.false _ (waits q (beginning_of q.control) refl))
