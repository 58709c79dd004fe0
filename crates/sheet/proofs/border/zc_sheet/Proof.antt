use mathlib.Core.Path.{ap, ◌∙◌}
use Rattle.model.specs.{declared.Control.Control, Tables.tables_of}
use Rattle.sheet_model.specs.{Sheet.Sheet, Verdict.sheet}
use borrow.Author.Rules.{rules}
use Rattle.sheet.proofs.border.zc_sheet.Statement.{statement}
use Rattle.sheet.proofs.border.zc_sheet.Tie as tie

returns : tie.Need-returns
returns c next =
    let lists = c.before.before.before.before in
    let control = lists.before.before.before in
    let a = control.before.before.args in
    let s : Sheet = record { listed = a.listed.now; rules = a.rules.now } in
    c.sheet.ensures next ∙ ap (λ (k : Control). sheet
    (tables_of k a.lefts.now a.rights.now a.labels.now a.marks.now next) s)
    c.before.control_of-c.ensures

pub zc_sheet_spec : {M : Type 1} → statement M
zc_sheet_spec = tie.close (tie.spec (λ c κs. search rules) (λ c κs. search rules) returns)
