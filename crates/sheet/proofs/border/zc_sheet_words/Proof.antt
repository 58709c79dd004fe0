use mathlib.Core.Path.{ap, ◌∙◌}
use Rattle.model.specs.{declared.Control.Control, Tables.tables_of}
use Rattle.sheet_model.specs.{Sheet.Sheet, Verdict.sheet_words}
use borrow.Author.Rules.{rules}
use Rattle.sheet.proofs.border.zc_sheet_words.Statement.{statement}
use Rattle.sheet.proofs.border.zc_sheet_words.Tie as tie

returns : tie.Need-returns
returns c next =
    let read = c.before.before.before.before in
    let lists = read.before.before.before.before in
    let first = lists.before.before.before.before in
    let a = first.before.args in
    let s : Sheet = record { listed = a.listed.now; rules = a.rules.now } in
    c.before.before.sheet_words.ensures next
    ∙ ap (λ (k : Control). sheet_words
    (tables_of k a.lefts.now a.rights.now a.labels.now a.marks.now next) s
    a.words.now) read.control_of-c.ensures

pub zc_sheet_words_spec : {M : Type 1} → statement M
zc_sheet_words_spec =
    tie.close (tie.spec (λ c κs. search rules) (λ c κs. search rules) (λ c. search rules) returns)
