use mathlib.Core.Path.{sym, ◌∙◌}
use borrow.Author.{Rules.rules}
use Rattle.sheet.proofs.{Judged.{unfit_34, unfit_46, unfit_12, unfit_0}, unfit.Statement.statement}
use Rattle.sheet.proofs.unfit.Tie as tie

returns : tie.Need-returns-then-not-control_sound
returns c = unfit_34 _ _ _ (sym c.before.control_sound.ensures ∙ c.if-not-control_sound.true)

returns-2 : tie.Need-returns-then-malformed
returns-2 c =
    unfit_46 _ _ _ (sym c.before.before.before.control_sound.ensures ∙ c.before.before.if-not-control_sound.false)
    (sym c.before.malformed.ensures ∙ c.if-malformed.true)

returns-3 : tie.Need-returns-then-fits
returns-3 c =
    let sound = c.before.before.before in
    unfit_0 _ _ _ (sym sound.before.control_sound.ensures ∙ sound.if-not-control_sound.false)
    (sym c.before.before.malformed.ensures ∙ c.before.if-malformed.false) c.if-fits.true

returns-4 : tie.Need-returns-else-fits
returns-4 c =
    let sound = c.before.before.before in
    unfit_12 _ _ _ (sym sound.before.control_sound.ensures ∙ sound.if-not-control_sound.false)
    (sym c.before.before.malformed.ensures ∙ c.before.if-malformed.false) c.if-fits.false

pub unfit_spec : {M : Type 1} → statement M
unfit_spec =
    tie.close
    (tie.spec
    (λ c κs. search rules)
    returns
    (λ c κs. search rules)
    returns-2
    returns-3
    returns-4)
