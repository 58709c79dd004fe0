-- Each return is the first rule that applies, by the tests passed before it.
use mathlib.Core.Path.{sym, ◌∙◌}
use Rattle.sound.proofs.admission.table_refusal.Statement.{statement}
use Rattle.sound.proofs.admission.table_refusal.Tie as tie

returns : tie.Need-returns-then-not-control_sound
returns c = rw (sym c.before.control_sound.ensures ∙ c.if-not-control_sound.true)

returns-2 : tie.Need-returns-then-tables_fit
returns-2 c =
    let sound = c.before.before in
    rw (sym sound.before.control_sound.ensures ∙ sound.if-not-control_sound.false, sym c.before.tables_fit.ensures ∙ c.if-tables_fit.true)

returns-3 : tie.Need-returns-else-tables_fit
returns-3 c =
    let sound = c.before.before in
    rw (sym sound.before.control_sound.ensures ∙ sound.if-not-control_sound.false, sym c.before.tables_fit.ensures ∙ c.if-tables_fit.false)

pub table_refusal_spec : {M : Type 1} → statement M
table_refusal_spec = tie.close (tie.spec (λ _ _. tt) returns (λ _ _. tt) returns-2 returns-3)
