-- Tests made one after the other.
use mathlib.Core.{Path.{◌≡◌, sym, ◌∙◌}, Bool.true}
use Rattle.model.specs.Sound.{control_sound}
use Rattle.waiting.proofs.refusal.Statement.{statement}
use Rattle.waiting.proofs.refusal.Tie as tie

returns : tie.Need-returns-then-not-control_sound
returns c = rw (sym c.before.control_sound.ensures ∙ c.if-not-control_sound.true)

sound : (e : tie.Else-not-control_sound) → control_sound e.before.before.args.c ≡ true
sound e = sym e.before.control_sound.ensures ∙ e.if-not-control_sound.false

returns-2 : tie.Need-returns-then-not-rows_fit
returns-2 c = rw (sound c.before.before, sym c.before.rows_fit.ensures ∙ c.if-not-rows_fit.true)

returns-3 : tie.Need-returns
returns-3 c = rw (sound c.before.before, sym c.before.rows_fit.ensures ∙ c.if-not-rows_fit.false)

pub refusal_spec : {M : Type 1} → statement M
refusal_spec = tie.close (tie.spec (λ _ _. tt) returns (λ _ _. tt) returns-2 returns-3)
