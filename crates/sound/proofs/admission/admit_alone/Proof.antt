-- The rules of control and lengths are all: no record is wanting, and 13 can't occur.
use Rattle.model.specs.Refusals.{admission}
use Rattle.sound.proofs.admission.admit_alone.Statement.{statement}
use Rattle.sound.proofs.admission.admit_alone.Tie as tie

returns : tie.Need-returns
unfolding admission
returns c = c.step_refusal.ensures

pub admit_alone_spec : {M : Type 1} → statement M
admit_alone_spec = tie.close (tie.spec (λ _ _. tt) returns)
