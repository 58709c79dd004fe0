-- The tests are the definition's, in its order.
use mathlib.Core.Bool.{and_assoc}
use Rattle.model.specs.Sound.{control_sound}
use Rattle.sound.proofs.control_sound.Statement.{statement}
use Rattle.sound.proofs.control_sound.Tie as tie

returns : tie.Need-returns
unfolding control_sound
returns c =
    let calls = c.before in
    simp (calls.anchor_sound-anchor.ensures, calls.before.from1-slots.ensures, calls.before.before.from1-tasks.ensures, and_assoc)

pub control_sound_spec : {M : Type 1} → statement M
control_sound_spec = tie.close (tie.spec (λ _ _. tt) (λ _ _. tt) (λ _ _. tt) returns)
