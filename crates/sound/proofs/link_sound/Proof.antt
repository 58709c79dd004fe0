-- The lower half against the smaller of two numbers.
use Rattle.sound.proofs.{Links.by_least, link_sound.Statement.statement}
use Rattle.sound.proofs.link_sound.Tie as tie

returns : tie.Need-returns
returns c = by_least _ _ _ c.min.ensures

pub link_sound_spec : {M : Type 1} → statement M
link_sound_spec = tie.close (tie.spec (λ _ _. tt) returns)
