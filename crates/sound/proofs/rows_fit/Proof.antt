-- The tests are the definition's.
use mathlib.Core.Bool.{and_assoc}
use Rattle.sound.specs.Lengths.{lengths_fit}
use Rattle.sound.proofs.rows_fit.Statement.{statement}
use Rattle.sound.proofs.rows_fit.Tie as tie

returns : tie.Need-returns
unfolding lengths_fit
returns c = simp and_assoc

pub rows_fit_spec : {M : Type 1} → statement M
rows_fit_spec = tie.close (tie.spec returns)
