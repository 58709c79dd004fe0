-- The labels before pass.
use Rattle.find.proofs.Sieve.{Below}
use Rattle.find.proofs.sift.Given as goal

abbrev pub invariant-loop-x : goal.invariant-loop-x
invariant-loop-x l = Below l.wanted l.sieve l.x-index
