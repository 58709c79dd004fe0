-- What was read stands within the buffer; what is left of it falls.
use Rattle.std.proofs.Common.{length, ◌-◌, ◌≤◌}
use Rattle.verdict.proofs.read_all.Given as goal

abbrev pub invariant-loop-have : goal.invariant-loop-have
invariant-loop-have g l = l.have ≤ length l.input

abbrev pub decreases-loop-have : goal.decreases-loop-have
decreases-loop-have g l = length l.initial.input - l.have
