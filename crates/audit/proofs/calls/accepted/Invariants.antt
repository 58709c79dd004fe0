-- The calls passed are well formed and apart from every later one; the rest is yet to be tested.
use Rattle.std.proofs.Common.{◌≡◌, drop}
use Rattle.audit_model.specs.{Audit.{accepted, apart, well_formed}, LentHistory.calls_in}
use Rattle.audit.proofs.Loops.{passes}
use Rattle.audit.proofs.calls.accepted.Given as goal

abbrev pub invariant-loop-i : goal.invariant-loop-i
invariant-loop-i l = passes well_formed apart (drop l.i (calls_in l.words)) ≡ accepted (calls_in l.words)
