-- No event of a call passed is the one call's; the rest is yet to be tested.
use Rattle.std.proofs.Common.{◌≡◌, drop}
use Rattle.audit_model.specs.{Audit.{all_of, apart}, LentHistory.calls_in}
use Rattle.audit.proofs.calls.apart_from.Given as goal

abbrev pub invariant-loop-i : goal.invariant-loop-i
invariant-loop-i l = all_of (apart l.c) (drop l.i (calls_in l.words)) ≡ all_of (apart l.c) (drop l.at (calls_in l.words))
