-- None of the tasks so far is busy.
use Rattle.std.proofs.Common.{◌≡◌}
use Rattle.layout.specs.Rows.{records_of}
use Rattle.join.proofs.Tested.{busy_in}
use Rattle.join.proofs.rest.idle.Given as goal

abbrev pub invariant-loop-t : goal.invariant-loop-t
invariant-loop-t l = busy_in (records_of l.records) l.t ≡ 0
