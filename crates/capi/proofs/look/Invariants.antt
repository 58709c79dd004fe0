-- The busy records before this one are counted, and the tasks' counts before it listed.
use Rattle.std.proofs.Common.{◌≡◌}
use Rattle.layout.specs.Rows.{records_of}
use Rattle.capi.specs.Replies.{busy_in, counts_in}
use Rattle.capi.proofs.look.Given as goal

abbrev pub invariant-loop-i : goal.invariant-loop-i
invariant-loop-i l = record { busy : l.busy ≡ busy_in l.i (records_of l.records); retries : l.retries ≡ counts_in l.i (records_of l.records) }
