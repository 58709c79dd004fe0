-- The run stands after the pieces read so far, and has left less than a field of them.
use Rattle.std.proofs.Common.{◌-◌, ◌<◌, ◌≤◌, length}
use lib.Seq.{slice}
use Rattle.runfile.specs.Field.{longest_field}
use Rattle.trace_field.specs.Page.{page_of}
use Rattle.trace_replay.proofs.PageLoop.{Stands}
use Rattle.trace_stream.proofs.rounds.Given as goal

abbrev pub invariant-loop : goal.invariant-loop
invariant-loop g l = record {
  stands : Stands l.fn.out (page_of l.s l.out l.rows l.lefts l.rights l.labels l.marks l.next) (slice l.s.at l.have l.input);
  within : l.have ≤ length l.input;
  little : l.have - l.s.at < longest_field;
}
