-- With `steps` made, what is left to do leads where the whole run leads; no step so far ended the call.
use Rattle.std.proofs.Common.{◌≡◌}
use Rattle.model.specs.Solo.{solo_run}
use Rattle.layout.specs.Rows.{queue_in, uppers_of}
use Rattle.capi_run.proofs.StepsToGo.{to-go}
use Rattle.capi_run.proofs.zc_run.Given as goal

abbrev pub invariant-loop-steps : goal.invariant-loop-steps
invariant-loop-steps l = record {
  uppers : uppers_of l.records ≡ uppers_of l.fn.records;
  left : to-go l.task l.most l.steps (queue_in l.control l.records l.lefts l.rights l.labels l.marks l.next)
      ≡ solo_run l.most (queue_in l.fn.control l.fn.records l.fn.lefts l.fn.rights l.fn.labels l.fn.marks l.fn.next) l.task;
}
