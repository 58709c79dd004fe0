-- What is left of the list leads from here to where the whole list leads from the start.
use Rattle.std.proofs.Common.{◌<◌, ◌≤◌, length, ◌∙◌, arith}
use Rattle.trace_field.proofs.Pages.{each_end, each_more}
use Rattle.trace_field.proofs.acts.each.Goals as goal

pub loop-task-preserved : goal.loop-task-preserved
loop-task-preserved c =
    let more : c.loop-task.task-index < length c.args.tasks.now = omega arith in
    record {
      room = omega arith;
      left = each_more _ _ _ _ _ _ more c.from.ensures c.operate-q.ensures.next_after ∙ c.loop-task.invariant.left;
    }

pub returns : goal.returns
returns c =
    let end : length c.args.tasks.now ≤ c.loop-task.task-index = omega arith in
    each_end _ _ _ _ _ end c.loop-task.invariant.left
