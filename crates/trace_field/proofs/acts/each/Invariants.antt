-- What is left of the list leads from here to where the whole list leads from the start.
use Rattle.std.proofs.Common.{◌≡◌, ◌+◌, ◌-◌, ◌*◌, ◌≤◌, length, drop}
use Rattle.trace_field.specs.{Run.each_of, Page.{page_of, operates}}
use Rattle.trace_field.proofs.acts.each.Given as goal

abbrev pub invariant-loop-task : goal.invariant-loop-task
invariant-loop-task l = record {
  room : l.q.to + 128 * (length l.tasks - l.task-index) ≤ length l.initial.out;
  left : operates (page_of l.q l.out l.rows l.lefts l.rights l.labels l.marks l.next) (each_of l.op (drop l.task-index l.tasks))
      ≡ operates
      (page_of l.initial.q l.initial.out l.initial.rows l.initial.lefts l.initial.rights l.initial.labels l.initial.marks l.initial.next)
      (each_of l.op l.tasks);
}
