-- After k turns k slots are linked and marked.
use Rattle.std.proofs.Common.{◌≡◌}
use Rattle.join_model.specs.Closed.{filled, left_of, marked_to}
use Rattle.join.specs.Scratch.{right_to}
use Rattle.join.proofs.fill.link_up.Given as goal

abbrev pub invariant-loop-k : goal.invariant-loop-k
invariant-loop-k l = record {
  left : l.lefts ≡ filled left_of l.k l.fn.lefts;
  right : l.rights ≡ filled (right_to l.n) l.k l.fn.rights;
  mark : l.marks ≡ marked_to l.k l.fn.marks;
}
