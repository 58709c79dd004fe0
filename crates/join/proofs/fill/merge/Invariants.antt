-- After k turns k labels are merged, and the rest is the merge of what remains of both.
use Rattle.std.proofs.Common.{◌≡◌, ◌+◌, drop}
use Rattle.join_model.specs.{Merge.merge, Closed.{filled, label_of}}
use Rattle.join.specs.Scratch.{label_via, rows_down}
use Rattle.join.proofs.fill.merge.Given as goal

abbrev pub invariant-loop-k : goal.invariant-loop-k
invariant-loop-k l =
    let f = label_via l.labels1 l.slots1 in
    let g = label_via l.labels2 l.slots2 in
    record {
      left : l.k + (l.first + l.second) ≡ l.n + l.m;
      rest : drop l.k (merge (rows_down f l.n) (rows_down g l.m)) ≡ merge (rows_down f l.first) (rows_down g l.second);
      done : l.labels ≡ filled (label_of (merge (rows_down f l.n) (rows_down g l.m))) l.k l.fn.labels;
    }
