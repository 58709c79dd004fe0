use Rattle.std.proofs.Common.{arith, ap, sym, ◌∙◌, ℕ, get_or}
use Rattle.join_model.specs.{Merge.merge, Closed.label_of}
use Rattle.join.specs.Scratch.{label_via, rows_down}
use Rattle.join.proofs.Filled.{drop_more, filled_more}
use Rattle.join.proofs.fill.merge.Goals as goal

pub loop-k-preserved : goal.loop-k-preserved
loop-k-preserved c =
    let l = c.loop-k in
    let a = c.args in
    let f : ℕ → ℕ = label_via a.labels1.now a.slots1.now in
    let g : ℕ → ℕ = label_via a.labels2.now a.slots2.now in
    let x = sym (c.get_or-x.ensures ∙ ap (λ (i : ℕ). get_or a.labels1.now i 0) c.get_or.ensures) in
    let y = sym (c.get_or-y.ensures ∙ ap (λ (i : ℕ). get_or a.labels2.now i 0) c.get_or-in-loop-k.ensures) in
    let more = drop_more _ l.k _ _ (l.invariant.rest ∙ c.next-t.ensures.by_index f g x y) in
    record {
      left = omega arith;
      rest = more.1;
      done =
          c.set.ensures ∙ filled_more (label_of (merge (rows_down f a.n) (rows_down g a.m))) l.k a.labels.now
          l.labels _ l.invariant.done more.0;
    }
