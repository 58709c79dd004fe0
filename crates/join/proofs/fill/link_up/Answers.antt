use Rattle.std.proofs.Common.{arith, ap, ◌≡◌, ◌+◌, ◌-◌, ◌∙◌, ℕ}
use Rattle.word.specs.Link.{pack_link}
use Rattle.join_model.specs.Closed.{left_of}
use Rattle.join.specs.Scratch.{right_to}
use Rattle.join.proofs.Filled.{filled_more, marked_more}
use Rattle.join.proofs.fill.link_up.Goals as goal

-- The word that names k, never changed.
link_packed : (k : ℕ) → pack_link (record { tag = 0; slot = k }) ≡ left_of (k + 1)
link_packed k = let e : k ≡ k + 1 - 1 = omega arith in ap (λ (j : ℕ). pack_link (record { tag = 0; slot = j })) e

pub loop-k-preserved : goal.loop-k-preserved
loop-k-preserved c =
    let l = c.loop-k in
    let a = c.args in
    record {
      left = c.set.ensures ∙ filled_more left_of l.k a.lefts.now l.lefts _ l.invariant.left (c.link_word.ensures ∙ link_packed l.k);
      right = c.set-in-loop-k.ensures
          ∙ filled_more (right_to a.n) l.k a.rights.now l.rights _ l.invariant.right c.right_word.ensures;
      mark = c.set_mark.ensures ∙ marked_more l.k a.marks.now l.marks l.invariant.mark;
    }
