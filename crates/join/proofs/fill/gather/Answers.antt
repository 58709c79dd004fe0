use Rattle.std.proofs.Common.{refl, arith, ◌∙◌, ◌<◌, length, subst, sym, ℕ}
use Rattle.join.specs.Scratch.{trail, walked_to}
use Rattle.join.proofs.Filled.{at_row, filled_more, trail_more}
use Rattle.join.proofs.fill.gather.Goals as goal

pub loop-k-init : goal.loop-k-init
unfolding trail
loop-k-init c = record { at = refl; done = refl }

pub follow-x-requires : goal.follow-x-requires
follow-x-requires c =
    let l = c.loop-k in
    subst (λ (x : ℕ). x < length c.args.links.now) (sym l.invariant.at) (c.requires l.k (omega arith))

pub loop-k-preserved : goal.loop-k-preserved
loop-k-preserved c =
    let l = c.loop-k in
    let a = c.args in
    record {
      at = c.follow-x.ensures ∙ trail_more a.links.now a.end l.k l.x l.invariant.at;
      done =
          c.set.ensures ∙ filled_more (walked_to a.links.now a.end) l.k a.out.now l.out l.x
          l.invariant.done (at_row a.links.now a.end l.x l.k l.invariant.at);
    }
