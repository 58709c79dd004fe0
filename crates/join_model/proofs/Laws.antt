-- The laws of the joining.
use mathlib.Core.{Path.{◌≡◌, refl, sym, ap, ◌∙◌}, Bool.{false, not}, List.{List, [], ◌∷◌, ◌++◌}}
use Prim.Native.Nat.{ℕ, zero, suc, ◌-◌, ◌≤◌}
use native.Mathlib.Omega.{arith}
use lib.{Dec.ltb, ListN.length}
use borrow.Author.Tests.{ne_eqb, ltb-false}
use Rattle.model.specs.{Tables.Queue, Calls.open_as, Walk.{contents, entries, is_broken, met}}
use Rattle.model.specs.History.{Request, final, run}
use Rattle.model.proofs.{Tests.Rules.{◌and◌, never}, Standing.standing, Linearizable.linearizable, Never34.never_34}
use Rattle.stock_model.{specs.Accounts.waiting_labels, proofs.Accounts.{every-label, stock_taking}}
use Rattle.join_model.specs.Join.{anchor_in, any_late, lanes, outcomes, pushes, join_refusal, join_rules, join}
use Rattle.join_model.specs.Closed.{tag_after, late_for, holding, closed_refusal}
use Rattle.join_model.specs.Laws.{OwnOrder, StaysAscending, TieToFirst, SameCopies, RefusalKeeps, Zeros, numbered}
use Rattle.join_model.specs.Laws.{OnlyFresh, JoinedWait, Continues, JoinNever34, StandingJoinings}
use Rattle.join_model.proofs.{Ran.final-on, Fresh.Fresh, Waits.held-waits}
use Rattle.join_model.proofs.Closed.{same-refusal, accepted, joins}
use Rattle.join_model.proofs.Merged.{interleaved, ascending, tie, copies_merged}

pub own_order : OwnOrder
own_order a b = interleaved (waiting_labels a.tables) (waiting_labels b.tables)

pub stays_ascending : StaysAscending
stays_ascending a b = ascending (waiting_labels a.tables) (waiting_labels b.tables)

pub tie_to_first : TieToFirst
tie_to_first = tie

pub same-copies : SameCopies
same-copies a b x = copies_merged x (interleaved (waiting_labels a.tables) (waiting_labels b.tables))

-- Where no start is late, the tag after the last push has room.
pub tag-room : (tag m : ℕ) → late_for tag (suc m) ≡ false → tag_after tag (suc m) ≤ 4294967264
unfolding late_for
tag-room tag zero e = let z = ltb-false 4294967262 tag e in omega arith
tag-room tag (suc m) e =
    let g : ltb 4294967262 (tag_after tag (suc (suc m) - 1)) ≡ false = rw
    (ne_eqb (suc (suc m)) 0 (λ z. omega arith), ne_eqb (suc (suc m)) 1 (λ z. omega arith)) at e in
    let z = ltb-false 4294967262 (tag_after tag (suc (suc m) - 1)) g in
    omega arith

holding-waits : (q : Queue) → Fresh q → (l : List ℕ) → length l ≤ q.tables.control.slots → late_for (anchor_in q).tag (length l) ≡ false
    → contents (holding q l).tables ≡ entries (numbered 1 l)
unfolding holding contents
holding-waits q fresh [] h e = rw (fresh.left, fresh.right)
holding-waits q fresh (x ∷ l) h e = held-waits q fresh x l h (tag-room (anchor_in q).tag (length l) e)

module _ (a b q : Queue) (e : join_refusal a b q ≡ 0) where
  abbrev closed : closed_refusal a b q ≡ 0
  closed = sym (same-refusal a b q) ∙ e

  third-is : (join a b q).third ≡ final q (pushes 1 (lanes a b))
  unfolding join
  third-is = rw e

  pub waits : contents (join a b q).third.tables ≡ entries (numbered 1 (lanes a b))
  waits =
      let g = accepted a b q closed in
      ap (λ (z : Queue). contents z.tables) (third-is ∙ (joins a b q closed).leaves)
      ∙ holding-waits q g.0.third (lanes a b) g.0.room g.1

  pub zeros : Zeros q.tables
  zeros = (accepted a b q closed).0.third.zeros

pub refusal-keeps : RefusalKeeps
unfolding join
refusal-keeps a b q h = rw (ne_eqb (join_refusal a b q) 0 h)

pub only-fresh : OnlyFresh
only-fresh a b q e = zeros a b q e

pub joined_wait : JoinedWait
joined_wait a b q e = waits a b q e

pub continues : Continues
continues pooled q tasks slots tag o os a b e later = record {
  leaves = ap (λ (z : Queue). final z later) (third-is a b (final begun os) e ∙ sym (final-on os joining begun)) ∙ sym (final-on (os ++ joining) later begun);
  joins =
      ap met (sym (linearizable pooled q tasks slots tag o (os ++ joining)).waits ∙ ap (λ (z : Queue). contents z.tables)
      (final-on os joining begun ∙ sym (third-is a b (final begun os) e)) ∙ waits a b (final begun os) e);
  linearized = linearizable pooled q tasks slots tag o (os ++ joining ++ later);
  sound = never_34 pooled q tasks slots tag o (os ++ joining ++ later);
  accounted = every-label pooled q tasks slots tag o (os ++ joining ++ later);
  stock = stock_taking pooled q tasks slots tag o (os ++ joining ++ later);
}
  where
    joining : List Request
    joining = pushes 1 (lanes a b)

    begun : Queue
    begun = (open_as pooled q tasks slots tag).queue

pub standing_joinings : StandingJoinings
unfolding join_refusal
standing_joinings a b q d e f x y z = never 34 (join_rules a b q (any_late (outcomes (run q (pushes 1 (lanes a b)))))) (λ e. omega arith)
    (ap not x.control and ap not y.control and ap not z.control
    and refl and ap is_broken x.walk and ap is_broken y.walk
    and refl and refl and refl and tt)

pub join_never_34 : JoinNever34
join_never_34 pa a ta sa ga oa ks pb b tb sb gb ob ls pq q tq sq gq oq os =
    standing_joinings _ _ _ _ _ _ (standing pa a ta sa ga oa ks) (standing pb b tb sb gb ob ls) (standing pq q tq sq gq oq os)
