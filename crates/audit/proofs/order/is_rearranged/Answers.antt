use Rattle.std.proofs.Common.{rules, arith, ◌≡◌, ◌∙◌, sym, ap, refl, subst, ℕ, List, [], ◌∷◌, ◌++◌, Bool, true, false, length, drop}
use Rattle.std.proofs.lemmas.List.{append-nil, nil_from_length}
use Rattle.std.proofs.Math.Seq.{drop-append_seam}
use Rattle.std.specs.List.{push}
use Rattle.std.specs.Slice.Iter.{iter_rest}
use Rattle.std.specs.Iterator.Adapters.{rev_source}
use mathlib.Core.Bool.{◌&&◌}
use lib.ListN.{length-set}
use borrow.Author.Tests.{not-false, not-true}
use Rattle.model.specs.{Sound.from1}
use Rattle.audit_model.specs.Audit.{all_of, differ, rearranges}
use Rattle.audit.proofs.{Loops.{first_passes, one_behind, passes}, Listed.{Listed, one_more}}
use Rattle.audit.proofs.{Verdicts.{another_length, not_rearranged, same_length}, WordsRead.within}
use Rattle.audit.proofs.order.is_rearranged.Invariants.{Behind}
use Rattle.audit.proofs.order.is_rearranged.Goals as goal
use Rattle.audit.proofs.order.is_rearranged.Goals.{then-not-contains-via-then-not-contains, then-not-contains-via-else-not-contains+then-marked}

-- A turn: the last number x of those that are not behind, with those behind.
module _ (order : List ℕ) (n : ℕ) (rest rest' listed : List ℕ) (x : ℕ) (last : rest ≡ push rest' x) (at : Behind order n rest listed) where
  parts : rest' ++ (x ∷ at.behind) ≡ order
  parts = one_behind rest rest' at.behind order x last at.parts

  turn : (a b : Bool) → from1 n x ≡ a → all_of (differ x) at.behind ≡ b
      → passes (from1 n) differ (x ∷ at.behind) ≡ a && (b && passes (from1 n) differ at.behind)
  turn a b p q = first_passes (from1 n) differ x at.behind ∙ (λ j. p j && (q j && passes (from1 n) differ at.behind))

  fails : length order ≡ n → passes (from1 n) differ (x ∷ at.behind) ≡ false → false ≡ rearranges n order
  fails len e =
      not_rearranged order n (length rest') len
      (ap (passes (from1 n) differ) (ap (drop (length rest')) (sym parts) ∙ drop-append_seam rest' (x ∷ at.behind)) ∙ e)

pub returns-then-order-n : goal.returns-then-order-n
returns-then-order-n c = another_length c.args.order.now c.args.n c.if-order-n.true

pub loop-k-init : goal.loop-k-init
loop-k-init c =
    let all : iter_rest (rev_source c.into_iter-k-iterator.result) ≡ c.args.order.now = search rules in
    record { behind = []; parts = append-nil _ ∙ all; size = refl; pass = refl; marks = search rules }

pub returns-then-not-contains : goal.returns-then-not-contains
returns-then-not-contains c =
    let x = c.in-Some.field-0.now in
    let at = c.loop-k.invariant in
    let last = c.in-Some.ensures.steps in
    let is : c.contains.result ≡ from1 c.args.n x = search rules in
    fails c.args.order.now c.args.n _ _ c.loop-k.listed x last at c.if-order-n.false (elim c.then-not-contains.branch [
      | then-not-contains-via-then-not-contains w ↦ turn _ _ _ _ _ x last at false _ (sym is ∙ w.if-not-contains.true) refl
      | then-not-contains-via-else-not-contains+then-marked w ↦
          let known = within c.args.n x (sym is ∙ w.if-not-contains.false) in
          turn _ _ _ _ _ x last at true false (sym is ∙ w.if-not-contains.false)
          (not-true _ (sym (w.marked.ensures ∙ at.marks x known.0 (omega arith)) ∙ w.if-marked.true))
    ])

pub loop-k-preserved : goal.loop-k-preserved
loop-k-preserved c =
    let x = c.in-Some.field-0.now in
    let at = c.loop-k.invariant in
    let last = c.in-Some.ensures.steps in
    let is : c.contains.result ≡ from1 c.args.n x = search rules in
    let known = within c.args.n x (sym is ∙ c.if-not-contains.false) in
    let new : all_of (differ x) at.behind ≡ true = not-false _ (sym (c.marked.ensures ∙ at.marks x known.0 (omega arith)) ∙ c.if-marked.false) in
    record {
      behind = x ∷ at.behind;
      parts = parts _ _ _ _ _ x last at;
      size = ap length c.set_mark.ensures ∙ length-set c.loop-k.listed _ _ ∙ at.size;
      pass = turn _ _ _ _ _ x last at true true (sym is ∙ c.if-not-contains.false) new ∙ at.pass;
      marks = subst (λ (marks : List ℕ). Listed marks (x ∷ at.behind)) (sym c.set_mark.ensures)
          (one_more c.loop-k.listed at.behind x at.size known.0 (omega arith) at.marks);
    }

pub returns : goal.returns
returns c =
    let at = c.loop-k.invariant in
    let none : iter_rest (rev_source c.loop-k.k-iterator) ≡ [] = nil_from_length _ c.in-None.ensures.steps.0 in
    let all : at.behind ≡ c.args.order.now = ap (λ (l : List ℕ). l ++ at.behind) (sym none) ∙ at.parts in
    sym (same_length c.args.order.now c.args.n c.if-order-n.false ∙ ap (passes (from1 c.args.n) differ) (sym all) ∙ at.pass)
