-- A page taken: the last, or one that takes bytes.
use Rattle.std.proofs.Common.{refl, sym, ap, subst, ◌∙◌, arith}
use Rattle.trace_field.specs.Page.{Page}
use Rattle.trace_replay.{specs.Pieces.pages_of, proofs.PageLoop.{pages_rest, pages_last, pages_ended}}
use Rattle.trace_pages.specs.Some.{Some, none, more}
use Rattle.trace_pages.proofs.PieceLoop.{went_on}
use Rattle.trace_pages.proofs.take_piece.Goals as goal

pub loop-s-init : goal.loop-s-init
loop-s-init g c = record { left = refl; some = none }

pub returns-in_err-take_page-clause-some : goal.returns-in_err-take_page-clause-some
returns-in_err-take_page-clause-some g c =
    subst (Some _ _) (sym c.take_page.ensures) (more _ c.loop-s.invariant.some c.loop-s-test.true)

pub returns-then-s-at-clause-next_after : goal.returns-then-s-at-clause-next_after
returns-then-s-at-clause-next_after g c =
    let took = c.take_page.ensures in
    took ∙ pages_last _ _ c.loop-s-test.true (ap (λ (x : Page). x.at) (sym took) ∙ c.if-s-at.true) ∙ c.loop-s.invariant.left

pub returns-then-s-at-clause-some : goal.returns-then-s-at-clause-some
returns-then-s-at-clause-some g c =
    subst (Some _ _) (sym c.take_page.ensures) (more _ c.loop-s.invariant.some c.loop-s-test.true)

pub loop-s-smaller : goal.loop-s-smaller
loop-s-smaller g c =
    let on = went_on _ _ _ c.take_page.ensures c.if-s-at.false in
    omega (arith, on)

pub loop-s-preserved : goal.loop-s-preserved
loop-s-preserved g c =
    let took = c.take_page.ensures in
    record {
      left =
          ap (λ (x : Page). (pages_of c.args.bytes.now x).page) took
          ∙ pages_rest _ _ c.loop-s-test.true (λ k. c.if-s-at.false (ap (λ (x : Page). x.at) took ∙ k))
          ∙ c.loop-s.invariant.left;
      some = subst (Some c.args.bytes.now _) (sym took) (more _ c.loop-s.invariant.some c.loop-s-test.true);
    }

pub returns-clause-next_after : goal.returns-clause-next_after
returns-clause-next_after g c = pages_ended _ _ c.loop-s-test.false ∙ c.loop-s.invariant.left
