-- A field taken: the last, or one that takes bytes.
use Rattle.std.proofs.Common.{sym, ap, ◌∙◌, arith}
use borrow.Author.Tests.{not-true, not-false}
use Rattle.trace_field.specs.Page.{Page}
use Rattle.trace_replay.specs.Feed.{feed_page}
use Rattle.trace_replay.proofs.Loop.{goes_on, feed-rest, feed-last, feed-ended}
use Rattle.trace_replay.proofs.feed.Goals as goal

pub returns-then-q-at : goal.returns-then-q-at
returns-then-q-at c =
    let took = c.take-q.ensures in
    took ∙ feed-last _ _ (not-true _ c.loop-q-test.true) (ap (λ (x : Page). x.at) (sym took) ∙ c.if-q-at.true) ∙ c.loop-q.invariant

pub loop-q-smaller : goal.loop-q-smaller
loop-q-smaller c =
    let same = ap (λ (x : Page). x.at) c.take-q.ensures in
    let on = goes_on _ _ (λ k. c.if-q-at.false (same ∙ k)) in
    omega (arith, same, on)

pub loop-q-preserved : goal.loop-q-preserved
loop-q-preserved c =
    let took = c.take-q.ensures in
    ap (feed_page c.args.bytes.now) took ∙ feed-rest _ _ (not-true _ c.loop-q-test.true) (λ k. c.if-q-at.false (ap (λ (x : Page). x.at) took ∙ k))
    ∙ c.loop-q.invariant

pub returns : goal.returns
returns c = feed-ended _ _ (not-false _ c.loop-q-test.false) ∙ c.loop-q.invariant
