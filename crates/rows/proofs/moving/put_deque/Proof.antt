-- Nothing, a row all zero, or what a step at 1 to 10 that goes on may change.
use mathlib.Core.Path.{refl, ap, sym, ◌∙◌}
use Rattle.layout.specs.Rows.{call_of, record_of, upper_of}
use Rattle.layout.proofs.Rows.{counting}
use Rattle.rows.proofs.{moving.put_deque.Statement.statement}
use Rattle.model.specs.Tables.{idle}
use Rattle.engine.proofs.Stored.{deque_end, deque_going, deque-nothing, refused-goes}
use borrow.Author.Rules.{rules}
use Rattle.rows.proofs.moving.put_deque.Tie as tie

returns : tie.Need-returns-then-ends
unfolding call_of record_of upper_of
returns c =
    let ended = c.before in
    let counted = ended.before.before in
    let after-control = counted.before.before in
    let moved = after-control.before.before.before in
    let m = moved.before.before.args.m in
    let ends = sym ended.before.ends.ensures ∙ ended.if-ends.true in
    let after = deque_end _ _ m (sym moved.before.moves.ensures ∙ moved.if-moves.true) ends in
    (refl, (after-control.anchor_moved-after.ensures ∙ after.0, (ap (counting idle) counted.counted-retries.ensures ∙ after.1, rw ends)))

returns-2 : tie.Need-returns-then-moves
unfolding record_of
returns-2 c =
    let ended = c.before.before in
    let counted = ended.before.before in
    let after-control = counted.before.before in
    let moved = after-control.before.before.before in
    let m = moved.before.before.args.m in
    let goes = sym ended.before.ends.ensures ∙ ended.if-ends.false in
    let after = deque_going _ _ m (sym moved.before.moves.ensures ∙ moved.if-moves.true) goes in
    let next = c.call_moved-moved.ensures in
    (refl, (after-control.anchor_moved-after.ensures ∙ after.0, (next.0 ∙ ap (counting _) counted.counted-retries.ensures ∙ after.1, rw goes next.1)))

returns-3 : tie.Need-returns
returns-3 c =
    let m = c.before.before.args.m in
    let stays = sym c.before.moves.ensures ∙ c.if-moves.false in
    let after = deque-nothing _ _ m stays in
    (refl, (after.0, (after.1, rw (refused-goes m.outcome stays))))

pub put_deque_spec : {M : Type 1} → statement M
put_deque_spec =
    tie.close
    (tie.spec
    (λ c κs. search rules)
    (λ c κs. search rules)
    (λ c. search rules)
    (λ c κs. search rules)
    (λ c κs. search rules)
    returns
    (λ c κs. search rules)
    returns-2
    returns-3)
