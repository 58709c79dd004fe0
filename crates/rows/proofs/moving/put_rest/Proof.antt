-- Nothing, the head alone, or own slot and label too.
use mathlib.Core.Path.{refl, sym, ◌∙◌}
use borrow.Author.{Rules.rules}
use Rattle.layout.specs.Rows.{record_of}
use Rattle.engine.proofs.Stored.{rest_end, rest_going, rest-nothing}
use Rattle.rows.proofs.moving.put_rest.Statement.{statement}
use Rattle.rows.proofs.moving.put_rest.Tie as tie

returns : tie.Need-returns-then-not-ends
unfolding record_of
returns c =
    let runs = c.before.before.before in
    let tested = runs.before in
    let head = tested.before in
    let moved = head.before.before.before in
    let m = moved.before.before.args.m in
    let after =
    rest_going _ _ m (sym moved.before.moves.ensures ∙ moved.if-moves.true) (sym tested.ends.ensures ∙ runs.if-not-ends.true) in
    let own = c.own_moved-moved.ensures in
    (refl, (head.head_moved-after.ensures ∙ after.0, (own.0 ∙ after.1, own.1)))

returns-2 : tie.Need-returns-else-not-ends
returns-2 c =
    let tested = c.before in
    let head = tested.before in
    let moved = head.before.before.before in
    let m = moved.before.before.args.m in
    let after =
    rest_end _ _ m (sym moved.before.moves.ensures ∙ moved.if-moves.true) (sym tested.ends.ensures ∙ c.if-not-ends.false) in
    (refl, (head.head_moved-after.ensures ∙ after.0, (after.1, refl)))

returns-3 : tie.Need-returns-else-moves
returns-3 c =
    let m = c.before.before.args.m in
    let after = rest-nothing _ _ m (sym c.before.moves.ensures ∙ c.if-moves.false) in
    (refl, (after.0, (after.1, refl)))

pub put_rest_spec : {M : Type 1} → statement M
put_rest_spec =
    tie.close
    (tie.spec
    (λ c κs. search rules)
    (λ c κs. search rules)
    (λ c κs. search rules)
    (λ c κs. search rules)
    returns
    returns-2
    returns-3)
