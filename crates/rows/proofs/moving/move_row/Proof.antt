-- The step beyond place 10, or at 1 to 10.
use borrow.Author.Rules.{rules}
use Rattle.layout.specs.Rows.{call_of}
use Rattle.rows.proofs.moving.move_row.Statement.{statement}
use Rattle.rows.proofs.moving.move_row.Tie as tie

returns : tie.Need-returns-then-was-gt10
unfolding call_of
returns c =
    let made0 = c.before.before.before.before in
    let made = made0.before.before in
    let high0 = made.before.before.before.before in
    let high = high0.before.before in
    made.slot_step.ensures high.if-was-gt10.true _ _

returns-2 : tie.Need-returns
unfolding call_of
returns-2 c =
    let made = c.before.before.before.before in
    let low0 = made.before.before.before.before in
    let low = low0.before in
    made.deque_step.ensures low.if-was-gt10.false _ _ _

pub move_row_spec : {M : Type 1} → statement M
move_row_spec =
    tie.close
    (tie.spec
    (λ c. search rules)
    (λ c κs. search rules)
    (λ c. search rules)
    (λ c. search rules)
    (λ c. search rules)
    returns
    (λ c κs. search rules)
    (λ c. search rules)
    (λ c. search rules)
    returns-2)
