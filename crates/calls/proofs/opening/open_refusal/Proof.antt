-- The tests are the rules', in their order.
use Rattle.model.proofs.Tests.Rules.{none, stop, pass}
use Rattle.calls.proofs.{InOrder.opening-tried, opening.open_refusal.Statement.statement}
use Rattle.calls.proofs.opening.open_refusal.Tie as tie

returns : tie.Need-returns-then-not-from1
returns c = opening-tried _ _ _ (stop (rw (← c.before.from1.ensures) c.if-not-from1.true-raw))

returns-2 : tie.Need-returns-then-not-from1-2
returns-2 c =
    let tasks = c.before.before in
    opening-tried _ _ _
    (pass (rw (← tasks.before.from1.ensures) tasks.if-not-from1.false-raw)
    (stop (rw (← c.before.from1-2.ensures) c.if-not-from1-2.true-raw)))

returns-3 : tie.Need-returns-then-not-fits-enough
returns-3 c =
    let slots = c.before.before in
    let tasks = slots.before.before in
    opening-tried _ _ _
    (pass (rw (← tasks.before.from1.ensures) tasks.if-not-from1.false-raw)
    (pass (rw (← slots.before.from1-2.ensures) slots.if-not-from1-2.false-raw)
    (stop (rw (← c.before.rows_fit-fits.ensures) c.if-not-fits-enough.true-raw))))

returns-4 : tie.Need-returns
returns-4 c =
    let slots = c.before.before in
    let tasks = slots.before.before in
    opening-tried _ _ _
    (pass (rw (← tasks.before.from1.ensures) tasks.if-not-from1.false-raw)
    (pass (rw (← slots.before.from1-2.ensures) slots.if-not-from1-2.false-raw)
    (pass (rw (← c.before.rows_fit-fits.ensures) c.if-not-fits-enough.false-raw) none)))

pub open_refusal_spec : {M : Type 1} → statement M
open_refusal_spec = tie.close (tie.spec (λ _ _. tt) returns (λ _ _. tt) returns-2 (λ _ _. tt) returns-3 returns-4)
