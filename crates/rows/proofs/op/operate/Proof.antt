-- Each operation is the call that carries it out.
use borrow.Author.Rules.{rules}
use Rattle.rows.proofs.op.operate.Statement.{statement}
use Rattle.rows.proofs.op.operate.Tie as tie

returns : tie.Need-returns-in-Push
returns c =
    let labels = c.before.before.before.before in
    let done = labels.before in
    let lent = done.before.before.before.before in
    let told = lent in (
      rw told.in-Push.is done.push.ensures.0,
      rw told.in-Push.is done.push.ensures.1,
    )

returns-2 : tie.Need-returns-in-Pop
returns-2 c =
    let done = c.before in
    let lent = done.before.before in
    let told = lent in (
      rw told.in-Pop.is done.pop.ensures.0,
      rw told.in-Pop.is done.pop.ensures.1,
    )

returns-3 : tie.Need-returns-in-PushPooled
returns-3 c =
    let done = c.before in
    let lent = done.before.before in
    let told = lent in (
      rw told.in-PushPooled.is done.push_pooled.ensures.0,
      rw told.in-PushPooled.is done.push_pooled.ensures.1,
    )

returns-4 : tie.Need-returns-in-Step
returns-4 c =
    let labels = c.before.before.before.before in
    let lefts = labels.before.before.before.before in
    let done = lefts.before.before.before in
    let lent = done.before.before.before.before in
    let told = lent.before.before.before.before in (
      rw told.in-Step.is done.step.ensures.0,
      rw told.in-Step.is done.step.ensures.1,
    )

pub operate_spec : {M : Type 1} → statement M
operate_spec =
    tie.close
    (tie.spec
    (λ c. search rules)
    (λ c κs. search rules)
    (λ c. search rules)
    (λ c κs. search rules)
    (λ c. search rules)
    (λ c κs. search rules)
    (λ c. search rules)
    (λ c κs. search rules)
    (λ c. search rules)
    (λ c. search rules)
    (λ c. search rules)
    (λ c. search rules)
    (λ c. search rules)
    (λ c. search rules)
    returns
    (λ c. search rules)
    (λ c. search rules)
    (λ c. search rules)
    (λ c. search rules)
    (λ c. search rules)
    (λ c. search rules)
    returns-2
    (λ c. search rules)
    (λ c. search rules)
    (λ c. search rules)
    (λ c. search rules)
    (λ c. search rules)
    (λ c. search rules)
    returns-3
    (λ c. search rules)
    (λ c. search rules)
    (λ c. search rules)
    (λ c. search rules)
    (λ c. search rules)
    (λ c. search rules)
    returns-4)
