-- Refused: everything is as it was. Accepted: what each call ensures.
use mathlib.Core.Path.{◌≡◌}
use borrow.Author.{Rules.rules, Tests.{eq-eqb, ne_eqb}}
use Rattle.calls.specs.Starting.{push_refused_by}
use Rattle.calls.proofs.start.push_start.Statement.{statement}
use Rattle.calls.proofs.start.push_start.Tie as tie

-- The number found is that of the lengths told.
module _ (asked : tie.After-start_refusal-why) where
  abbrev start : tie.Start
  start = asked.before.before.before.before.before.before.before

  found : (let a = start.args in asked.start_refusal-why.result
      ≡ push_refused_by a.t a.c a.task a.r a.side a.slot a.marks.now)
  found =
      let admitted = asked.before in
      let marks = admitted.before.before in
      rw (← marks.marked-taken.ensures, ← marks.before.from1-inside.ensures)
      (asked.start_refusal-why.ensures _ _ admitted.admit-admitted.ensures)

returns : tie.Need-returns-then-why-ne0
returns c =
    let asked = c.before.before.before in
    let refused = ne_eqb asked.start_refusal-why.result 0 c.before.if-why-ne0.true in (
      rw (c.decided.ensures, ← found asked, refused),
      rw (← found asked, refused),
    )

returns-2 : tie.Need-returns
returns-2 c =
    let marked = c.before.before.before in
    let stored = marked.before.before.before.before in
    let test = stored.before.before in
    let asked = test.before.before in
    let accepted = eq-eqb asked.start_refusal-why.result 0 test.if-why-ne0.false in (
      rw (c.decided-2.ensures, test.before.new_call-push.ensures, ← found asked, accepted),
      rw (marked.set_mark.ensures, stored.set.ensures, ← found asked, accepted),
    )

pub push_start_spec : {M : Type 1} → statement M
push_start_spec =
    tie.close
    (tie.spec
    (λ c κs. search rules)
    (λ c κs. search rules)
    (λ c κs. search rules)
    (λ c κs. search rules)
    (λ c κs. search rules)
    (λ c. search rules)
    (λ c. search rules)
    returns
    (λ c κs. search rules)
    (λ c κs. search rules)
    (λ c κs. search rules)
    (λ c. search rules)
    (λ c. search rules)
    returns-2)
