-- Turned away before it is asked anything, or the tests are the rules', in their order.
use mathlib.Core.{Path.{◌≡◌, ap}, Bool.{Bool, not}}
use Prim.Native.Nat.{ℕ}
use borrow.Author.{Rules.rules, Tests.{le-leb, lt-leb}}
use Rattle.model.{specs.Refusals.{Lent, admission, start_refusal}, proofs.Tests.Rules.{Tried, stop, pass}}
use Rattle.calls.proofs.InOrder.{turned_away, then_asked, from_record, record_on, of_busy, of_free, of_taken}
use Rattle.calls.proofs.{InOrder.of_late, refusal.start_refusal.Statement.statement}
use Rattle.calls.proofs.refusal.start_refusal.Tie as tie

returns : tie.Need-returns-then-admitted-ne0
returns c = λ fit p e. turned_away _ fit p _ _ _ _ e c.if-admitted-ne0.true

returns-2 : tie.Need-returns-then-side-gt1
returns-2 c = λ fit p e. then_asked _ fit p _ _ _ _ e c.before.if-admitted-ne0.false (stop (ap not (lt-leb _ _ c.if-side-gt1.true)))

returns-3 : tie.Need-returns-then-asked
returns-3 c = λ fit p e.
    let side = c.before in
    then_asked _ fit p _ _ _ _ e side.before.if-admitted-ne0.false (pass (ap not (le-leb _ _ side.if-side-gt1.false)) (stop c.if-asked.true))

returns-4 : tie.Need-returns-then-asked-2
returns-4 c = λ fit p e.
    let right = c.before in
    let side = right.before in
    then_asked _ fit p _ _ _ _ e side.before.if-admitted-ne0.false
    (pass (ap not (le-leb _ _ side.if-side-gt1.false)) (pass right.if-asked.false (stop c.if-asked-2.true)))

-- From the record on.
module _ (high : tie.After-late-high) where
  abbrev start : tie.Start
  start = high.before.before.before.before.before

  asked : (let a = start.args in (fit : Bool) (p : Lent) → a.admitted ≡ admission a.c fit p → (n : ℕ)
      → Tried (record_on a.c a.r a.asked) n → n ≡ start_refusal a.c fit p a.r a.side a.asked)
  asked fit p e n h =
      let inside = high.before in
      let right = inside.before in
      let side = right.before in
      from_record _ fit p _ _ _ _ e side.before.if-admitted-ne0.false (search rules) right.if-asked.false inside.if-asked-2.false h

returns-5 : tie.Need-returns-then-r-asked
returns-5 c = λ fit p e.
    let high = c.before.before.before in
    let a = (start high).args in
    asked high fit p e _ (of_free a.c a.r a.asked (rw (← high.late-high.ensures) c.if-r-asked.true))

returns-6 : tie.Need-returns-then-r-ne0
returns-6 c = λ fit p e.
    let busy = c.before.before in
    let high = busy.before.before.before.before.before in
    let a = (start high).args in
    rw c.busy_refusal.ensures (asked high fit p e _ (of_busy a.c a.r a.asked busy.if-r-ne0.true))

returns-7 : tie.Need-returns-then-asked-3
returns-7 c = λ fit p e.
    let idle = c.before in
    let high = idle.before.before.before.before.before in
    let a = (start high).args in
    asked high fit p e _ (of_taken a.c a.r a.asked idle.if-r-ne0.false c.if-asked-3.true)

returns-8 : tie.Need-returns-else-asked-3
returns-8 c = λ fit p e.
    let idle = c.before in
    let held = idle.before.before in
    let high = held.before.before.before in
    let a = (start high).args in
    asked high fit p e _
    (of_late a.c a.r a.asked (rw (← high.late-high.ensures) held.if-r-asked.false) idle.if-r-ne0.false c.if-asked-3.false)

pub start_refusal_spec : {M : Type 1} → statement M
start_refusal_spec =
    tie.close (tie.spec returns returns-2 returns-3 returns-4 (λ _ _. tt) returns-5 (λ _ _. tt) returns-6 returns-7 returns-8)
