-- The first test that fails, or all of a push or of a pop.
use mathlib.Core.Path.{sym, ◌∙◌}
use borrow.Author.Tests.{eq-eqb, ne_eqb}
use Rattle.sound.specs.Records.{deque_call}
use Rattle.sound.proofs.{DequePlaces.pops, deque_call.Statement.statement}
use Rattle.sound.proofs.deque_call.Tie as tie

returns : tie.Need-returns-then-not-from1
unfolding deque_call
returns c = simp (eq-eqb _ _ c.before.before.if-r-eq0.true, sym c.before.from1.ensures ∙ c.if-not-from1.true)

returns-2 : tie.Need-returns-then-r-eq0-2
unfolding deque_call
returns-2 c =
    let own = c.before.before in
    simp (
      eq-eqb _ _ own.before.before.if-r-eq0.true,
      sym own.before.from1.ensures ∙ own.if-not-from1.false,
      eq-eqb _ _ c.if-r-eq0-2.true,
    )

returns-3 : tie.Need-returns-then-r-eq0
unfolding deque_call
returns-3 c =
    let finishing = c.before.before in
    let own = finishing.before.before in
    simp (
      eq-eqb _ _ own.before.before.if-r-eq0.true,
      sym own.before.from1.ensures ∙ own.if-not-from1.false,
      ne_eqb _ _ finishing.if-r-eq0-2.false,
    )

returns-4 : tie.Need-returns-then-r-ne1
unfolding deque_call
returns-4 c = simp (ne_eqb _ _ c.before.before.if-r-eq0.false, ne_eqb _ _ c.if-r-ne1.true)

returns-5 : tie.Need-returns
returns-5 c = let pop = c.before.before in pops _ _ pop.before.before.if-r-eq0.false pop.if-r-ne1.false

pub deque_call_spec : {M : Type 1} → statement M
deque_call_spec = tie.close (tie.spec (λ _ _. tt) returns returns-2 returns-3 returns-4 returns-5)
