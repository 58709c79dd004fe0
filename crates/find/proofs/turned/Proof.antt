-- None, or a position within the rows.
use native.Mathlib.Omega.{arith}
use borrow.Author.{Rules.rules, Tests.le-leb}
use Rattle.find.proofs.turned.Statement.{statement}
use Rattle.find.proofs.turned.Tie as tie

returns : tie.Need-returns-then-p-eq0
returns c = rw c.if-p-eq0.true

returns-2 : tie.Need-returns-else-p-eq0
returns-2 c =
    let a = c.before.args in
    rw (le-leb 1 a.p (omega (arith, c.if-p-eq0.false)), le-leb a.p a.rows c.before.requires) (omega (arith, c.before.requires))

pub turned_spec : {M : Type 1} → statement M
turned_spec = tie.close (tie.spec (λ c. search rules) (λ c. omega (arith, c.if-p-eq0.false, c.before.requires)) returns returns-2)
