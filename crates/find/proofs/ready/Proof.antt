-- Made after the first few slots, and kept from then on.
use native.Mathlib.Omega.{arith}
use borrow.Author.Rules.{rules}
use Rattle.find.proofs.ready.Statement.{statement}
use Rattle.find.proofs.ready.Tie as tie

returns : tie.Need-returns-then-n-eq-FEW
returns c = let s = c.before.before.sift.ensures in record { size = s.size; sifted = λ h. s }

returns-2 : tie.Need-returns-else-n-eq-FEW
returns-2 c =
    let r = c.before.before.before.requires in
    record { size = r.size; sifted = λ h. r.sifted (omega (arith, c.if-n-eq-FEW.false)) }

pub ready_spec : {M : Type 1} → statement M
ready_spec = tie.close (tie.spec (λ c κs. c.before.before.before.before.requires.size) (λ c. search rules) returns returns-2)
