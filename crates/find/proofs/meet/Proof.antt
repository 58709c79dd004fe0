-- A label that does not pass was not asked for, and nothing is noted.
use mathlib.Core.Path.{sym, ◌∙◌}
use Prim.Native.Nat.{◌%◌}
use lib.Dec.{leb}
use borrow.Author.{Rules.rules, Tests.leb-false}
use Rattle.model.{specs.Tables.marked, proofs.Tests.Truth.or-false}
use Rattle.find.proofs.{Noted.none-noted, Sieve.not_wanted, meet.Statement.statement}
use Rattle.find.proofs.meet.Tie as tie

returns-2 : tie.Need-returns-else-passes
returns-2 c =
    let s = c.before.before.before.before.before in
    let a = s.args in
    let clear = or-false (leb a.k 4) (marked a.sieve.now (a.y % 1024)) (sym c.before.passes.ensures ∙ c.if-passes.false) in
    let sifted = s.requires.0.sifted (leb-false a.k 4 clear.0) in
    sym (none-noted a.foremost a.y a.k a.wanted.now a.positions.now (not_wanted a.wanted.now a.sieve.now a.y sifted clear.1))

pub meet_spec : {M : Type 1} → statement M
meet_spec =
    tie.close
    (tie.spec (λ _ _. tt) (λ c κs. search rules) (λ c. search rules) (λ c. search rules) returns-2)
