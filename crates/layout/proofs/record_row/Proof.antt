-- A label has 32 bits: nothing stands above them.
use mathlib.Core.Path.{◌≡◌, ap}
use Prim.Native.Nat.{ℕ, ◌/◌, ◌%◌, ◌^◌}
use native.Mathlib.Omega.{arith}
use Rattle.layout.specs.Rows.{call_of, record_of, upper_of}
use Rattle.layout.proofs.{Rows.{counting, labelled}, record_row.Statement.statement}
use borrow.Author.Rules.{rules}
use Rattle.layout.proofs.record_row.Tie as tie

returns : tie.Need-returns
unfolding call_of record_of upper_of
returns c =
    let r = c.before.args.r in
    let small = c.before.well_formed.0.1.1.1.1.1.1.0.1 in
    let fits : r.label % 2 ^ 32 ≡ r.label = omega (arith, small) in
    let none : r.label / 2 ^ 32 ≡ 0 = omega (arith, small) in
    (ap (λ (n : ℕ). counting (labelled r n) c.before.args.retries) fits, none)

pub record_row_spec : {M : Type 1} → statement M
record_row_spec = tie.close (tie.spec (λ c. search rules) returns)
