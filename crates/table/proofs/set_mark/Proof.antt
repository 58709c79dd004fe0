-- Or with one bit sets it; past the end the marks stay as they are.
use mathlib.Core.Path.{sym, ap}
use Prim.Native.Nat.{◌/◌, ◌%◌}
use native.Mathlib.Omega.{arith}
use borrow.Author.Rules.{rules}
use lib.{ListN.{get_or, set}, Seq.set_out}
use Rattle.table.proofs.{Bit.or_bit, set_mark.Statement.statement}
use Rattle.table.proofs.set_mark.Tie as tie

returns : tie.Need-returns-then-k-marks
returns c =
    let ws = c.before.before.args.marks.now in
    let n = c.before.before.args.n in
    ap (set ws (n / 64)) (or_bit 64 (get_or ws (n / 64) 0) (n % 64) (omega arith))

returns-2 : tie.Need-returns-else-k-marks
returns-2 c = let a = c.before.args in sym (set_out a.marks.now (a.n / 64) _ c.if-k-marks.false)

pub set_mark_spec : {M : Type 1} → statement M
set_mark_spec =
    tie.close
    (tie.spec
    (λ c. search rules)
    (λ c. search rules)
    (λ c. search rules)
    (λ c. search rules)
    (λ c. search rules)
    (λ c. search rules)
    returns
    returns-2)
