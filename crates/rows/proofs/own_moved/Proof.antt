-- All but own slot and label is kept, and the upper half of the label's word.
use mathlib.Core.Path.{ap}
use Prim.Native.Nat.{ℕ}
use Rattle.engine.specs.Stored.{own_moved}
use Rattle.layout.specs.Rows.{call_of, record_of, upper_of}
use Rattle.layout.proofs.Rows.{counting, labelled}
use Rattle.rows.proofs.{own_moved.Statement.statement}
use borrow.Author.Rules.{rules}
use Rattle.rows.proofs.own_moved.Tie as tie

returns : tie.Need-returns
unfolding call_of record_of upper_of
returns c =
    let a = c.before.args in
    let word = c.relabelled-word.ensures in
    (ap (λ (n : ℕ). counting (own_moved (call_of a.row) (labelled a.r n)) (record_of a.row).retries) word.0, word.1)

pub own_moved_spec : {M : Type 1} → statement M
own_moved_spec =
    tie.close
    (tie.spec
    (λ c. search rules)
    (λ c κs. search rules)
    (λ c. search rules)
    (λ c. search rules)
    (λ c. search rules)
    (λ c. search rules)
    (λ c. search rules)
    (λ c. search rules)
    (λ c. search rules)
    (λ c. search rules)
    returns)
