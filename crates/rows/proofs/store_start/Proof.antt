-- Whether it was refused decides.
use mathlib.Core.Path.{sym, ◌∙◌}
use borrow.Author.Rules.{rules}
use Rattle.rows.proofs.store_start.Statement.{statement}
use Rattle.rows.proofs.store_start.Tie as tie

returns : tie.Need-returns-then-moves
returns c =
    let taken = c.before.before.before.before in
    let moved = sym taken.before.moves.ensures ∙ taken.if-moves.true in
    (rw moved c.before.put_call.ensures.0, rw moved c.before.put_call.ensures.1)

returns-2 : tie.Need-returns-else-moves
returns-2 c =
    let stays = sym c.before.moves.ensures ∙ c.if-moves.false in
    (rw stays, rw stays)

pub store_start_spec : {M : Type 1} → statement M
store_start_spec = tie.close (tie.spec (λ c κs. search rules) (λ c κs. search rules) (λ c. search rules) returns returns-2)
