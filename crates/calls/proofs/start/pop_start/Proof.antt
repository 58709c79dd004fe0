-- What each call ensures; the number decides.
use Rattle.calls.proofs.start.pop_start.Statement.{statement}
use Rattle.calls.proofs.start.pop_start.Tie as tie

returns : tie.Need-returns
returns c =
    let why = c.before.before.start_refusal-why in
    let admitted = c.before.before.before in
    rw (c.decided.ensures, c.before.new_call-pop.ensures, why.ensures _ _ admitted.admit-admitted.ensures)

pub pop_start_spec : {M : Type 1} → statement M
pop_start_spec = tie.close (tie.spec (λ _ _. tt) (λ _ _. tt) (λ _ _. tt) (λ _ _. tt) returns)
