-- What each call ensures; the number decides.
use Rattle.calls.proofs.start.push_pooled_start.Statement.{statement}
use Rattle.calls.proofs.start.push_pooled_start.Tie as tie

returns : tie.Need-returns
returns c =
    let why = c.before.before.start_refusal-why in
    let admitted = c.before.before.before in
    rw (c.decided.ensures, c.before.new_call-push.ensures, why.ensures _ _ admitted.admit-admitted.ensures)

pub push_pooled_start_spec : {M : Type 1} → statement M
push_pooled_start_spec = tie.close (tie.spec (λ _ _. tt) (λ _ _. tt) (λ _ _. tt) (λ _ _. tt) returns)
