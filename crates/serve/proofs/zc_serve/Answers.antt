-- The list follows the opened queue, of which the theorems on histories speak.
use Rattle.std.proofs.Common.{ℕ, ◌*◌, ◌≤◌, length, sym, subst}
use Rattle.serve.proofs.Opening.{serves, count_fits}
use Rattle.serve.proofs.zc_serve.Goals as goal

pub carry_out-requires : goal.carry_out-requires
carry_out-requires c =
    let a = c.args in
    subst (λ (k : ℕ). (5 * k ≤ length a.requests.now) × (3 * k ≤ length a.replies.now)) (sym c.count_after-count.ensures)
    (count_fits c.open_as-code.result (length a.requests.now) (length a.replies.now))

pub returns : goal.returns
returns c = serves _ _ _ _ _ _ _ _ _ c.open_as-code.ensures c.count_after-count.ensures c.carry_out.ensures
