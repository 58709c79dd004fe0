-- Each field is the call that carries it out.
use Rattle.std.proofs.Common.{◌≡◌, ◌+◌, ◌-◌, take, drop, ℕ, ap, arith}
use Rattle.trace_field.specs.{Run.field_told, Page.field_uppers}
use Rattle.trace_field.proofs.carry_out.Goals as goal

pub returns-in-Open : goal.returns-in-Open
unfolding field_told field_uppers
returns-in-Open c = rw c.in-Open.is c.open_queue.ensures

pub returns-in-Each : goal.returns-in-Each
unfolding field_told field_uppers
returns-in-Each c =
    let tasks : take (3 + c.in-Each.count - 3) (drop 3 c.args.bytes.now) ≡ take c.in-Each.count (drop 3 c.args.bytes.now) =
    ap (λ (n : ℕ). take n (drop 3 c.args.bytes.now)) (omega arith) in
    rw (c.in-Each.is, ← tasks) c.each.ensures
