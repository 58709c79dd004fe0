-- The controls that the rows are; what was left, stored.
use Rattle.std.proofs.Common.{◌≡◌, ◌∙◌, refl, ap}
use lib.ListN.{replicate}
use Rattle.model.specs.Tables.{idle}
use Rattle.layout.specs.Rows.{call_of, records_of, with_call_at}
use Rattle.join.proofs.Joining.{stored}
use Rattle.join.proofs.zc_join.Goals as goal

-- A row of zeros has no call.
zeros_idle : call_of (replicate 10 0) ≡ idle
unfolding call_of
zeros_idle = refl

pub returns-in-Ok-Some-clause-fact : goal.returns-in-Ok-Some-clause-fact
returns-in-Ok-Some-clause-fact c m1 x1 m2 x2 x =
    let j = rw c.in-Ok-Some.field-0-is at (c.in-Ok-Some.ensures m1 x1 m2 x2 x) in
    rw (← c.control_of-a.ensures, ← c.control_of-b.ensures, ← c.control_of-c.ensures)
    (stored _ _ _ _ _ _ _ c.in-Ok-Some.control j _ _ c.control_row.ensures
    (c.put_call.ensures.rows_after ∙ ap (with_call_at (records_of c.args.records.now) 0) (c.call_of.ensures ∙ zeros_idle)))
