use Rattle.std.proofs.Common.{arith, ◌≡◌, ◌<◌, ℕ, List, set, length, min, ap, ◌∙◌, refl}
use lib.ListN.{length-set}
use Rattle.model.specs.{declared.Record.Record, Tables.unused, Lists.zeroed}
use Rattle.layout.specs.Rows.{call_of, record_of, records_of, upper_of, uppers_of}
use Rattle.layout.proofs.Rows.{length_records, length_uppers, record_put, upper-put, one_more}
use Rattle.layout.proofs.clear.Goals as goal

pub loop-i-init : goal.loop-i-init
loop-i-init c = (refl, refl, refl)

pub loop-i-preserved : goal.loop-i-preserved
unfolding call_of record_of upper_of
loop-i-preserved c =
    let turn = c.loop-i in
    let rows₀ = c.args.rows.now in
    let there : turn.i < length (records_of rows₀) = omega (arith, length_records rows₀, c.min-most.ensures) in
    let here : turn.i < length (uppers_of rows₀) = omega (arith, length_uppers rows₀, c.min-most.ensures) in (
      length-set turn.rows turn.i _ ∙ turn.invariant.0,
      record_put _ _ _ ∙ ap (λ (l : List Record). set l turn.i unused) turn.invariant.1 ∙ one_more turn.i unused (records_of rows₀) there,
      upper-put _ _ _ ∙ ap (λ (l : List ℕ). set l turn.i 0) turn.invariant.2 ∙ one_more turn.i 0 (uppers_of rows₀) here,
    )

module _ (c : goal.After-loop-i) where
  all : c.loop-i.i ≡ min c.args.n (length c.args.rows.now)
  all = omega (arith, c.loop-i.auto.i-end, c.min-most.ensures)

pub returns-clause-rows_after : goal.returns-clause-rows_after
returns-clause-rows_after c = c.loop-i.invariant.1 ∙ ap (λ (k : ℕ). zeroed k unused (records_of c.args.rows.now)) (all c)

pub returns-clause-rows_after_2 : goal.returns-clause-rows_after_2
returns-clause-rows_after_2 c = c.loop-i.invariant.2 ∙ ap (λ (k : ℕ). zeroed k 0 (uppers_of c.args.rows.now)) (all c)
