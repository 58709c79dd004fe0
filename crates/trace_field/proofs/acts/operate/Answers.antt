-- An operation carried out in the rows, and answered.
use Rattle.std.proofs.Common.{◌∙◌}
use Rattle.layout.specs.Rows.{uppers_of, writes_row}
use Rattle.rows.proofs.Starting.{zeroed-once}
use Rattle.trace_field.proofs.AfterActs.{operate_page}
use Rattle.trace_field.proofs.acts.operate.Goals as goal

pub returns-clause-next_after : goal.returns-clause-next_after
returns-clause-next_after c =
    let made = c.operate-outcome in
    let uppers = zeroed-once (writes_row c.args.op made.result) (uppers_of c.args.rows.now) _ _ made.ensures.records_after in
    operate_page _ _ _ _ _ _ _ _ _ _ _ _ _ _ _ _ _ _ _ _ _ _ c.control_row-words.ensures c.control_of.ensures
    made.ensures.fact c.trim.ensures.rows_unchanged
    (c.answer.ensures.by_index _ _ _ _ _ _ _ _ _ _ _ _ (c.trim.ensures.rows_after ∙ uppers))
