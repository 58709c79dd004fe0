-- The start, and its record stored.
use Rattle.model.specs.{Calls.act_on, Tables.tables_of}
use Rattle.sound.proofs.Measured.{measures}
use Rattle.calls.proofs.Starts.{push_begun}
use Rattle.rows.proofs.Starting.{started, push_starts}
use Rattle.rows.proofs.op.push.Goals as goal

pub returns-clause-fact : goal.returns-clause-fact
unfolding act_on
returns-clause-fact c =
    let q = tables_of c.control_of-c.result c.args.lefts.now c.args.rights.now c.args.labels.now c.args.marks.now c.args.next.now in
    let t = c.of-t.ensures c.control_of-c.result in
    started _ c.args.records.now _ _ _ _ _ _ _ (push_starts _ c.args.records.now _ _ _ _ _ c.args.task _ _ _) _ _ _ _ _ _ _
    c.control_of-c.ensures t c.call_at-r.ensures
    (push_begun _ _ _ _ _ _ _ _ _ _ _ _ _ _ _ (measures q _ _ t)
    c.push_start-m.ensures.value c.push_start-m.ensures.marks_after)
    c.store_start.ensures.rows_after
