-- Refused, or handed out: control and records as the rows are.
use Rattle.std.proofs.Common.{sym, ap, ◌∙◌}
use Rattle.model.specs.{declared.{Control.Control}, Tables.{tables_of}}
use Rattle.layout.{specs.Rows.{control_of, record_of, records_of}, proofs.Rows.length_records}
use Rattle.schedule_model.specs.Next.{schedule_refusal}
use Rattle.schedule.proofs.Handing.{turned_away, accepted}
use Rattle.schedule.proofs.zc_next_schedule.Goals as goal

pub returns-then-why-ne0 : goal.returns-then-why-ne0
returns-then-why-ne0 c =
    let a = c.args in
    let rows = a.records.now in
    let q = λ (k : Control). tables_of k a.lefts.now a.rights.now a.labels.now a.marks.now a.next.now in
    let why = c.refusal-why.ensures (records_of rows)
    (record { count = length_records rows; first = sym c.call_at-x.ensures; second = sym c.call_at-y.ensures })
    ∙ ap (λ (k : Control). schedule_refusal (record { tables = q k; records = records_of rows }) a.schedule.now) c.control_of-c.ensures in
    turned_away (q (control_of a.control.now)) (records_of rows) a.schedule.now _ _ why c.if-why-ne0.true c.refused.ensures

pub returns : goal.returns
unfolding records_of
returns c =
    let a = c.args in
    let rows = a.records.now in
    let q = λ (k : Control). tables_of k a.lefts.now a.rights.now a.labels.now a.marks.now a.next.now in
    let why = c.refusal-why.ensures (records_of rows)
    (record { count = length_records rows; first = sym c.call_at-x.ensures; second = sym c.call_at-y.ensures })
    ∙ ap (λ (k : Control). schedule_refusal (record { tables = q k; records = records_of rows }) a.schedule.now) c.control_of-c.ensures in
    c.hand_out.ensures
    ∙ accepted (q (control_of a.control.now)) (records_of rows) a.schedule.now (record_of c.row_at-a.result) (record_of c.row_at-b.result)
    (sym why ∙ c.if-why-ne0.false) c.row_at-a.ensures c.row_at-b.ensures
