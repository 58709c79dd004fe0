-- Not admitted: the number alone. Admitted: the record is moved on in its row.
use Rattle.capi_record.proofs.Alone.{refused, stepped}
use Rattle.capi_record.proofs.zc_step_record.Goals as goal

pub returns-then-why-ne0 : goal.returns-then-why-ne0
returns-then-why-ne0 c =
    refused _ _ _ _ _ _ _ _ c.control_of-c.ensures _ _ (c.of-t.ensures c.control_of-c.result) c.admit_alone-why.ensures _ _ c.reply.ensures
    c.if-why-ne0.true c.refuse-o.ensures

pub returns : goal.returns
returns c =
    stepped _ _ _ _ _ _ _ _ c.control_of-c.ensures _ _ (c.of-t.ensures c.control_of-c.result) c.admit_alone-why.ensures _ _ c.reply-2.ensures _ _
    c.if-why-ne0.false c.move_row-o.ensures
