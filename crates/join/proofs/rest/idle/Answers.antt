use Rattle.std.proofs.Common.{◌≡◌, sym, ap, ◌∙◌, eq-eqb, arith}
use Rattle.model.specs.declared.Call.{Call}
use Rattle.layout.specs.Rows.{records_of}
use Rattle.join.proofs.Tested.{busy_in, idle-none, idle-more, idle_less}
use Rattle.join.proofs.rest.idle.Goals as goal

pub loop-t-init : goal.loop-t-init
loop-t-init c = idle-none (records_of c.args.records.now)

pub loop-t-preserved : goal.loop-t-preserved
loop-t-preserved c =
    idle-more (records_of c.args.records.now) c.loop-t.t c.loop-t.invariant
    (sym (ap (λ (r : Call). r.place) c.call_at.ensures) ∙ c.if-call_at-ne0.false)

pub returns-then-call_at-ne0 : goal.returns-then-call_at-ne0
returns-then-call_at-ne0 c =
    sym (idle_less (records_of c.args.records.now) c.args.n c.loop-t.t (omega arith)
    (λ e. c.if-call_at-ne0.true (ap (λ (r : Call). r.place) c.call_at.ensures ∙ e)))

pub returns : goal.returns
returns c =
    let e : c.loop-t.t ≡ c.args.n = omega arith in
    sym (eq-eqb _ _ (ap (busy_in (records_of c.args.records.now)) (sym e) ∙ c.loop-t.invariant))
