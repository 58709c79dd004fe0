use Rattle.std.proofs.Common.{◌≡◌, ◌∙◌, sym, ap, arith}
use Rattle.serve.proofs.Served.{request_in, served-all, served-none, served-next}
use Rattle.serve.proofs.carry_out.Goals as goal

pub loop-i-init : goal.loop-i-init
loop-i-init c = served-all _ _ _

pub loop-i-preserved : goal.loop-i-preserved
loop-i-preserved c =
    served-next _ _ _ _ _ _ _ c.loop-i-test.true (ap request_in c.request_at-request.ensures) c.take_turn-r.ensures c.write_reply.ensures
    ∙ c.loop-i.invariant

pub returns : goal.returns
returns c =
    let e : c.loop-i.i ≡ c.args.count = omega arith in
    sym (served-none _ _ _ _ e) ∙ c.loop-i.invariant
