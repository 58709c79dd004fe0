use Rattle.std.proofs.Common.{◌≡◌, ◌≤◌, refl, sym, ◌∙◌, arith}
use Rattle.layout.specs.Rows.{queue_in, uppers_of}
use Rattle.capi_run.proofs.StepsToGo.{to_go_more, runs_on, answered, refused, stopped, cut}
use Rattle.capi_run.proofs.NoSteps.{none-ran}
use Rattle.capi_run.proofs.zc_run.Goals as goal

pub returns-then-most-eq0 : goal.returns-then-most-eq0
returns-then-most-eq0 c =
    let a = c.args in
    let q = queue_in a.control.now a.records.now a.lefts.now a.rights.now a.labels.now a.marks.now a.next.now in
    none-ran q a.task _ (uppers_of a.records.now) _ c.if-most-eq0.true c.run_of_none.ensures

pub returns-then-moves : goal.returns-then-moves
returns-then-moves c =
    let inv = c.loop-steps.invariant in
    let step = c.step-o.ensures in
    answered _ _ _ _ _ _ _ inv.uppers inv.left _ _ _ c.loop-steps-test.true step.fact step.records_after _ _
    (sym c.runs.ensures ∙ c.if-not-runs.true) (sym c.moves.ensures ∙ c.if-moves.true) refl c.run_reply.ensures

pub returns-then-steps-eq0 : goal.returns-then-steps-eq0
returns-then-steps-eq0 c =
    let inv = c.loop-steps.invariant in
    let step = c.step-o.ensures in
    refused _ _ _ _ _ _ _ inv.uppers inv.left _ _ _ c.loop-steps-test.true step.fact step.records_after _
    (sym c.moves.ensures ∙ c.if-moves.false) c.if-steps-eq0.true c.run_reply-then-steps-eq0.ensures

pub returns-then-not-runs : goal.returns-then-not-runs
returns-then-not-runs c =
    let inv = c.loop-steps.invariant in
    let step = c.step-o.ensures in
    stopped _ _ _ _ _ _ _ inv.uppers inv.left _ _ _ c.loop-steps-test.true step.fact step.records_after _
    (sym c.moves.ensures ∙ c.if-moves.false) c.if-steps-eq0.false c.resting.ensures

pub loop-steps-preserved : goal.loop-steps-preserved
loop-steps-preserved c =
    let inv = c.loop-steps.invariant in
    let step = c.step-o.ensures in
    let runs = sym c.runs.ensures ∙ c.if-not-runs.false in
    record {
      uppers = step.records_after ∙ rw (runs_on _ runs).1 inv.uppers;
      left = to_go_more _ _ _ _ _ c.loop-steps-test.true step.fact runs ∙ inv.left;
    }

pub returns : goal.returns
returns c =
    let l = c.loop-steps in
    let past : c.args.most ≤ l.steps = omega arith in
    let all : l.steps ≡ c.args.most = omega arith in
    cut _ _ _ _ _ _ _ l.invariant.uppers l.invariant.left _ past (λ z. c.if-most-eq0.false (omega arith)) (c.resting-2.ensures ∙ rw all)
