-- Refused before the walk, by the walk, or told: what each call ensures.
use mathlib.Core.Path.{refl, sym, ◌∙◌}
use Rattle.calls.proofs.Tells.{found, refused, astray, tells}
use Rattle.calls.proofs.report.told.Goals as goal

pub returns-then-why-ne0 : goal.returns-then-why-ne0
returns-then-why-ne0 c = refused _ _ _ _ (found _ _ c.args.busy _ _ _ (c.of-t.ensures c.args.c) refl c.table_refusal-why.ensures) c.if-why-ne0.true

pub returns-in-Err : goal.returns-in-Err
returns-in-Err c =
    astray _ _ _ _ (found _ _ c.args.busy _ _ _ (c.of-t.ensures c.args.c) refl c.table_refusal-why.ensures) c.if-why-ne0.false _
    (sym c.in-Err.is ∙ c.waiting.ensures c.args.labels.now c.args.marks.now c.args.next.now)

pub returns-in-Ok : goal.returns-in-Ok
returns-in-Ok c =
    rw (c.unpack-anchor.ensures, c.taken-taken.ensures)
    (tells _ _ _ _ (found _ _ c.args.busy _ _ _ (c.of-t.ensures c.args.c) refl c.table_refusal-why.ensures) c.if-why-ne0.false c.in-Ok.waiting
    (sym c.in-Ok.is ∙ c.waiting.ensures c.args.labels.now c.args.marks.now c.args.next.now))
