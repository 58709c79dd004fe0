-- Turned away by its number alone, or moved on.
use mathlib.Core.Path.{sym, ◌∙◌}
use Rattle.model.specs.{Refusals.alone, Calls.step_lent, Tables.tables_of}
use Rattle.sound.proofs.Measured.{found_by}
use Rattle.engine.proofs.InParts.{turned_away, admitted}
use Rattle.deque.proofs.step_alone.Goals as goal

pub returns-then-why-ne0 : goal.returns-then-why-ne0
unfolding step_lent
returns-then-why-ne0 c =
    let q = tables_of c.args.c c.args.lefts.now c.args.rights.now c.args.labels.now c.args.marks.now c.args.next.now in
    let e = found_by c.args.c alone q _ _ _ (c.of-lent.ensures c.args.c) c.admit_alone-why.ensures in
    rw c.refuse-outcome.ensures (turned_away q alone c.args.t _ e c.if-why-ne0.true)

pub returns : goal.returns
unfolding step_lent
returns c =
    let q = tables_of c.args.c c.args.lefts.now c.args.rights.now c.args.labels.now c.args.marks.now c.args.next.now in
    let e = found_by c.args.c alone q _ _ _ (c.of-lent.ensures c.args.c) c.admit_alone-why.ensures in
    c.step_by_value.ensures ∙ admitted q alone c.args.t (sym e ∙ c.if-why-ne0.false)
