-- The control that the row is.
use mathlib.Core.Path.{ap, ◌∙◌}
use borrow.Author.Rules.{rules}
use Rattle.model.specs.{declared.Control.Control, Tables.{Tables, tables_of}}
use Rattle.waiting.specs.Waiting.{read_out}
use Rattle.waiting.proofs.zc_waiting.Statement.{statement}
use Rattle.waiting.proofs.zc_waiting.Tie as tie

returns : tie.Need-returns
returns c next =
    let w = c.before.before.before.before in
    let r = w.before.before.before in
    let s = r.before.before.before.before in
    let a = s.before.before.before.before.args in
    w.read_out.ensures next
    ∙ ap (λ (q : Tables). read_out q a.slots.now a.copies.now)
    (ap (λ (d : Control). tables_of d a.lefts.now a.rights.now a.labels.now a.marks.now next) r.control_of-c.ensures)

pub zc_waiting_spec : {M : Type 1} → statement M
zc_waiting_spec = tie.close (tie.spec (λ _ _. tt) (λ _ _. tt) (λ c. search rules) (λ c. search rules) returns)
