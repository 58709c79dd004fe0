-- The step in a row of its own.
use mathlib.Core.{Path.{◌≡◌, ap, ◌∙◌}, List.List}
use Prim.Native.Nat.{ℕ}
use borrow.Author.Rules.{rules}
use Rattle.model.specs.Outcomes.{Outcome}
use Rattle.model.specs.{declared.{Control.Control, Call.Call, Record.Record}, Tables.tables_of}
use Rattle.model.specs.Calls.{Acted}
use Rattle.engine.specs.StepAdmitted.{step_admitted}
use Rattle.layout.specs.Rows.{control_of, call_of, record_of}
use Rattle.rows.specs.Moved.{RowMoved}
use Rattle.rows.proofs.value.step_by_value.Statement.{statement}
use Rattle.rows.proofs.value.step_by_value.Tie as tie

-- Control and record made rows, the rows moved on, and control and record made of them again.
in_rows : (c d : Control) (t : Record) (call : Call) (retries : ℕ) (ws row ws' row' ls rs bs ms ns ls' rs' bs' ms' ns' : List ℕ) (o : Outcome)
    → control_of ws ≡ c → record_of row ≡ t
    → RowMoved (tables_of (control_of ws) ls rs bs ms ns) row (tables_of (control_of ws') ls' rs' bs' ms' ns') row' o
    → d ≡ control_of ws' → call ≡ call_of row' → retries ≡ (record_of row').retries
    → ◌≡◌ {A = Acted} (record { tables = tables_of d ls' rs' bs' ms' ns'; task = record { call = call; retries = retries }; outcome = o })
    (step_admitted (tables_of c ls rs bs ms ns) t)
unfolding record_of
in_rows c d t call retries ws row ws' row' ls rs bs ms ns ls' rs' bs' ms' ns' o ec et moved ed ek er =
    rw (ed, ek, er)
    (moved.0
    ∙ ap (λ (e : Control). step_admitted (tables_of e ls rs bs ms ns) (record_of row)) ec
    ∙ ap (step_admitted (tables_of c ls rs bs ms ns)) et)

returns : tie.Need-returns
returns c =
    let call = c.before in
    let control = call.before in
    let marks = control.before.before.before.before in
    let rights = marks.before.before.before.before in
    let moved = rights.before.before.before in
    let lent = moved.before.before.before.before in
    let made = lent.before.before.before.before in
    in_rows _ _ _ _ _ _ _ _ _ _ _ _ _ _ _ _ _ _ _ _ made.before.before.control_row-words.ensures made.record_row-row.ensures.0
    moved.move_row-outcome.ensures control.control_of-control.ensures call.call_of-call.ensures c.retries_of-retries.ensures

pub step_by_value_spec : {M : Type 1} → statement M
step_by_value_spec =
    tie.close
    (tie.spec
    (λ c κs. search rules)
    (λ c κs. search rules)
    (λ c κs. search rules)
    (λ c κs. search rules)
    (λ c κs. search rules)
    (λ c κs. search rules)
    (λ c. search rules)
    (λ c. search rules)
    (λ c. search rules)
    (λ c. search rules)
    (λ c. search rules)
    returns)
