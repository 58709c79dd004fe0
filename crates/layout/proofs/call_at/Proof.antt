-- The row is there, or there is no such task.
use mathlib.Core.Path.{ap, sym, ◌∙◌}
use native.Mathlib.Omega.{arith}
use lib.ListN.{get_or-eq_default}
use Rattle.model.specs.declared.Record.{Record}
use Rattle.layout.specs.Rows.{call_of, record_of, records_of}
use Rattle.layout.proofs.{Rows.{length_records, record_read}, call_at.Statement.statement}
use borrow.Author.Rules.{rules}
use Rattle.layout.proofs.call_at.Tie as tie

returns : tie.Need-returns-then-task-rows
unfolding record_of
returns c = c.call_of.ensures ∙ ap (λ (r : Record). r.call) (record_read _ _)

returns-2 : tie.Need-returns-else-task-rows
unfolding record_of call_of
returns-2 c =
    let rows = c.before.before.args.rows.now in
    let past = c.before.if-task-rows.false in
    c.call_of-else-task-rows.ensures ∙ ap (λ (r : Record). r.call) (sym (get_or-eq_default (records_of rows) _ (omega (arith, length_records rows))))

pub call_at_spec : {M : Type 1} → statement M
call_at_spec =
    tie.close
    (tie.spec
    (λ c. search rules)
    (λ c. search rules)
    (λ c κs. search rules)
    (λ c κs. search rules)
    returns
    returns-2)
