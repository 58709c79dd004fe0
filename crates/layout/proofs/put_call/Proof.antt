-- A record is stored only where there is such a task.
use mathlib.Core.Path.{sym, ap, ◌∙◌}
use native.Mathlib.Omega.{arith}
use lib.{ListN.set, Seq.set_out}
use Rattle.model.specs.{declared.Record.Record, Tables.with_call}
use Rattle.layout.specs.Rows.{record_of, records_of, uppers_of}
use Rattle.layout.proofs.Rows.{length_records, length_uppers, record_put, record_read, upper-put}
use Rattle.layout.proofs.put_call.Statement.{statement}
use borrow.Author.Rules.{rules}
use Rattle.layout.proofs.put_call.Tie as tie

returns : tie.Need-returns-then-task-rows
unfolding record_of
returns c =
    let a = c.before.before.before.args in
    let row = c.record_row-row.ensures in
    let same = ap (λ (r : Record). with_call r a.r) (record_read a.rows.now a.task) in (
      record_put _ _ _ ∙ ap (set (records_of a.rows.now) a.task) (row.0 ∙ same),
      upper-put _ _ _ ∙ ap (set (uppers_of a.rows.now) a.task) row.1,
    )

returns-2 : tie.Need-returns-else-task-rows
returns-2 c =
    let rows = c.before.args.rows.now in
    let past = c.if-task-rows.false in (
      sym (set_out (records_of rows) _ _ (omega (arith, length_records rows))),
      sym (set_out (uppers_of rows) _ _ (omega (arith, length_uppers rows))),
    )

pub put_call_spec : {M : Type 1} → statement M
put_call_spec =
    tie.close
    (tie.spec
    (λ c. search rules)
    (λ c. search rules)
    (λ c. search rules)
    (λ c κs. search rules)
    (λ c. search rules)
    (λ c. search rules)
    (λ c. search rules)
    returns
    returns-2)
