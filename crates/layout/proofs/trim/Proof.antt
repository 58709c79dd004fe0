-- The row of the same record has no upper half; past the rows there is none.
use mathlib.Core.{Path.{refl, sym, ap, ◌∙◌}, List.[]}
use native.Mathlib.Omega.{arith}
use lib.{ListN.{get_or, set}, Seq.{set_out, set-get_or}}
use Rattle.model.specs.{Tables.unused, declared.Call.Call}
use Rattle.layout.specs.Rows.{record_of, records_of, uppers_of}
use Rattle.layout.proofs.Rows.{length_uppers, record_put, record_read, upper-put, counting}
use Rattle.layout.proofs.trim.Statement.{statement}
use borrow.Author.Rules.{rules}
use Rattle.layout.proofs.trim.Tie as tie

returns : tie.Need-returns-then-task-rows
unfolding record_of
returns c =
    let call = c.before in
    let a = call.before.before.before.args in
    let row = c.record_row-row.ensures in (
      record_put _ _ _
          ∙ ap (set (records_of a.rows.now) a.task)
          (row.0 ∙ ap (λ (r : Call). counting r (record_of (get_or a.rows.now a.task [])).retries) call.call_of-r.ensures ∙ record_read
          a.rows.now a.task)
          ∙ set-get_or (records_of a.rows.now) a.task unused,
      upper-put _ _ _ ∙ ap (set (uppers_of a.rows.now) a.task) row.1,
    )

returns-2 : tie.Need-returns-else-task-rows
returns-2 c =
    let rows = c.before.args.rows.now in
    let past = c.if-task-rows.false in
    (refl, sym (set_out (uppers_of rows) _ _ (omega (arith, length_uppers rows))))

pub trim_spec : {M : Type 1} → statement M
trim_spec =
    tie.close
    (tie.spec
    (λ c. search rules)
    (λ c. search rules)
    (λ c κs. search rules)
    (λ c. search rules)
    (λ c κs. search rules)
    (λ c. search rules)
    (λ c. search rules)
    (λ c. search rules)
    returns
    returns-2)
