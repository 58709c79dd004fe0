-- The row is there, or there is no such task.
use Rattle.std.proofs.Common.{rules, arith, ◌≡◌, ◌≤◌, sym, ap, ◌∙◌, [], length, get_or}
use lib.ListN.{get_or-eq_default}
use Rattle.layout.{specs.Rows.{call_of, record_of, records_of}, proofs.Rows.{length_records, record_read}}
use Rattle.schedule.proofs.row_at.Goals as goal

pub returns-in-Some : goal.returns-in-Some
returns-in-Some c =
    let is : c.in-Some.row.now ≡ get_or c.args.records.now c.args.task [] = search rules in
    ap record_of is ∙ record_read c.args.records.now c.args.task

pub returns-in-None : goal.returns-in-None
unfolding record_of call_of
returns-in-None c =
    let rows = c.args.records.now in
    let past : length rows ≤ c.args.task = search rules in
    sym (get_or-eq_default (records_of rows) _ (omega (arith, length_records rows)))
