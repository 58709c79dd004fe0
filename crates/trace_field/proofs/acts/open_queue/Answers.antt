-- The opening's parts with the records cleared are the opening; then its line.
use Rattle.std.proofs.Common.{◌≤◌, length, refl, sym, ◌∙◌, subst}
use Rattle.calls.{specs.Opening.OpenedParts, proofs.Openings.clear-fits}
use Rattle.layout.proofs.Rows.{length_records, all-zeroed}
use Rattle.lines.proofs.Puts.{put-fits}
use Rattle.trace_field.proofs.AfterActs.{open_page, opened_is}
use Rattle.trace_field.proofs.acts.open_queue.Goals as goal

pub returns : goal.returns
returns c =
    let n = length c.args.rows.now in
    let made = c.open_tables-parts in
    let fits : made.result.clear ≤ n = subst (λ (x : OpenedParts). x.clear ≤ n) (sym made.ensures) (clear-fits _ _ n _ _ _) in
    let e = c.clear.ensures in
    open_page _ _ _ _ _ _ _ _ _ _ _ _ _ (sym (length_records _)) made.ensures
    (e.rows_after ∙ all-zeroed _ _ _ _ fits) (e.rows_after_2 ∙ all-zeroed _ _ _ _ fits)
    (c.is_ok-opened.ensures.value ∙ opened_is made.result.outcome) refl
    (put-fits _ c.write_line-to.ensures.put c.requires)
