use Rattle.std.proofs.Common.{◌∙◌, sym, ap, List}
use Rattle.audit_model.specs.{declared.Finished.Finished, Audit.verdict, LentHistory.verdict_reply}
use Rattle.audit.proofs.Verdicts.{no-calls}
use Rattle.audit.proofs.zc_audit_words.Goals as goal

pub returns-then-words-lt7 : goal.returns-then-words-lt7
returns-then-words-lt7 c =
    c.from.ensures
    ∙ ap verdict_reply (c.of_none.ensures ∙ ap (λ (cs : List Finished). verdict cs c.args.order.now) (sym (no-calls c.args.words.now c.if-words-lt7.true)))
