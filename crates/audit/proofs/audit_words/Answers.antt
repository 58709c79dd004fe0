-- 40, an order that is no rearrangement, or the replay.
use Rattle.std.proofs.Common.{arith, ◌∙◌, sym, ◌/◌, length}
use Rattle.audit_model.specs.{LentHistory.calls_in}
use Rattle.audit.proofs.Verdicts.{at_most_64, out_of_order, rearranged, refused, replayed_so}
use Rattle.audit.proofs.WordsRead.{count-is}
use Rattle.audit.proofs.audit_words.Goals as goal

pub returns-then-not-accepted : goal.returns-then-not-accepted
returns-then-not-accepted c = refused (calls_in c.args.words.now) c.args.order.now (sym c.accepted.ensures ∙ c.if-not-accepted.true)

pub is_rearranged-requires : goal.is_rearranged-requires
is_rearranged-requires c =
    let ws = c.args.words.now in
    at_most_64 (calls_in ws) (length ws / 7) (count-is ws) (sym c.accepted.ensures ∙ c.if-not-accepted.false)

pub returns-then-not-is_rearranged : goal.returns-then-not-is_rearranged
returns-then-not-is_rearranged c =
    let ws = c.args.words.now in
    out_of_order (calls_in ws) c.args.order.now (length ws / 7) (count-is ws) (sym c.accepted.ensures ∙ c.if-not-accepted.false)
    (sym c.is_rearranged.ensures ∙ c.if-not-is_rearranged.true)

pub first_misplaced-misplaced-requires : goal.first_misplaced-misplaced-requires
first_misplaced-misplaced-requires c =
    (rearranged c.args.order.now (length c.args.words.now / 7) (sym c.is_rearranged.ensures ∙ c.if-not-is_rearranged.false)).1

pub served-requires : goal.served-requires
served-requires c =
    let ws = c.args.words.now in
    let ks = rearranged c.args.order.now (length ws / 7) (sym c.is_rearranged.ensures ∙ c.if-not-is_rearranged.false) in
    let few = at_most_64 (calls_in ws) (length ws / 7) (count-is ws) (sym c.accepted.ensures ∙ c.if-not-accepted.false) in
    (few, omega arith, ks.1, c.first_misplaced-misplaced.ensures)

pub returns : goal.returns
returns c =
    let ws = c.args.words.now in
    c.served.ensures
    ∙ replayed_so (calls_in ws) c.args.order.now (length ws / 7) (count-is ws) (sym c.accepted.ensures ∙ c.if-not-accepted.false)
    (sym c.is_rearranged.ensures ∙ c.if-not-is_rearranged.false)
