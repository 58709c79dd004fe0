-- What is held of the text's numbers is enough for the verdict on all of them.
use Rattle.std.proofs.Common.{length, ap, ◌∙◌, Ok}
use Rattle.historyfile.specs.{Buffer.reading, Reading.whole}
use Rattle.judge.specs.Judging.{judged, told}
use Rattle.judge.proofs.Enough.{enough, judged_so, unread}
use Rattle.judge.proofs.judge_in.Goals as goal

pub returns-then-is_none-s : goal.returns-then-is_none-s
unfolding judged
returns-then-is_none-s c =
    let read = c.read-s in
    let a = c.args in
    ap Ok c.audit_words.ensures
    ∙ judged_so (reading read.result read.new.calls read.new.order) _ c.is_none.ensures c.if-is_none-s.true
    ∙ ap told read.ensures.order_after
    ∙ enough (length a.calls.now) (length a.order.now) c.requires.0 c.requires.1 (whole a.text.now)

pub returns : goal.returns
unfolding judged
returns c =
    let read = c.read-s in
    let a = c.args in
    unread (reading read.result read.new.calls read.new.order) _ c.is_none.ensures c.if-is_none-s.false
    ∙ ap told read.ensures.order_after
    ∙ enough (length a.calls.now) (length a.order.now) c.requires.0 c.requires.1 (whole a.text.now)
