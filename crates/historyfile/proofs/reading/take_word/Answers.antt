-- No word, or what it says.
use Rattle.std.proofs.Common.{length, ap, ◌∙◌}
use Rattle.historyfile.specs.{declared.reading.Turn.Turn, Reading.kept, Buffer.{held, reading}}
use Rattle.historyfile.proofs.Held.{word_none, word_some}
use Rattle.historyfile.proofs.reading.take_word.Goals as goal

pub returns-then-is_empty-is_some-clause-order_after : goal.returns-then-is_empty-is_some-clause-order_after
returns-then-is_empty-is_some-clause-order_after c =
    let a = c.args in
    word_none (length a.calls.now) (length a.order.now) a.s a.calls.now a.order.now c.requires a.word.now
    (rw (← c.is_empty.ensures, ← c.is_some.ensures) c.if-is_empty-is_some.true)

pub returns-clause-order_after : goal.returns-clause-order_after
returns-clause-order_after c =
    let a = c.args in
    let m = length a.calls.now in
    let n = length a.order.now in
    word_some m n a.s a.calls.now a.order.now c.requires a.word.now _ (rw (← c.is_empty.ensures, ← c.is_some.ensures) c.if-is_empty-is_some.false)
    (c.keep_turn.ensures.order_after ∙ ap (λ (t : Turn). held m n (kept t (reading a.s a.calls.now a.order.now))) c.behind_word-t.ensures)
