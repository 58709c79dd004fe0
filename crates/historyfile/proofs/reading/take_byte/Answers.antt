-- The word goes on, or it ends and its number is kept.
use Rattle.std.proofs.Common.{◌+◌, length, sym, ap, ◌∙◌}
use Rattle.historyfile.specs.{declared.reading.State.State, Buffer.{ahead}}
use Rattle.historyfile.proofs.Ahead.{word-ends, word-goes_on}
use Rattle.historyfile.proofs.reading.take_byte.Goals as goal

pub returns-then-of_word-clause-order_after : goal.returns-then-of_word-clause-order_after
returns-then-of_word-clause-order_after c =
    let a = c.args in
    word-goes_on (length a.calls.now) (length a.order.now) a.text.now a.i a.s a.calls.now a.order.now c.requires.1 c.requires.0 (sym c.if-of_word.ensures)

pub returns-clause-order_after : goal.returns-clause-order_after
returns-clause-order_after c =
    let a = c.args in
    let m = length a.calls.now in
    let n = length a.order.now in
    let word = c.take_word-t in
    ap (λ (x : State). ahead m n a.text.now (a.i + 1) x word.new.calls word.new.order) c.separate.ensures
    ∙ word-ends m n a.text.now a.i a.s a.calls.now a.order.now c.requires.1 c.requires.0 word.result word.new.calls word.new.order word.ensures.within.2
    (sym c.if-of_word.ensures) word.ensures.order_after
