-- What is left of the text leads from here to where the whole text leads.
use Rattle.std.proofs.Common.{◌≡◌, ℕ, ◌+◌, ◌-◌, ◌≤◌, length, take, drop, sym, ap, ◌∙◌, subst, arith}
use Rattle.historyfile.specs.{declared.reading.State.State, Buffer.{Within, Written, ahead}}
use Rattle.historyfile.proofs.{Ahead.{same-within, text_ends}, Rest.{then_written, unwritten}}
use Rattle.historyfile.proofs.reading.read.Goals as goal

pub loop-i-init : goal.loop-i-init
unfolding ahead
loop-i-init c =
    let a = c.args in
    let first = c.begin-s.ensures in (
      subst (λ (s : State). s.from ≤ 0) (sym first) (omega arith),
      subst (λ (s : State). Within s (length a.calls.now) (length a.order.now)) (sym first) (record { calls = omega arith; order = omega arith }),
      ap (λ (s : State). ahead (length a.calls.now) (length a.order.now) a.text.now 0 s a.calls.now a.order.now) first,
      subst (λ (s : State). Written 0 s.calls a.calls.now a.calls.now) (sym first) (unwritten 0 a.calls.now),
      subst (λ (s : State). Written 0 s.order a.order.now a.order.now) (sym first) (unwritten 0 a.order.now),
    )

pub loop-i-preserved : goal.loop-i-preserved
loop-i-preserved c =
    let call = c.take_byte-s in
    let at = c.loop-i in
    let a = c.args in
    let inv = at.invariant in
    let m : length call.new.calls ≡ length at.calls = call.auto.calls in
    let n : length call.new.order ≡ length at.order = call.auto.order in (
      call.ensures.from_bound.0,
      same-within call.result _ _ _ _ m n call.ensures.from_bound.1,
      (λ j. ahead (m j) (n j) a.text.now (at.i + 1) call.result call.new.calls call.new.order) ∙ call.ensures.order_after ∙ inv.2,
      then_written 0 at.s.calls call.result.calls a.calls.now at.calls call.new.calls inv.3 call.ensures.both_written.calls,
      then_written 0 at.s.order call.result.order a.order.now at.order call.new.order inv.4 call.ensures.both_written.order,
    )

pub returns-clause-order_after : goal.returns-clause-order_after
returns-clause-order_after c =
    let word = c.take_word-t in
    let at = c.loop-i in
    let a = c.args in
    let h : length a.text.now ≤ at.i = omega arith in
    let all : at.i ≡ length a.text.now = omega arith in
    text_ends (length at.calls) (length at.order) a.text.now at.i at.s at.calls at.order h word.result word.new.calls word.new.order _ _
    c.end_line.ensures (ap (λ (i : ℕ). take (i - at.s.from) (drop at.s.from a.text.now)) (sym all)) word.ensures.order_after
    ∙ at.invariant.2

pub returns-clause-written : goal.returns-clause-written
returns-clause-written c =
    let word = c.take_word-t in
    let at = c.loop-i in
    let a = c.args in (
      then_written 0 at.s.calls word.result.calls a.calls.now at.calls word.new.calls at.invariant.3 word.ensures.both_written.calls,
      then_written 0 at.s.order word.result.order a.order.now at.order word.new.order at.invariant.4 word.ensures.both_written.order,
    )
