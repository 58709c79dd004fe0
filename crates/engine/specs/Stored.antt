-- What is stored of control and record after a step: no more than it may have changed. At places 1 to 10 that is Anchor, and of a call all but
-- kind, side, own slot and label; beyond 10 the head, own slot and label besides.
use Rattle.std.specs.Prelude.{cond}
use Rattle.model.specs.{declared.{Control.Control, Call.Call, Record.Record, Transition.Transition}, Route.counted}
use Rattle.model.specs.{Tables.{idle, counting, of_kind, with_call, with_own, with_words}, Ends.{ends_call, is_moved}}

-- Control takes the Anchor of another, a call all that a step at 1 to 10 may have changed.
abbrev pub anchor_moved : Control → Control → Control
anchor_moved old c = with_words old c.anchor old.head

abbrev pub call_moved : Call → Call → Call
call_moved old r = with_own (of_kind r old.kind old.side) old.own old.label

-- Control takes the head of another, a call its own slot and label.
abbrev pub head_moved : Control → Control → Control
head_moved old c = with_words old old.anchor c.head

abbrev pub own_moved : Call → Call → Call
own_moved old r = with_own old r.own r.label

-- At 1 to 10. Nothing where the step was refused; a call all zero where it ended. A failed change is counted.
unfoldable pub anchor_after : Control → Transition → Control
anchor_after c m = cond (is_moved m.outcome) (anchor_moved c m.control) c

unfoldable pub call_after : Record → Transition → Record
call_after r m =
    let call : Call = cond (ends_call m.outcome) idle (call_moved r.call m.task) in
    cond (is_moved m.outcome) (counting call (counted r.retries m.failed)) r

-- Beyond 10, besides and first. Of a call that ends, which is then all zero, nothing.
unfoldable pub head_after : Control → Transition → Control
head_after c m = cond (is_moved m.outcome) (head_moved c m.control) c

unfoldable pub own_after : Record → Transition → Record
own_after r m =
    let gone : Record = cond (ends_call m.outcome) r (with_call r (own_moved r.call m.task)) in
    cond (is_moved m.outcome) gone r
