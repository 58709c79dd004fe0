-- What is stored after a step is what the step leaves, since it changes nothing else (`Unchanged`).
use Rattle.std.specs.Prelude.{Err, Ok}
use mathlib.Core.{Path.{◌≡◌, refl, sym, ap, ap₂, subst, ◌∙◌}, Bool.{true, false}, List.List}
use Prim.Native.Nat.{ℕ, ◌≤◌}
use Rattle.model.specs.Outcomes.{Outcome}
use Rattle.model.specs.declared.{Control.Control, Call.Call, Record.Record, Transition.Transition}
use Rattle.model.specs.{Tables.{Tables, tables_of, counting, idle, of_kind, with_call, with_own, with_words}, Route.counted}
use Rattle.model.{specs.{Calls.Acted, Ends.{ends_call, is_moved}}, proofs.Tests.Truth.{split, not_both}}
use Rattle.engine.specs.{StepAdmitted.step_admitted, Stored.own_after}
use Rattle.engine.specs.Stored.{anchor_moved, call_moved, head_moved, own_moved, anchor_after, call_after, head_after}
use Rattle.engine.proofs.{ByPlace.Keeps, Unchanged.{Unchanged, admitted_unchanged}}

-- A refused step ends no call.
pub refused-goes : (o : Outcome) → is_moved o ≡ false → ends_call o ≡ false
refused-goes (Err n) h = refl
refused-goes (Ok a) h = absurd (not_both (sym h) refl)

-- By the outcome: what is stored.
module _ (c : Control) (r : Record) (m : Transition) where
  -- The record with another call, and its failed change counted.
  abbrev pub gone_on : Call → Record
  gone_on t = counting t (counted r.retries m.failed)

  pub deque_end : is_moved m.outcome ≡ true → ends_call m.outcome ≡ true
      → (anchor_moved c m.control ≡ anchor_after c m) × (gone_on idle ≡ call_after r m)
  unfolding anchor_after call_after
  deque_end a b = (rw a, rw (a, b))

  pub deque_going : is_moved m.outcome ≡ true → ends_call m.outcome ≡ false
      → (anchor_moved c m.control ≡ anchor_after c m) × (gone_on (call_moved r.call m.task) ≡ call_after r m)
  unfolding anchor_after call_after
  deque_going a b = (rw a, rw (a, b))

  pub deque-nothing : is_moved m.outcome ≡ false → (c ≡ anchor_after c m) × (r ≡ call_after r m)
  unfolding anchor_after call_after
  deque-nothing a = (rw a, rw a)

  -- Beyond 10, besides.
  pub rest_end : is_moved m.outcome ≡ true → ends_call m.outcome ≡ true
      → (head_moved c m.control ≡ head_after c m) × (r ≡ own_after r m)
  unfolding head_after own_after
  rest_end a b = (rw a, rw (a, b))

  pub rest_going : is_moved m.outcome ≡ true → ends_call m.outcome ≡ false
      → (head_moved c m.control ≡ head_after c m) × (with_call r (own_moved r.call m.task) ≡ own_after r m)
  unfolding head_after own_after
  rest_going a b = (rw a, rw (a, b))

  pub rest-nothing : is_moved m.outcome ≡ false → (c ≡ head_after c m) × (r ≡ own_after r m)
  unfolding head_after own_after
  rest-nothing a = (rw a, rw a)

-- Control and call with all that a step may change of another.
abbrev control_moved : Control → Control → Control
control_moved old c = with_words old c.anchor c.head

abbrev record_moved : Call → Call → Call
record_moved old r = of_kind r old.kind old.side

-- A control or record whose kept fields are its own.
whole-control : (c old : Control) → c.tasks ≡ old.tasks → c.slots ≡ old.slots → c.pooled ≡ old.pooled → control_moved old c ≡ c
whole-control c old e1 e2 e3 = rw (← e1, ← e2, ← e3)

whole_record : (named : Type 0) (r old : Call) → Keeps named old r → record_moved old r ≡ r
whole_record named r old k = rw (← k.kind, ← k.side)

-- At places 1 to 10 head, own slot and label are too.
same_head : (c old : Control) → c.head ≡ old.head → anchor_moved old c ≡ control_moved old c
same_head c old e = ap (with_words old c.anchor) (sym e)

same-call : (r old : Call) → r.own ≡ old.own → r.label ≡ old.label → call_moved old r ≡ record_moved old r
same-call r old e1 e2 = ap₂ (with_own (record_moved old r)) (sym e1) (sym e2)

module _ (q : Tables) (r : Record) (m : Transition) (lefts rights labels marks next : List ℕ) where
  abbrev pub leaves : Control → Record → Acted
  leaves c t = record { tables = tables_of c lefts rights labels marks next; task = t; outcome = m.outcome }

  abbrev pub gone : Call → Record
  gone = gone_on q.control r m

  module _ (a : Acted) (keeps : Unchanged q r a) (e : leaves m.control (gone m.task) ≡ a) where
    kept : Unchanged q r (leaves m.control (gone m.task))
    kept = subst (Unchanged q r) (sym e) keeps

    same-control : control_moved q.control m.control ≡ m.control
    same-control = whole-control m.control q.control kept.tasks kept.slots kept.pooled

    over : ends_call m.outcome ≡ true → leaves (control_moved q.control m.control) (gone idle) ≡ a
    over h = ap (λ (c : Control). leaves c (gone idle)) same-control ∙ ap (λ (t : Call). leaves m.control (gone t)) (sym (kept.zero h)) ∙ e

    going : ends_call m.outcome ≡ false → leaves (control_moved q.control m.control) (gone (record_moved r.call m.task)) ≡ a
    going h =
        ap (λ (c : Control). leaves c (gone (record_moved r.call m.task))) same-control
        ∙ ap (λ (t : Call). leaves m.control (gone t)) (whole_record _ m.task r.call (kept.keeps h)) ∙ e

    unmoved : is_moved m.outcome ≡ false → leaves q.control r ≡ a
    unmoved h =
        let k = kept.still h in
        ap (λ (c : Control). leaves c r) (sym (ap (λ (t : Tables). t.control) k.0))
        ∙ ap (leaves m.control) (sym k.1) ∙ e

    kept-stored : leaves (anchor_after (head_after q.control m) m) (call_after (own_after r m) m) ≡ a
    unfolding anchor_after call_after head_after own_after
    kept-stored =
        split (is_moved m.outcome)
        (λ a. split (ends_call m.outcome) (λ b. rw (a, b) (over b)) (λ b. rw (a, b) (going b)))
        (λ a. rw a (unmoved a))

    kept-deque : r.call.place ≤ 10 → leaves (anchor_after q.control m) (call_after r m) ≡ a
    unfolding anchor_after call_after
    kept-deque in_deque =
        let head = same_head m.control q.control (kept.head in_deque) in
        split (is_moved m.outcome)
        (λ a. split (ends_call m.outcome)
        (λ b. rw (a, b, head) (over b))
        (λ b. let k = kept.keeps b in rw (a, b, head, same-call m.task r.call (k.own in_deque) (k.label in_deque)) (going b)))
        (λ a. rw a (unmoved a))

  pub moved-stored : leaves m.control (gone m.task) ≡ step_admitted q r
      → leaves (anchor_after (head_after q.control m) m) (call_after (own_after r m) m) ≡ step_admitted q r
  moved-stored e = kept-stored (step_admitted q r) (admitted_unchanged q r) e

  pub deque-stored : leaves m.control (gone m.task) ≡ step_admitted q r → r.call.place ≤ 10
      → leaves (anchor_after q.control m) (call_after r m) ≡ step_admitted q r
  deque-stored e = kept-deque (step_admitted q r) (admitted_unchanged q r) e
