-- Which places plan the two touches that are several instructions, and what they come to.
use mathlib.Core.{Path.{◌≡◌, refl, ap, sym, subst, ◌∙◌}, Bool.{Bool, true, false, ◌&&◌, ◌||◌, not}}
use Prim.Native.Nat.{ℕ, ◌+◌, ◌<◌, ◌≤◌}
use native.Mathlib.Omega.{arith}
use lib.Dec.{eqb, ltb}
use borrow.Author.Tests.{eqb-true, eqb-false, eq-eqb, ltb-true}
use Rattle.word.specs.{Anchor.{anchor_of, pack_anchor}, Link.link_of}
use Rattle.model.specs.{declared.{Control.Control, Call.Call, Record.Record}, Tables.{at_place, counting, with_own}}
use Rattle.model.specs.{Kinds.{is_push, drawing, giving}, Sound.from1, Places.{set_next, set_head}}
use Rattle.model.specs.Places.{row, link_side, new4, move, Touch, nothing, set_anchor, set_link, clear_mark, take_slot, at14}
use Rattle.model.specs.Route.{route, onward, goes, counted, push_route}
use Rattle.model.specs.Refusals.{needs_row, meets_link, leaves_sound, has_room, step_sound, record_refusal}
use Rattle.model.proofs.{Tests.Truth.{either, by_test, not_both}, Bridge.ByMove.by_move}
use Rattle.threads_model.specs.declared.PlannedTouch.{PlannedTouch}
use Rattle.threads_model.specs.Split.{refuses, loads_anchor, loads_link, loads_head, loads_next, loads, asks, plan_for, plan}
use Rattle.threads_model.specs.Split.{planned, knowing, touch_as_read, Settled, gone, settled_at, meets_anchor, settle}

-- Where a mark is cleared and where a slot is drawn.
abbrev At : Call → Touch → Type 0
At r nothing = Unit {0}
At r (set_anchor w) = (anchor_of r.seen).tag < 4294967295 → (anchor_of r.seen).tag ≤ (anchor_of w).tag
At r (set_link side x w) = Unit {0}
At r (clear_mark x) = (r.place ≡ 11) × (x ≡ row r)
At r (take_slot w x l) = (r.place ≡ 14) × (x ≡ row r) × (l ≡ r.label)
At r (set_next x v) = Unit {0}
At r (set_head w) = Unit {0}

-- A tag raised, and packed.
rise : (tag status left right : ℕ) → tag < 4294967295 → tag ≤ (anchor_of (pack_anchor (record { tag = tag + 1; status = status; left = left; right = right }))).tag
rise tag status left right h = omega arith

moves : (c : Control) (r : Call) (w : ℕ) → At r (move c r w).touch
unfolding new4
moves c r w = by_move c w (λ t _. At r t) r (record {
  same = tt;
  read = tt;
  found = λ _. tt;
  met = λ _. tt;
  two = rise (anchor_of r.seen).tag _ _ _;
  four_push = new;
  four_pop = new;
  ten = rise (anchor_of r.seen).tag 0 (anchor_of r.seen).left (anchor_of r.seen).right;
  three = tt;
  nine = tt;
  eleven = λ e. (e, refl);
  keeps = λ e. (e, refl);
  head = λ _. tt;
  next = λ _. tt;
  draws = λ e. (e, refl, refl);
  links = λ _. tt;
  gives = λ _. tt;
})
  where
    new : (anchor_of r.seen).tag < 4294967295 → (anchor_of r.seen).tag ≤ (anchor_of (new4 r)).tag
    new = either (λ (w : ℕ). (anchor_of r.seen).tag < 4294967295 → (anchor_of r.seen).tag ≤ (anchor_of w).tag) (is_push r)
        (rise (anchor_of r.seen).tag _ _ _) (rise (anchor_of r.seen).tag _ _ _)

-- What a plan of act 6 or 9 says.
pub record Six (r : Call) (p : PlannedTouch) : Type 0 where
  pub place : r.place ≡ 11
  pub slot : p.slot ≡ row r

pub record Nine (r : Call) (p : PlannedTouch) : Type 0 where
  pub place : r.place ≡ 14
  pub slot : p.slot ≡ row r
  pub label : p.label ≡ r.label
  pub expected : p.expected ≡ r.link
  pub room : ltb (link_of r.link).tag 4294967295 ≡ true

-- A plan of act 2 lowers no tag.
abbrev pub Two : PlannedTouch → Type 0
Two p = (anchor_of p.expected).tag ≤ (anchor_of p.word).tag

pub record Says (r : Call) (p : PlannedTouch) : Type 0 where
  pub two : p.act ≡ 2 → Two p
  pub six : p.act ≡ 6 → Six r p
  pub nine : p.act ≡ 9 → Nine r p

module _ (r : Call) where
  -- Any other act.
  other : (p : PlannedTouch) → eqb p.act 2 ≡ false → eqb p.act 6 ≡ false → eqb p.act 9 ≡ false → Says r p
  other p z a b = record { two = λ e. absurd (eqb-false _ _ z e); six = λ e. absurd (eqb-false _ _ a e); nine = λ e. absurd (eqb-false _ _ b e) }

  loading : Says r (loads r)
  unfolding loads
  loading =
      either (Says r) (meets_link r || eqb r.place 9) (other (loads_link (link_side r) (row r)) refl refl refl)
      (either (Says r) (eqb r.place 13) (other (loads_next (row r)) refl refl refl)
      (either (Says r) (drawing r || giving r) (other loads_head refl refl refl) (other loads_anchor refl refl refl)))

  asking : (t : Touch) → At r t → has_room r t ≡ true → Says r (asks r t)
  asking nothing a h = loading
  asking (set_anchor w) a h = record {
    two = λ e. a (ltb-true _ _ h);
    six = λ e. absurd (eqb-false 2 6 refl e);
    nine = λ e. absurd (eqb-false 2 9 refl e);
  }
  asking (set_link side x w) a h = either (Says r) (eqb r.place 3) (other _ refl refl refl) (other _ refl refl refl)
  asking (clear_mark x) a h =
      record { two = λ e. absurd (eqb-false 6 2 refl e); six = λ e. record { place = a.0; slot = a.1 }; nine = λ e. absurd (eqb-false 6 9 refl e) }
  asking (take_slot w x l) a h = record {
    two = λ e. absurd (eqb-false 9 2 refl e);
    six = λ e. absurd (eqb-false 9 6 refl e);
    nine = λ e. record { place = a.0; slot = a.1; label = a.2; expected = refl; room = h };
  }
  asking (set_next x v) a h = other _ refl refl refl
  asking (set_head w) a h = other _ refl refl refl

  for : (slots : ℕ) (t : Touch) → At r t → Says r (plan_for slots r t)
  for slots t a =
      either (Says r) (needs_row r && not (from1 slots (row r))) (other (refuses 34) refl refl refl)
      (by_test (Says r) (leaves_sound slots t && has_room r t) (λ e. asking t a (second (leaves_sound slots t) (has_room r t) e)) (λ e. loading))
    where
      second : (a b : Bool) → a && b ≡ true → b ≡ true
      second true b e = e
      second false b e = absurd (not_both e refl)

module _ (pooled slots : ℕ) where
  pub says : (r : Call) → Says r (plan pooled slots r)
  unfolding plan planned
  says r =
      either (Says r) (eqb (record_refusal (eqb pooled 1) slots r) 0)
      (for r slots (touch_as_read pooled slots r) (moves (knowing pooled slots r.seen r.link) r r.link))
      (other r (refuses (record_refusal (eqb pooled 1) slots r)) refl refl refl)

  -- A plan that is no refusal tells that the record is sound.
  pub accepted : (r : Call) → eqb (plan pooled slots r).act 0 ≡ false → record_refusal (eqb pooled 1) slots r ≡ 0
  unfolding plan
  accepted r = by_test (λ (p : PlannedTouch). eqb p.act 0 ≡ false → record_refusal (eqb pooled 1) slots r ≡ 0)
      (eqb (record_refusal (eqb pooled 1) slots r) 0) (λ e _. eqb-true _ _ e) (λ _ e. absurd (not_both refl e))

  -- The record after 14 done.
  module _ (r : Call) (k : ℕ) where
    move14 : (place : ℕ) → place ≡ 14 → ltb (link_of r.link).tag 4294967295 ≡ true → r.kind ≡ 0
        → (settled_at place (knowing pooled slots r.link r.link) r r.link k).task ≡ counting
        (with_own (at_place r 1) (link_of r.link).slot r.label) k
    unfolding settled_at step_sound move at14 gone route onward goes counted row push_route
    move14 place at room kind =
        subst (λ (n : ℕ). (settled_at n (knowing pooled slots r.link r.link) r r.link k).task
        ≡ counting (with_own (at_place r 1) (link_of r.link).slot r.label) k) (sym at)
        (rw (eq-eqb r.link r.link refl, room, kind))

  -- Where the word is no Anchor's.
  off_anchor : (r : Record) (w : ℕ) → record_refusal (eqb pooled 1) slots r.call ≡ 0 → meets_anchor r.call ≡ false
      → settle pooled slots r w ≡ settled_at r.call.place (knowing pooled slots w w) r.call w r.retries
  unfolding settle
  off_anchor r w none off = rw (none, off)

  off14 : (r : Call) → r.place ≡ 14 → meets_anchor r ≡ false
  unfolding meets_anchor
  off14 r e = subst (λ (n : ℕ). meets_anchor (at_place r n) ≡ false) (sym e) refl

  row14 : (r : Call) → r.place ≡ 14 → row r ≡ (link_of r.link).slot
  unfolding row
  row14 r e = subst (λ (n : ℕ). row (at_place r n) ≡ (link_of r.link).slot) (sym e) refl

  pub settle14 : (r : Record) → (plan pooled slots r.call).act ≡ 9 → r.call.kind ≡ 0 → (w : ℕ) → w ≡ (plan pooled slots r.call).expected
      → (settle pooled slots r w).task ≡ counting (with_own (at_place r.call 1) (row r.call) r.call.label) r.retries
  settle14 r nine push w e =
      let n = (says r.call).nine nine in
      let none = accepted r.call (ap (λ (a : ℕ). eqb a 0) nine) in
      ap (λ (w : ℕ). (settle pooled slots r w).task) (e ∙ n.expected)
      ∙ ap (λ (s : Settled). s.task) (off_anchor r r.call.link none (off14 r.call n.place))
      ∙ move14 r.call r.retries r.call.place n.place n.room push
      ∙ ap (λ (x : ℕ). counting (with_own (at_place r.call 1) x r.call.label) r.retries) (sym (row14 r.call n.place))
