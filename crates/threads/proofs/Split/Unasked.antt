-- A sound record need not be asked: its plan and its settlement are the same unasked, and it stays sound.
use mathlib.Core.{Path.{◌≡◌, refl, ap, subst, ◌∙◌}, Bool.{Bool, true, false, ◌&&◌, not}}
use Prim.Native.Nat.{ℕ}
use native.Mathlib.Omega.{arith}
use lib.Dec.{eqb}
use borrow.Author.Tests.{eqb-true, eqb-false, ne_eqb, le-leb}
use Rattle.word.specs.Anchor.{anchor_of}
use Rattle.model.specs.{declared.{Call.Call, Record.Record}, Sound.{from1, anchor_sound, record_sound}, Ends.is_moved}
use Rattle.model.{specs.Refusals.{record_refusal, step_sound}, proofs.Tests.Truth.{split, by_test, not_both}}
use Rattle.threads_model.specs.declared.PlannedTouch.{PlannedTouch}
use Rattle.threads_model.specs.Split.{knowing, planned, on_row, within, plan_unasked, plan, Settled, gone, settled_at}
use Rattle.threads_model.specs.Split.{meets_anchor, settle, settle_unasked, place_refusal}
use Rattle.threads.specs.Promises.{UnaskedStands}
use Rattle.threads.proofs.Split.{ByRecord.{idle-plan, sound_none, low, high}, Within.plans_within}
use Rattle.threads.proofs.Split.{SoundFields.fit, StaysSound.settle-sound}

-- A refused settlement leaves the record.
pub stays : (pooled slots : ℕ) (r : Record) (w : ℕ) → is_moved (settle pooled slots r w).outcome ≡ false → (settle pooled slots r w).task ≡ r
unfolding settle settled_at gone
stays pooled slots r w =
    let P : Settled → Type 0 = λ s. is_moved s.outcome ≡ false → s.task ≡ r in
    by_test P (eqb (record_refusal (eqb pooled 1) slots r.call) 0)
    (λ _. by_test P (meets_anchor r.call && not (anchor_sound slots (anchor_of w)))
    (λ _ _. refl)
    (λ _. by_test P (step_sound (knowing pooled slots w w) r.call w) (λ _ h. absurd (not_both refl h)) (λ _ _. refl)))
    (λ _ _. refl)

-- A touch of a slot that the queue has is left.
pub within_same : (slots : ℕ) (p : PlannedTouch) → (on_row p.act ≡ true → from1 slots p.slot ≡ true) → within slots p ≡ p
within_same slots p ok =
    split (on_row p.act)
    (λ on. rw (on, ok on))
    (λ off. rw off)

module _ (pooled slots : ℕ) (r : Call) where
  -- A record that is not refused is at a place.
  pub placed : record_refusal (eqb pooled 1) slots r ≡ 0 → place_refusal r ≡ 0
  placed none =
      let l = low pooled slots r none in
      rw (ne_eqb _ _ (λ (z : r.place ≡ 0). omega (arith, l, z)), le-leb _ _ (high pooled slots r none))

  module _ (sound : record_sound (eqb pooled 1) slots r ≡ true) where
    pub plan-same : plan_unasked pooled slots r ≡ plan pooled slots r
    unfolding plan_unasked plan
    plan-same =
        split (eqb r.place 0)
        (λ idle. rw idle (idle-plan pooled slots r (eqb-true _ _ idle)))
        (λ busy. let none = sound_none pooled slots r sound (eqb-false _ _ busy) in
        let here : plan pooled slots r ≡ planned pooled slots r = rw none in
        rw (placed none, none) (within_same slots (planned pooled slots r)
        (subst (λ (p : PlannedTouch). on_row p.act ≡ true → from1 slots p.slot ≡ true) here (plans_within pooled slots r))))

  -- An Anchor that is as read is sound.
  pub seen_sound : eqb r.place 0 ≡ false → record_sound (eqb pooled 1) slots r ≡ true → anchor_sound slots (anchor_of r.seen) ≡ true
  seen_sound busy sound = (fit pooled slots r busy sound).base.seen

-- So its test may be left out.
as_read : (a : Bool) (slots w seen : ℕ) → anchor_sound slots (anchor_of seen) ≡ true
    → (a && not (eqb w seen) && not (anchor_sound slots (anchor_of w))) ≡ (a && not (anchor_sound slots (anchor_of w)))
as_read false slots w seen sound = refl
as_read true slots w seen sound =
    split (eqb w seen)
    (λ same. let e : anchor_sound slots (anchor_of w) ≡ true = ap (λ (x : ℕ). anchor_sound slots (anchor_of x)) (eqb-true w seen same) ∙ sound in
    rw (same, e))
    (λ other. rw other)

settle-same : (pooled slots : ℕ) (r : Record) (w : ℕ) → record_sound (eqb pooled 1) slots r.call ≡ true
    → settle_unasked pooled slots r w ≡ settle pooled slots r w
unfolding settle_unasked settle record_refusal
settle-same pooled slots r w sound =
    split (eqb r.call.place 0)
    (λ idle. rw (sound, idle))
    (λ busy. let b = eqb-false _ _ busy in
    let none = sound_none pooled slots r.call sound b in
    rw (
      placed pooled slots r.call none,
      sound,
      busy,
      as_read (meets_anchor r.call) slots w r.call.seen (seen_sound pooled slots r.call busy sound),
    ))

stays_sound : (pooled slots : ℕ) (r : Record) (w : ℕ) → record_sound (eqb pooled 1) slots r.call ≡ true
    → record_sound (eqb pooled 1) slots (settle pooled slots r w).task.call ≡ true
stays_sound pooled slots r w sound =
    split (is_moved (settle pooled slots r w).outcome)
    (settle-sound pooled slots w r)
    (λ no. ap (λ (x : Record). record_sound (eqb pooled 1) slots x.call) (stays pooled slots r w no) ∙ sound)

pub unasked_stands : UnaskedStands
unasked_stands pooled slots r w sound =
    (plan-same pooled slots r.call sound, settle-same pooled slots r w sound, stays_sound pooled slots r w sound)
