-- A plan for a row names a slot, whatever the record holds; so does a start that is not refused.
use mathlib.Core.{Path.{◌≡◌, refl, ap, subst, sym, ◌∙◌}, Bool.{Bool, true, false, ◌&&◌, not, cond}}
use Prim.Native.Nat.{ℕ, suc, ◌+◌, ◌/◌, ◌^◌, ◌≤◌}
use native.Mathlib.Omega.{arith}
use lib.Dec.{eqb, leb}
use borrow.Author.Tests.{eqb-true, eqb-false, le-leb, not-false, not-true}
use Rattle.word.specs.{Anchor.{anchor_of, pack_anchor}, Link.{link_of, spare_of}}
use Rattle.model.specs.{Sides.{far, facing, pushing}, declared.Call.Call, Tables.at_place, Refusals.record_refusal}
use Rattle.model.specs.Sound.{from1, link_sound, record_tests, record_sound}
use Rattle.model.proofs.Tests.{Rules.{cleared, tests}, Truth.{split, either, by_test, and-true, and_of, not_both}}
use Rattle.decide.specs.Ending.{may_change}
use Rattle.threads_model.specs.{declared.PlannedTouch.PlannedTouch, Split.plan_unasked}
use Rattle.threads_model.specs.Split.{refuses, loads_anchor, swaps_anchor, loads_link, plan, planned, on_row, place_refusal}
use Rattle.threads_model.specs.Starts.{own_rules, own_refusal, wrong_push, outside, start_why, plan_start}
use Rattle.threads.specs.Promises.{PlansWithin, UnaskedWithin, StartsWithin}
use Rattle.threads.proofs.Split.Planned as asks
use Rattle.threads.proofs.Split.ByRecord as by

abbrev pub Within : ℕ → PlannedTouch → Type 0
Within slots p = on_row p.act ≡ true → from1 slots p.slot ≡ true

never : {P : Type 0} {b : Bool} → b ≡ true → b ≡ false → P
never h k = absurd (not_both h k)

module _ (pooled slots : ℕ) (r : Call) where
  abbrev ok : ℕ → Type 0
  ok n = Within slots (planned pooled slots (at_place r n))

  abbrev sound : ℕ → Type 0
  sound n = record_sound (eqb pooled 1) slots (at_place r n) ≡ true

  -- A plan that is one of two, and one that reads a row that was tested.
  of_two : (b : Bool) (x y p : PlannedTouch) → cond b x y ≡ p → Within slots x → Within slots y → Within slots p
  of_two b x y p e f g = subst (Within slots) e (either (Within slots) b f g)

  tested : (x side : ℕ) (p : PlannedTouch) → cond (from1 slots x) (loads_link side x) (refuses 34) ≡ p → Within slots p
  tested x side p e = subst (Within slots) e (by_test (Within slots) (from1 slots x) (λ f h. f) (λ f h. never h refl))

  -- A change of Anchor, made or only read.
  changes : (new : ℕ) (p : PlannedTouch) → cond (may_change slots r.seen new) (swaps_anchor r.seen new) loads_anchor ≡ p → Within slots p
  changes new p e = of_two (may_change slots r.seen new) (swaps_anchor r.seen new) loads_anchor p e (λ h. never h refl) (λ h. never h refl)

  abbrev end2 : ℕ
  end2 = cond (eqb r.kind 0) r.own 0

  abbrev end4 : ℕ
  end4 = cond (eqb r.kind 0) r.own r.neighbour

  abbrev status4 : ℕ
  status4 = cond (eqb r.kind 0) (pushing r.side) (anchor_of r.seen).status

  abbrev made : ℕ → ℕ → ℕ → ℕ
  made status n f = pack_anchor (facing r.side (r.seen / 2 ^ 32 + 1) status n f)

  abbrev made4 : ℕ
  made4 = made status4 end4 (far r.side (anchor_of r.seen))

  abbrev made10 : ℕ
  made10 = pack_anchor (record { tag = r.seen / 2 ^ 32 + 1; status = 0; left = (anchor_of r.seen).left; right = (anchor_of r.seen).right })

  pub ok2 : ok 2
  ok2 = let new = made (anchor_of r.seen).status end2 end2 in changes new (planned pooled slots (at_place r 2)) (asks.plan2 pooled slots r end2 new refl refl)

  pub ok3 : ok 3
  ok3 =
      split (eqb r.kind 0)
      (λ k. split (from1 slots r.own)
      (λ f. subst (Within slots) (asks.put3 pooled slots r k f) (λ h. f))
      (λ f. subst (Within slots) (asks.refused3 pooled slots r k f) (λ h. never h refl)))
      (λ k. tested (asks.end pooled slots r (asks.own pooled slots r)) (cond (asks.own pooled slots r) 0 1) (planned pooled slots (at_place r 3))
      (asks.read3 pooled slots r k))

  pub ok4 : ok 4
  ok4 = changes made4 (planned pooled slots (at_place r 4)) (asks.plan4 pooled slots r status4 end4 made4 refl refl refl)

  pub ok5 : ok 5
  ok5 =
      tested (asks.end pooled slots r (asks.status_right pooled slots r)) (cond (asks.status_right pooled slots r) 0 1) (planned pooled slots (at_place r 5))
      (asks.plan5 pooled slots r)

  pub ok7 : ok 7
  ok7 = tested r.neighbour (cond (asks.status_right pooled slots r) 1 0) (planned pooled slots (at_place r 7)) (asks.plan7 pooled slots r)

  -- 1, 6, 8, 12 and 15 load Anchor or the head.
  pub loaded : {p q : PlannedTouch} → p ≡ q → on_row p.act ≡ false → Within slots q
  loaded e off = subst (Within slots) e (λ h. never h off)

  pub ok9 : ok 9
  ok9 =
      split (from1 slots r.neighbour)
      (λ f. split (asks.room pooled slots r)
      (λ l. subst (Within slots) (asks.swap9 pooled slots r f l) (λ h. f))
      (λ l. subst (Within slots) (asks.load9 pooled slots r f l) (λ h. f)))
      (λ f. subst (Within slots) (asks.outside9 pooled slots r f) (λ h. never h refl))

  pub ok10 : ok 10
  ok10 = changes made10 (planned pooled slots (at_place r 10)) (asks.plan10 pooled slots r made10 refl)

  pub ok11 : ok 11
  ok11 =
      split (from1 slots (asks.end pooled slots r (asks.own pooled slots r)))
      (λ f. subst (Within slots) (asks.take11 pooled slots r f) (λ h. f))
      (λ f. subst (Within slots) (asks.refused11 pooled slots r f) (λ h. never h refl))

  -- The head as read names a slot at 13 and 14.
  abbrev top : ℕ
  top = (link_of r.link).slot

  top_slot : not (eqb top 0) ≡ true → link_sound slots r.link ≡ true → from1 slots top ≡ true
  unfolding link_sound
  top_slot n l = and_of (le-leb 1 top (above (eqb-false top 0 (not-true _ n)))) (and-true (eqb (spare_of r.link) 0) (leb top slots) l).1
    where
      above : (top ≡ 0 → ⊥) → 1 ≤ top
      above h = omega arith

  ok13 : sound 13 → ok 13
  unfolding record_sound
  ok13 s =
      let all = tests (record_tests (eqb pooled 1) slots (at_place r 13)) s in
      let rest = all.1.1.1.1.1.1.1 in
      subst (Within slots) (asks.plan13 pooled slots r) (λ h. top_slot rest.1.0 rest.1.1.1.0)

  ok14 : sound 14 → ok 14
  unfolding record_sound
  ok14 s =
      let all = tests (record_tests (eqb pooled 1) slots (at_place r 14)) s in
      let rest = all.1.1.1.1.1.1.1 in
      split (asks.room pooled slots r)
      (λ l. subst (Within slots) (asks.draw14 pooled slots r l) (λ h. top_slot rest.1.0 rest.1.1.1.0))
      (λ l. subst (Within slots) (asks.load14 pooled slots r l) (λ h. never h refl))

  ok16 : sound 16 → ok 16
  unfolding record_sound
  ok16 s =
      let all = tests (record_tests (eqb pooled 1) slots (at_place r 16)) s in
      let own = all.1.1.1.1.1.1.1.0 in
      subst (Within slots) (asks.plan16 pooled slots r) (λ h. split (eqb r.kind 0) (λ k. rw k at own) (λ k. rw k at own))

  pub ok17 : ok 17
  ok17 =
      split (asks.room pooled slots r)
      (λ l. subst (Within slots) (asks.swap17 pooled slots r l) (λ h. never h refl))
      (λ l. subst (Within slots) (asks.load17 pooled slots r l) (λ h. never h refl))

  turn : (P : ℕ → Type 0) (i n : ℕ) → i ≤ n → P i → (suc i ≤ n → P n) → P n
  turn P i n h here later = split (eqb n i) (λ e. subst P (sym (eqb-true n i e)) here) (λ e. later (above (eqb-false n i e)))
    where
      above : (n ≡ i → ⊥) → suc i ≤ n
      above other = omega arith

  within : 1 ≤ r.place → r.place ≤ 17 → sound r.place → ok r.place
  within low high =
      let P : ℕ → Type 0 = λ n. sound n → ok n in
      let n = r.place in
      turn P 1 n low (λ _. loaded (asks.plan1 pooled slots r) refl)
      (λ h. turn P 2 n h (λ _. ok2) (λ h. turn P 3 n h (λ _. ok3) (λ h. turn P 4 n h (λ _. ok4)
      (λ h. turn P 5 n h (λ _. ok5)
      (λ h. turn P 6 n h (λ _. loaded (asks.plan6 pooled slots r) refl)
      (λ h. turn P 7 n h (λ _. ok7)
      (λ h. turn P 8 n h (λ _. loaded (asks.plan8 pooled slots r) refl)
      (λ h. turn P 9 n h (λ _. ok9) (λ h. turn P 10 n h (λ _. ok10) (λ h. turn P 11 n h (λ _. ok11)
      (λ h. turn P 12 n h (λ _. loaded (asks.plan12 pooled slots r) refl)
      (λ h. turn P 13 n h ok13 (λ h. turn P 14 n h ok14
      (λ h. turn P 15 n h (λ _. loaded (asks.plan15 pooled slots r) refl)
      (λ h. turn P 16 n h ok16 (λ h. subst P (last h) (λ _. ok17)))))))))))))))))
    where
      last : 17 ≤ r.place → 17 ≡ r.place
      last h = omega arith

pub plans_within : PlansWithin
unfolding plan record_refusal
plans_within pooled slots r =
    split (eqb (record_refusal (eqb pooled 1) slots r) 0)
    (λ z. let none = eqb-true _ _ z in
    rw z (within pooled slots r (by.low pooled slots r none) (by.high pooled slots r none) (sound_of none)))
    (λ z. rw z (λ h. never h refl))
  where
    sound_of : record_refusal (eqb pooled 1) slots r ≡ 0 → record_sound (eqb pooled 1) slots r ≡ true
    sound_of none = split (record_sound (eqb pooled 1) slots r) (λ s. s) (λ s. absurd (let z : ◌≡◌ {A = ℕ} 34 0 = simp s at none in omega arith))

pub unasked_within : UnaskedWithin
unfolding plan_unasked
unasked_within pooled slots r =
    let p = planned pooled slots r in
    split (eqb (place_refusal r) 0)
    (λ z. rw z (by_test (Within slots) (on_row p.act && not (from1 slots p.slot))
    (λ _ h. never h refl)
    (λ e h. not_either (on_row p.act) (from1 slots p.slot) e h)))
    (λ z. rw z (λ h. never h refl))
  where
    not_either : (a b : Bool) → a && not b ≡ false → a ≡ true → b ≡ true
    not_either true true e h = refl
    not_either true false e h = never refl e
    not_either false b e h = never h refl

-- A start that is not refused for its slot names one.
pub starts_within : StartsWithin
unfolding plan_start own_refusal
starts_within pooled slots r s one named =
    split (eqb (start_why pooled slots r s) 0)
    (λ z. let y = cleared (own_rules pooled slots r s.side (wrong_push pooled s) (outside slots s)) refl (eqb-true _ _ z) in
    let e : not (from1 slots s.slot) ≡ false = sym (ap (λ (b : Bool). cond b (not (from1 slots s.slot)) false) named) ∙ y.1.1.0 in
    not-false _ e)
    (λ z. absurd (let w : ◌≡◌ {A = ℕ} 0 1 = sym (ap (λ (b : Bool). (cond b loads_anchor (refuses (start_why pooled slots r s))).act) z) ∙ one in omega arith))
