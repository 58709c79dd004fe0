-- What the step at a place is refused by, told by the outcome that it comes to.
use mathlib.Core.{Path.{◌≡◌, refl, ap, sym, ◌∙◌}, Bool.{false, cond}, List.List}
use Prim.Native.Nat.{ℕ}
use lib.{Dec.eqb, ListN.get_or}
use borrow.Author.Tests.{eqb-true, eqb-false}
use Rattle.model.specs.{declared.{Control.Control, Call.Call, Transition.Transition}, Sound.from1, Kinds.is_push}
use Rattle.model.specs.{Tables.{Tables, at_place, tables_of}, Places.word_found, Refusals.step_sound, Calls.{Acted, finish}}
use Rattle.model.proofs.Tests.Truth.{split, either}
use Rattle.decide.specs.{Ending.{settled, compared, change_refused}, declared.touched.LinkWord.LinkWord}
use Rattle.decide.specs.Decided.{made_of, own_end, new2, new4, new10, link3, link7, found3, found9, found11, found14}
use Rattle.places.specs.Arm.{step_at}
use Rattle.places.proofs.Anchors as anchors
use Rattle.places.proofs.OnRows as rows
use Rattle.places.proofs.OnStack as stack
use Rattle.asking.specs.WhyRefused.{why_not, why_unchanged, touch_refusal}

module _ (c : Control) (r : Call) (ls rs ns ms xs : List ℕ) where
  abbrev q : Tables
  q = tables_of c ls rs ns ms xs

  -- What place n is refused by, and what this outcome tells.
  abbrev pub owed : ℕ → ℕ
  owed n = touch_refusal q (at_place r n)

  abbrev told : Acted → ℕ
  told a = why_not a.outcome

  abbrev due : ℕ
  due = touch_refusal q r

  owes : (n : ℕ) {a : Acted} → a ≡ step_at n q r 0 → told a ≡ owed n
  unfolding step_at finish touch_refusal
  owes n e =
      let s = at_place r n in
      ap told e ∙ split (step_sound c s (word_found q s)) (λ y. rw y) (λ y. rw y)

  -- The record is at the place, or at one that is asked the same.
  pub said : (n : ℕ) → owed n ≡ due → {a : Acted} → a ≡ step_at n q r 0 → told a ≡ due
  said n same e = owes n e ∙ same

  pub at : (n : ℕ) → r.place ≡ n → owed n ≡ due
  at n e = ap owed (sym e)

  -- A change of Anchor, which is not refused where Anchor is not as read.
  unrefused : (new : ℕ) → eqb c.anchor r.seen ≡ false → change_refused c r new ≡ false
  unfolding change_refused
  unrefused new h = rw h

  changes : (n new : ℕ) {t : Call} {done : ℕ} {failed : Transition} → r.place ≡ n → anchors.Tries n c r new t done failed
      → why_not failed.outcome ≡ 0 → why_unchanged c r new ≡ due
  unfolding why_unchanged settled
  changes n new e tried moved =
      split (eqb c.anchor r.seen)
      (λ h. split (change_refused c r new)
      (λ y. rw y (said n (at n e) (anchors.denies tried (eqb-true _ _ h) y ls rs ns ms xs 0)))
      (λ y. rw y (said n (at n e) (anchors.makes tried (eqb-true _ _ h) y ls rs ns ms xs 0))))
      (λ h. rw (unrefused new h) (sym moved ∙ said n (at n e) (anchors.fails tried (eqb-false _ _ h) ls rs ns ms xs 0)))

  pub change2 : r.place ≡ 2 → why_unchanged c r (new2 r) ≡ due
  unfolding settled
  change2 e = changes 2 (new2 r) e (anchors.step2 c r _ refl) refl

  pub change4 : r.place ≡ 4 → why_unchanged c r (new4 r) ≡ due
  unfolding settled
  change4 e = changes 4 (new4 r) e (anchors.step4 c r _ refl) refl

  pub change10 : r.place ≡ 10 → why_unchanged c r (new10 r) ≡ due
  unfolding settled
  change10 e = changes 10 (new10 r) e (anchors.step10 c r _ refl) refl

  -- What reads or compares Anchor is never refused, nor is what writes a next.
  pub none1 : r.place ≡ 1 → 0 ≡ due
  unfolding settled
  none1 e = said 1 (at 1 e) (anchors.step1 c r ls rs ns ms xs 0)

  compares : (same other : ℕ) → why_not (compared c r same other).outcome ≡ 0
  unfolding compared settled
  compares same other = either (λ (m : Transition). why_not m.outcome ≡ 0) (eqb c.anchor r.seen) refl refl

  pub none6 : r.place ≡ 6 → 0 ≡ due
  none6 e = sym (compares _ _) ∙ said 6 (at 6 e) (anchors.step6 c r ls rs ns ms xs 0)

  pub none8 : r.place ≡ 8 → 0 ≡ due
  none8 e = sym (compares _ _) ∙ said 8 (at 8 e) (anchors.step8 c r ls rs ns ms xs 0)

  pub none16 : r.place ≡ 16 → 0 ≡ due
  unfolding settled
  none16 e = said 16 (at 16 e) (stack.step16 c r ls rs ns ms xs 0)

  -- Whatever is written, the outcome is the transition's. First what is found in a link word.
  abbrev met : LinkWord → ℕ
  met l = get_or (cond l.right rs ls) l.slot 0

  pub told3 : r.place ≡ 3 → (m : Transition) → m ≡ found3 c r (met (link3 r)) → why_not m.outcome ≡ due
  told3 e m d =
      split (is_push r)
      (λ k. let made = rows.put3 c r ls rs ns ms xs 0 k m (rw k at d) in
      split (made_of m) (λ y. said 3 (at 3 e) (rw y at made)) (λ y. said 3 (at 3 e) (rw y at made)))
      (λ k. ap (λ (t : Transition). why_not t.outcome) (rw k at d) ∙ said 3 (at 3 e) (rows.read3 c r ls rs ns ms xs 0 k))

  pub told9 : r.place ≡ 9 → (m : Transition) → m ≡ found9 c r (met (link7 r)) → why_not m.outcome ≡ due
  told9 e m d =
      let made = rows.step9 c r ls rs ns ms xs 0 m d in
      split (made_of m) (λ y. said 9 (at 9 e) (rw y at made)) (λ y. said 9 (at 9 e) (rw y at made))

  pub told11 : r.place ≡ 11 → (m : Transition) → m ≡ found11 c r (get_or ns (own_end r) 0) → why_not m.outcome ≡ due
  told11 e m d =
      ap (λ (t : Transition). why_not t.outcome) d
      ∙ split (from1 c.slots (own_end r))
      (λ f. said 11 (at 11 e) (rows.cleared11 c r ls rs ns ms xs 0 f))
      (λ f. said 11 (at 11 e) (rows.unsound11 c r ls rs ns ms xs 0 f _))

  pub told14 : r.place ≡ 14 → (m : Transition) → m ≡ found14 c r → why_not m.outcome ≡ due
  told14 e m d =
      let made = stack.step14 c r ls rs ns ms xs 0 m d in
      split (made_of m) (λ y. said 14 (at 14 e) (rw y at made)) (λ y. said 14 (at 14 e) (rw y at made))
