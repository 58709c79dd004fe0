-- Beyond place 10 the tests made one after the other are those of the record.
use mathlib.Core.Path.{◌≡◌, refl, sym, ap, ◌∙◌}
use mathlib.Core.Bool.{Bool, true, false, ◌&&◌, ◌||◌, not, cond, and_assoc, and-true, and-false}
use Prim.Native.Nat.{ℕ, ◌<◌, ◌≤◌}
use native.Mathlib.Omega.{arith}
use lib.Dec.{leb, eqb}
use borrow.Author.Tests.{eq-eqb, ne_eqb, eqb-true, eqb-false, le-leb, lt-leb, leb-true, leb-false}
use Rattle.word.specs.{Anchor.anchor_of, Link.link_of}
use Rattle.model.specs.{declared.Call.Call, Sound.{from1, link_sound, anchor_sound, record_sound}, Kinds.helping}
use Rattle.sound.specs.Records.{read_sound, slot_call, slot_sound}
use Rattle.sound.proofs.{Parts.{call_tests_pass, read_tests_pass, busy-sound}, DequePlaces.zero_low}
use Rattle.sound.proofs.Places.{at_draw, at_give, at_push, at_other, beyond}

-- Tests in another order.
order11 : (s f k z o : Bool) → (f && z) ≡ z → (s && (z && (k && o))) ≡ ((((s && f) && k) && z) && o)
order11 false f k z o h = refl
order11 true true true true o h = refl
order11 true true true false o h = refl
order11 true true false true o h = refl
order11 true true false false o h = refl
order11 true false true true true h = sym h
order11 true false true true false h = refl
order11 true false false true o h = refl
order11 true false k false o h = refl

push_order : (s z o f g w : Bool) → (s && (z && (false && o))) ≡ ((((s && f) && false) && g) && w)
push_order s z o f g w = simp and-false

draw_order : (s z p k o n : Bool) → (s && (z && (p && (k && (o && n))))) ≡ (p && ((((s && z) && k) && o) && n))
draw_order false z true k o n = refl
draw_order false z false k o n = refl
draw_order true false true k o n = refl
draw_order true false false k o n = refl
draw_order true true p k o n = simp and_assoc

give_order : (s z p k l o : Bool) → (s && (z && (p && (k && (l && o))))) ≡ (p && ((((l && s) && z) && k) && o))
give_order false z true k true o = refl
give_order false z true k false o = refl
give_order false z false k l o = refl
give_order true false true k true o = refl
give_order true false true k false o = refl
give_order true false false k l o = refl
give_order true true true true l o = simp and-true
give_order true true true false l o = simp and-false
give_order true true false k l o = refl

-- The tests of a pop that gives its slot back, but the last.
pub gives : (pooled : Bool) (slots : ℕ) (r : Call) → (r.place ≡ 11 → ⊥) → pooled ≡ true → 14 < r.place → r.kind ≡ 1 → r.place ≤ 17
    → from1 slots r.own ≡ slot_call pooled slots r
unfolding slot_call
gives pooled slots r other pool far pop high = rw (ne_eqb _ _ other, pool, lt-leb _ _ far, eq-eqb _ _ pop, le-leb _ _ high)

all-order : (s n l z a c : Bool) → (s && ((n && l) && (z && (a && c)))) ≡ ((s && (z && c)) && (n && (l && (a && true))))
all-order false n l z a c = refl
all-order true n l false a c = simp and-false
all-order true true true true true c = simp and-true
all-order true true true true false c = simp and-false
all-order true true false true a c = simp and-false
all-order true false l true a c = simp and-false

module _ (pooled : Bool) (slots : ℕ) (r : Call) (low : 10 < r.place) where
  abbrev slot_read : Bool
  slot_read = eqb r.place 12 || not (eqb (link_of r.link).slot 0)

  abbrev pooled_call : Bool → Bool
  pooled_call draws = cond draws (eqb r.kind 0 && (eqb r.own 0 && slot_read)) (eqb r.kind 1 && (leb r.place 17 && from1 slots r.own))

  slot_call-is : (leb r.side 1 && (eqb r.finishing 0 && slot_call pooled slots r)) ≡ call_tests_pass pooled slots r
  unfolding slot_call
  slot_call-is = by_place (eqb r.place 11) refl
    where
      by_kind : r.place ≡ 11 → (push : Bool) → eqb r.kind 0 ≡ push
          → (leb r.side 1 && (eqb r.finishing 0 && (eqb r.kind 1 && eqb r.own 0))) ≡ call_tests_pass pooled slots r
      by_kind at true e =
          let kind : r.kind ≡ 0 = eqb-true _ _ e in
          rw (ne_eqb r.kind 1 (λ x. omega (arith, x)))
          (push_order (leb r.side 1) (eqb r.finishing 0) (eqb r.own 0) (leb r.finishing 1) (eqb r.finishing 0 || helping r)
          (from1 slots r.own)
          ∙ (rw (eq-eqb r.place 11 at) at (at_push slots r pooled (omega arith) kind)))
      by_kind at false e =
          order11 (leb r.side 1) (leb r.finishing 1) (eqb r.kind 1) (eqb r.finishing 0) (eqb r.own 0) (zero_low r.finishing)
          ∙ at_other slots r pooled (omega arith) (eqb-false _ _ e)

      by_draw : 11 < r.place → (draws : Bool) → leb r.place 14 ≡ draws
          → (leb r.side 1 && (eqb r.finishing 0 && (pooled && pooled_call draws))) ≡ call_tests_pass pooled slots r
      by_draw far true e =
          draw_order (leb r.side 1) (eqb r.finishing 0) pooled (eqb r.kind 0) (eqb r.own 0) slot_read
          ∙ ap (◌&&◌ pooled) (rw (le-leb r.place 17 (within (leb-true _ _ e))) at (at_draw slots r far (leb-true _ _ e)))
          ∙ beyond slots r pooled far
        where
          within : r.place ≤ 14 → r.place ≤ 17
          within h = omega arith
      by_draw far false e =
          give_order (leb r.side 1) (eqb r.finishing 0) pooled (eqb r.kind 1) (leb r.place 17) (from1 slots r.own)
          ∙ ap (◌&&◌ pooled) (at_give slots r (leb-false _ _ e))
          ∙ beyond slots r pooled far

      by_place : (here : Bool) → eqb r.place 11 ≡ here
          → (leb r.side 1 && (eqb r.finishing 0 && cond here (eqb r.kind 1 && eqb r.own 0) (pooled && pooled_call (leb r.place 14))))
          ≡ call_tests_pass pooled slots r
      by_place true e = by_kind (eqb-true _ _ e) (eqb r.kind 0) refl
      by_place false e = let other : r.place ≡ 11 → ⊥ = eqb-false _ _ e in by_draw (omega arith) (leb r.place 14) refl

  -- All of them.
  pub slot_places : slot_sound pooled slots r ≡ record_sound pooled slots r
  unfolding read_tests_pass slot_sound read_sound
  slot_places =
      all-order (leb r.side 1) (leb r.neighbour slots) (link_sound slots r.link) (eqb r.finishing 0) (anchor_sound slots (anchor_of r.seen))
      (slot_call pooled slots r)
      ∙ (rw slot_call-is
      (rw (lt-leb r.place 10 low, and-false (leb 5 r.place)) at (busy-sound pooled slots r (ne_eqb r.place 0 (λ x. omega (arith, x))))))
