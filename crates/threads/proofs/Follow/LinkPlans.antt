-- Which places plan a change of a link word: 3, of a push's own slot, and 9.
use mathlib.Core.{Path.{◌≡◌, refl}, Bool.{false, ◌&&◌, ◌||◌, not}, Logic.{◌⊎◌, inl, inr}}
use Prim.Native.Nat.{ℕ}
use native.Mathlib.Omega.{arith}
use lib.Dec.{eqb}
use borrow.Author.Tests.{eqb-true, eqb-false}
use Rattle.model.specs.{declared.{Control.Control, Call.Call}, Tables.is_pooled, Kinds.{is_push, drawing, giving}}
use Rattle.model.{specs.{Sound.from1, Places.{at15, at16, at17}}, proofs.Tests.Truth.{either, by_test}}
use Rattle.model.specs.Places.{Move, Touch, nothing, set_anchor, set_link, clear_mark, take_slot, set_next, set_head, row}
use Rattle.model.specs.Places.{link_side, move, at1, at2, at3, at4, at5, at6, at7, at9, at10, at11, at12, at13, at14}
use Rattle.model.specs.Refusals.{needs_row, meets_link, leaves_sound, has_room, record_refusal}
use Rattle.threads_model.specs.{declared.PlannedTouch.PlannedTouch, Split.{planned, knowing, touch_as_read}}
use Rattle.threads_model.specs.Split.{refuses, loads_anchor, loads_link, loads_head, loads_next, loads, asks, plan_for, plan}

-- Where a link word is changed, and which.
pub record Put (r : Call) (d x : ℕ) : Type 0 where
  pub side : d ≡ link_side r
  pub slot : x ≡ row r
  pub place : ((r.place ≡ 3) × (r.kind ≡ 0)) ⊎ (r.place ≡ 9)

abbrev Puts : Call → Touch → Type 0
Puts r nothing = Unit {0}
Puts r (set_anchor w) = Unit {0}
Puts r (set_link side x w) = Put r side x
Puts r (clear_mark x) = Unit {0}
Puts r (take_slot w x l) = Unit {0}
Puts r (set_next x v) = Unit {0}
Puts r (set_head w) = Unit {0}

puts : (c : Control) (r : Call) (w : ℕ) → Puts r (move c r w).touch
unfolding move at1 at2 at3 at4 at5 at6 at7 at9 at10 at11 at12 at13 at14 at15 at16 at17
puts c r w =
    let now = eqb c.anchor r.seen in
    let top = eqb c.head r.link in
    either P (eqb r.place 1) tt
    (either P (eqb r.place 2) (either P now tt tt)
    (by_test P (eqb r.place 3)
    (λ e. by_test P (is_push r) (λ k. record { side = refl; slot = refl; place = inl (eqb-true _ _ e, eqb-true _ _ k) }) (λ _. tt))
    (λ _. either P (eqb r.place 4) (either P now tt tt)
    (either P (eqb r.place 5) tt
    (either P (eqb r.place 6) tt
    (either P (eqb r.place 7) tt
    (either P (eqb r.place 8) tt
    (by_test P (eqb r.place 9)
    (λ e. either P (eqb w r.link) (record { side = refl; slot = refl; place = inr (eqb-true _ _ e) }) tt)
    (λ _. either P (eqb r.place 10) (either P now tt tt)
    (either P (eqb r.place 11) (either P (is_pooled c) tt tt)
    (either P (eqb r.place 12) tt
    (either P (eqb r.place 13) tt
    (either P (eqb r.place 14) (either P top tt tt)
    (either P (eqb r.place 15) tt
    (either P (eqb r.place 16) tt
    (either P top tt tt))))))))))))))))
  where
    P : Move → Type 0
    P m = Puts r m.touch

-- What a plan of act 5 or 4 says.
pub record Five (r : Call) (p : PlannedTouch) : Type 0 where
  pub place : r.place ≡ 3
  pub push : r.kind ≡ 0
  pub slot : p.slot ≡ row r

pub record FourAt9 (r : Call) (p : PlannedTouch) : Type 0 where
  pub place : r.place ≡ 9
  pub side : p.side ≡ link_side r
  pub slot : p.slot ≡ row r
  pub expected : p.expected ≡ r.link

pub record Changes (r : Call) (p : PlannedTouch) : Type 0 where
  pub five : p.act ≡ 5 → Five r p
  pub four : p.act ≡ 4 → FourAt9 r p

module _ (r : Call) where
  -- Any other act.
  none : (p : PlannedTouch) → eqb p.act 5 ≡ false → eqb p.act 4 ≡ false → Changes r p
  none p a b = record { five = λ e. absurd (eqb-false _ _ a e); four = λ e. absurd (eqb-false _ _ b e) }

  loading : Changes r (loads r)
  unfolding loads
  loading =
      either (Changes r) (meets_link r || eqb r.place 9) (none (loads_link (link_side r) (row r)) refl refl)
      (either (Changes r) (eqb r.place 13) (none (loads_next (row r)) refl refl)
      (either (Changes r) (drawing r || giving r) (none loads_head refl refl) (none loads_anchor refl refl)))

  at3_or_9 : (side x w : ℕ) → Put r side x → Changes r (asks r (set_link side x w))
  at3_or_9 side x w z =
      by_test (Changes r) (eqb r.place 3)
      (λ e. record {
        five = λ _. record { place = eqb-true _ _ e; push = push (eqb-true _ _ e) z.place; slot = z.slot };
        four = λ a. absurd (eqb-false 5 4 refl a);
      })
      (λ e. record {
        five = λ a. absurd (eqb-false 4 5 refl a);
        four = λ _. record { place = nine (eqb-false _ _ e) z.place; side = z.side; slot = z.slot; expected = refl };
      })
    where
      push : r.place ≡ 3 → ((r.place ≡ 3) × (r.kind ≡ 0)) ⊎ (r.place ≡ 9) → r.kind ≡ 0
      push e (inl k) = k.1
      push e (inr n) = absurd (let w : ◌≡◌ {A = ℕ} 3 9 = cc in omega arith)

      nine : (r.place ≡ 3 → ⊥) → ((r.place ≡ 3) × (r.kind ≡ 0)) ⊎ (r.place ≡ 9) → r.place ≡ 9
      nine f (inl k) = absurd (f k.0)
      nine f (inr n) = n

  asking : (t : Touch) → Puts r t → Changes r (asks r t)
  asking nothing a = loading
  asking (set_anchor w) a = none _ refl refl
  asking (set_link side x w) a = at3_or_9 side x w a
  asking (clear_mark x) a = none _ refl refl
  asking (take_slot w x l) a = none _ refl refl
  asking (set_next x v) a = none _ refl refl
  asking (set_head w) a = none _ refl refl

  for : (slots : ℕ) (t : Touch) → Puts r t → Changes r (plan_for slots r t)
  for slots t a =
      either (Changes r) (needs_row r && not (from1 slots (row r))) (none (refuses 34) refl refl)
      (either (Changes r) (leaves_sound slots t && has_room r t) (asking t a) loading)

pub changes : (pooled slots : ℕ) (r : Call) → Changes r (plan pooled slots r)
unfolding plan planned
changes pooled slots r =
    either (Changes r) (eqb (record_refusal (eqb pooled 1) slots r) 0)
    (for r slots (touch_as_read pooled slots r) (puts (knowing pooled slots r.seen r.link) r r.link))
    (none r (refuses (record_refusal (eqb pooled 1) slots r)) refl refl)
