-- At places 1 to 10 the tests made one after the other are those of the record.
use mathlib.Core.Path.{◌≡◌, refl, sym, ◌∙◌}
use mathlib.Core.Bool.{Bool, true, false, ◌&&◌, ◌||◌, not, cond, and_assoc, and-true, and-false}
use Prim.Native.Nat.{ℕ, ◌<◌, ◌≤◌}
use native.Mathlib.Omega.{arith}
use lib.Dec.{leb, eqb}
use borrow.Author.Tests.{eq-eqb, ne_eqb, eqb-true, eqb-false, le-leb, lt-leb}
use Rattle.word.specs.{declared.Anchor.Anchor, Anchor.anchor_of}
use Rattle.model.specs.{declared.Call.Call, Sound.{from1, link_sound, anchor_sound, record_sound}}
use Rattle.sound.specs.Records.{read_sound, deque_call, deque_seen, deque_sound}
use Rattle.sound.proofs.{Parts.{call_tests_pass, read_tests_pass, busy-sound}, Places.{at_push, at_other}}
use Rattle.sound.proofs.Ends.{equal, apart}

-- Finishing is 0, or 1 while helping.
finishes : (n : ℕ) (h : Bool) → (eqb n 0 || (eqb n 1 && h)) ≡ (leb n 1 && (eqb n 0 || h))
finishes n h = by_zero (eqb n 0) refl
  where
    by_one : (t : Bool) → eqb n 1 ≡ t → (n ≡ 0 → ⊥) → (t && h) ≡ (leb n 1 && h)
    by_one true e other = let one : n ≡ 1 = eqb-true n 1 e in rw (le-leb n 1 (omega arith))
    by_one false e other = let more : n ≡ 1 → ⊥ = eqb-false n 1 e in rw (lt-leb n 1 (omega arith))

    by_zero : (t : Bool) → eqb n 0 ≡ t → (t || (eqb n 1 && h)) ≡ (leb n 1 && (t || h))
    by_zero true e = let zero : n ≡ 0 = eqb-true n 0 e in rw (le-leb n 1 (omega arith))
    by_zero false e = by_one (eqb n 1) refl (eqb-false n 0 e)

-- Tests in another order.
push_order : (s o f g : Bool) → (s && (o && (f && g))) ≡ ((((s && f) && true) && g) && o)
push_order false o f g = refl
push_order true false f g = simp and-false
push_order true true f g = simp and-true

pop_order : (s f k o z : Bool) → (f && z) ≡ z → (s && (k && (o && z))) ≡ ((((s && f) && k) && z) && o)
pop_order false f k o z h = refl
pop_order true f false o z h = simp and-false
pop_order true true true true z h = simp and-true
pop_order true true true false z h = simp and-false
pop_order true false true true true h = sym h
pop_order true false true false true h = refl
pop_order true false true o false h = simp and-false

pub zero_low : (n : ℕ) → (leb n 1 && eqb n 0) ≡ eqb n 0
zero_low n = go (eqb n 0) refl
  where
    go : (t : Bool) → eqb n 0 ≡ t → (leb n 1 && t) ≡ t
    go true e = let zero : n ≡ 0 = eqb-true n 0 e in rw (le-leb n 1 (omega arith))
    go false e = simp and-false

all-order : (s n l c r : Bool) → (s && ((n && l) && (c && r))) ≡ ((s && c) && (n && (l && r)))
all-order false n l c r = refl
all-order true true true c r = refl
all-order true true false c r = simp and-false
all-order true false l c r = simp and-false

-- The tests of a pop.
pub pops : (slots : ℕ) (r : Call) → (r.kind ≡ 0 → ⊥) → r.kind ≡ 1 → (eqb r.own 0 && eqb r.finishing 0) ≡ deque_call slots r
unfolding deque_call
pops slots r other pop = rw (ne_eqb _ _ other, eq-eqb _ _ pop)

module _ (slots : ℕ) (r : Call) (high : r.place ≤ 10) where
  deque_call-is : (pooled : Bool) → (leb r.side 1 && deque_call slots r) ≡ call_tests_pass pooled slots r
  unfolding deque_call
  deque_call-is pooled = by_kind (eqb r.kind 0) refl
    where
      low : r.place ≤ 11
      low = omega arith

      by_kind : (push : Bool) → eqb r.kind 0 ≡ push
          → (leb r.side 1 && cond push (from1 slots r.own && (eqb r.finishing 0 || (eqb r.finishing 1 && leb 5 r.place)))
          (eqb r.kind 1 && (eqb r.own 0 && eqb r.finishing 0))) ≡ call_tests_pass pooled slots r
      by_kind true e =
          rw (finishes r.finishing (leb 5 r.place))
          (push_order (leb r.side 1) (from1 slots r.own) (leb r.finishing 1) (eqb r.finishing 0 || leb 5 r.place)
          ∙ (rw (ne_eqb r.place 11 (λ x. omega (arith, x)), le-leb r.place 10 high, and-true (leb 5 r.place))
          at (at_push slots r pooled low (eqb-true _ _ e))))
      by_kind false e =
          pop_order (leb r.side 1) (leb r.finishing 1) (eqb r.kind 1) (eqb r.own 0) (eqb r.finishing 0) (zero_low r.finishing)
          ∙ at_other slots r pooled low (eqb-false _ _ e)

  abbrev a : Anchor
  a = anchor_of r.seen

  -- Unstable from 5 on, so with different ends.
  deque_seen-is : deque_seen slots r.place a ≡ (anchor_sound slots a && (not (leb 5 r.place) || not (eqb a.status 0)))
  unfolding deque_seen
  deque_seen-is = by_ends (eqb a.left a.right) refl (leb 5 r.place)
    where
      one_up : leb 1 a.status ≡ not (eqb a.status 0)
      one_up = go (eqb a.status 0) refl
        where
          go : (t : Bool) → eqb a.status 0 ≡ t → leb 1 a.status ≡ not t
          go true e = let zero : a.status ≡ 0 = eqb-true _ _ e in lt-leb 1 a.status (omega arith)
          go false e = let more : a.status ≡ 0 → ⊥ = eqb-false _ _ e in le-leb 1 a.status (omega arith)

      never : (z l : Bool) → false ≡ ((z && l) && not z)
      never true l = simp and-false
      never false l = refl

      apart-order : (s l g o : Bool) → (l && (g && (o && s))) ≡ (((s && l) && g) && o)
      apart-order true l g o = simp (and-true, and_assoc)
      apart-order false l g o = simp and-false

      by_ends : (e : Bool) → eqb a.left a.right ≡ e → (h : Bool)
          → cond e (not h && (eqb a.status 0 && leb a.left slots))
          (from1 slots a.left && (from1 slots a.right && cond h (from1 2 a.status) (leb a.status 2)))
          ≡ (anchor_sound slots a && (not h || not (eqb a.status 0)))
      by_ends true e true = rw (← equal slots a (eqb-true _ _ e)) (never (eqb a.status 0) (leb a.left slots))
      by_ends true e false = equal slots a (eqb-true _ _ e) ∙ sym (and-true (anchor_sound slots a))
      by_ends false e true =
          rw (← apart slots a (eqb-false _ _ e), one_up)
          (apart-order (leb a.status 2) (from1 slots a.left) (from1 slots a.right) (not (eqb a.status 0)))
      by_ends false e false =
          rw (← apart slots a (eqb-false _ _ e))
          (apart-order (leb a.status 2) (from1 slots a.left) (from1 slots a.right) true)

  -- All of them.
  pub deque-places : (pooled : Bool) → 0 < r.place → deque_sound slots r ≡ record_sound pooled slots r
  unfolding read_tests_pass deque_sound read_sound
  deque-places pooled busy =
      all-order (leb r.side 1) (leb r.neighbour slots) (link_sound slots r.link) (deque_call slots r) (deque_seen slots r.place a)
      ∙ (rw (deque_call-is pooled, deque_seen-is)
      (rw (le-leb r.place 10 high, and-true (leb 5 r.place)) at (busy-sound pooled slots r (ne_eqb r.place 0 (λ x. omega (arith, x))))))
