-- The tests of an Anchor word that was read, one by one: the left end no slot, no status, then from place 5 on, equal ends, different ones.
use mathlib.Core.{Path.{◌≡◌, refl, sym, ap}, Bool.{Bool, true, false, ◌&&◌, not, cond, and-true, and-false}}
use Prim.Native.Nat.{ℕ, ◌+◌, ◌*◌, ◌<◌, ◌≤◌, ◌%◌, ◌/◌}
use native.Mathlib.Omega.{arith}
use lib.Dec.{leb, eqb}
use borrow.Author.Tests.{eq-eqb, ne_eqb, eqb-true, eqb-false, le-leb, lt-leb}
use Rattle.word.specs.{declared.Anchor.Anchor, Anchor.anchor_of}
use Rattle.model.specs.Sound.{from1}
use Rattle.sound.specs.Records.{deque_seen}

second : (x y : Bool) → x && y ≡ true → y ≡ true
second true y e = e
second false true e = refl
second false false e = e

-- No slot, and at least 1: beyond the last.
beyond : (slots n : ℕ) → from1 slots n ≡ false → 1 ≤ n → leb n slots ≡ false
beyond slots n none some = rw (le-leb 1 n some) at none

module _ (slots place : ℕ) (a : Anchor) where
  pub null_unstable : from1 slots a.left ≡ false → 5 ≤ place → false ≡ deque_seen slots place a
  unfolding deque_seen
  null_unstable none late = rw (none, le-leb 5 place late) (go (eqb a.left a.right))
    where
      go : (t : Bool) → false ≡ cond t false false
      go true = refl
      go false = refl

  module _ (l : from1 slots a.left ≡ true) where
    pub no_status : a.status ≡ 3 → false ≡ deque_seen slots place a
    unfolding deque_seen
    no_status e =
        rw (l, lt-leb a.status 2 (omega (arith, e)), ne_eqb a.status 0 (omega (arith, e))) (go (eqb a.left a.right) (leb 5 place))
      where
        go : (s t : Bool) → false ≡ cond s (not t && false) (from1 slots a.right && cond t (leb 1 a.status && false) false)
        go true t = simp and-false
        go false true = simp and-false
        go false false = simp and-false

    pub equal_soon : a.left ≡ a.right → place < 5 → eqb a.status 0 ≡ deque_seen slots place a
    unfolding deque_seen
    equal_soon same soon =
        rw (eq-eqb _ _ same, lt-leb 5 place soon, second (leb 1 a.left) (leb a.left slots) l) (sym (and-true (eqb a.status 0)))

    module _ (w : ℕ) (is : a ≡ anchor_of w) (used : a.status ≡ 3 → ⊥) where
      low : a.status ≤ 2
      low = let s : a.status ≡ w / 1073741824 % 4 = ap (λ (a : Anchor). a.status) is in omega (arith, s, used)

      pub late : 5 ≤ place
          → ((not (eqb a.left a.right) && from1 slots a.right) && not (eqb a.status 0)) ≡ deque_seen slots place a
      unfolding deque_seen
      late from5 = rw (l, le-leb 5 place from5, le-leb a.status 2 low) (by_tests (eqb a.left a.right) (eqb a.status 0) refl)
        where
          by_tests : (t s : Bool) → eqb a.status 0 ≡ s
              → ((not t && from1 slots a.right) && not s) ≡ cond t false (from1 slots a.right && (leb 1 a.status && true))
          by_tests true s e = refl
          by_tests false true e = let stable : a.status ≡ 0 = eqb-true _ _ e in rw (lt-leb 1 a.status (omega (arith, stable)))
          by_tests false false e = let unstable : a.status ≡ 0 → ⊥ = eqb-false _ _ e in rw (le-leb 1 a.status (omega (arith, unstable)))

      pub apart_soon : (a.left ≡ a.right → ⊥) → place < 5 → from1 slots a.right ≡ deque_seen slots place a
      unfolding deque_seen
      apart_soon other soon = rw (ne_eqb _ _ other, l, lt-leb 5 place soon, le-leb a.status 2 low) (sym (and-true _))

  -- The left end is no slot: all of the lower half is 0, or the word is unsound.
  pub null_soon : (w : ℕ) → a ≡ anchor_of w → from1 slots a.left ≡ false → place < 5 → eqb (w % 4294967296) 0 ≡ deque_seen slots place a
  unfolding deque_seen
  null_soon w is none soon = rw (none, lt-leb 5 place soon) (by_ends (eqb a.left a.right) refl)
    where
      left : a.left ≡ w / 32768 % 32768
      left = ap (λ (a : Anchor). a.left) is

      right : a.right ≡ w % 32768
      right = ap (λ (a : Anchor). a.right) is

      status : a.status ≡ w / 1073741824 % 4
      status = ap (λ (a : Anchor). a.status) is

      half : w % 4294967296 ≡ w / 1073741824 % 4 * 1073741824 + w / 32768 % 32768 * 32768 + w % 32768
      half = omega arith

      by_half : a.left ≡ a.right → (h : Bool) → eqb (w % 4294967296) 0 ≡ h → h ≡ (eqb a.status 0 && leb a.left slots)
      by_half same true e =
          let zero = eqb-true (w % 4294967296) 0 e in
          rw (eq-eqb a.status 0 (omega (arith, zero, status)), le-leb a.left slots (omega (arith, zero, left)))
      by_half same false e = by_status (eqb a.status 0) refl
        where
          by_status : (s : Bool) → eqb a.status 0 ≡ s → false ≡ (s && leb a.left slots)
          by_status false f = refl
          by_status true f =
              let some = eqb-false (w % 4294967296) 0 e in
              let stable = eqb-true a.status 0 f in
              sym (beyond slots a.left none (omega (arith, some, stable, same, left, right, status, half)))

      by_ends : (t : Bool) → eqb a.left a.right ≡ t → eqb (w % 4294967296) 0 ≡ cond t (eqb a.status 0 && leb a.left slots) false
      by_ends true e = by_half (eqb-true a.left a.right e) (eqb (w % 4294967296) 0) refl
      by_ends false e = let apart = eqb-false a.left a.right e in ne_eqb (w % 4294967296) 0 (λ z. apart (omega (arith, z, left, right, half)))
