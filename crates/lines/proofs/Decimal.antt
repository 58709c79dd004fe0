-- The decimal digits of a number read back as that number.
use Prim.Native.Nat.{ℕ, zero, suc, ◌+◌, ◌-◌, ◌*◌, ◌/◌, ◌%◌, ◌^◌, ◌<◌, ◌≤◌}
use mathlib.Core.{Path.{◌≡◌, refl}, Bool.{Bool, true, false}, List.{List, [], ◌∷◌, ◌++◌}}
use native.Mathlib.{Nat.pow-suc, Omega.arith}
use lib.Dec.{ltb}
use borrow.Author.Tests.{ltb-true, ltb-false}
use Rattle.lines.specs.Line.{decimal_in, decimal}
use Rattle.lines.proofs.Digits.{decimal-last, decimal-more}

-- digits read from left to right
pub value_from : ℕ → List ℕ → ℕ
value_from a [] = a
value_from a (d ∷ ds) = value_from (a * 10 + (d - 48)) ds

pub value_append : (a : ℕ) (xs ys : List ℕ) → value_from a (xs ++ ys) ≡ value_from (value_from a xs) ys
unfolding value_from
value_append a [] ys = refl
value_append a (d ∷ xs) ys = value_append (a * 10 + (d - 48)) xs ys

value-last : (more n : ℕ) → n < 10 → value_from 0 (decimal_in more n) ≡ n
unfolding value_from
value-last more n h = rw (decimal-last more n h) (omega arith)

value-more : (k n : ℕ) → 10 ≤ n → value_from 0 (decimal_in k (n / 10)) ≡ n / 10 → value_from 0 (decimal_in (suc k) n) ≡ n
unfolding value_from
value-more k n h e =
    let p : suc k - 1 ≡ k = omega arith in
    let z : suc k ≡ 0 → ⊥ = λ q. omega (arith, q) in
    rw (decimal-more (suc k) n z h, p, value_append 0 (decimal_in k (n / 10)) ((48 + n % 10) ∷ []), e) (omega arith)

pub value_in : (more n : ℕ) → n < 10 ^ suc more → value_from 0 (decimal_in more n) ≡ n
value_in zero n h = value-last zero n (omega (arith, pow-suc 10 0))
value_in (suc k) n h = go (ltb n 10) refl (value_in k (n / 10) (omega (arith, pow-suc 10 (suc k))))
  where
    go : (b : Bool) → ltb n 10 ≡ b → value_from 0 (decimal_in k (n / 10)) ≡ n / 10 → value_from 0 (decimal_in (suc k) n) ≡ n
    go true e ih = value-last (suc k) n (ltb-true _ _ e)
    go false e ih = value-more k n (ltb-false _ _ e) ih

pub value_of : (n : ℕ) → n < 18446744073709551616 → value_from 0 (decimal n) ≡ n
unfolding decimal
value_of n h = value_in 19 n (omega (arith, h))
