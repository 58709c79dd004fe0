-- What holds at each of the places 1 to 17 holds at every busy place.
use mathlib.Core.{Logic.{◌≢◌, ◌⊎◌, inl, inr}, Path.{◌≡◌, subst, sym}}
use Prim.Native.Nat.{◌+◌, ◌<◌, ◌≤◌, suc, zero, ℕ}
use native.Mathlib.Omega.{arith}
use Rattle.model.proofs.Tests.Truth.{decide_eq}

-- The numbers from k on, one by one.
abbrev Each : (ℕ → Type 0) → ℕ → ℕ → Type 0
Each P k zero = Unit {0}
Each P k (suc m) = P k × Each P (suc k) m

each_at : (P : ℕ → Type 0) (k m n : ℕ) → Each P k m → k ≤ n → n < k + m → P n
each_at P k zero n e h g = absurd (omega arith)
each_at P k (suc m) n e h g = go (decide_eq n k) (λ p. each_at P (suc k) m n e.1 p (omega arith))
  where
    go : (n ≡ k) ⊎ (n ≢ k) → (suc k ≤ n → P n) → P n
    go (inl z) f = subst P (sym z) e.0
    go (inr z) f = f (omega arith)

pub by_place : (P : ℕ → Type 0) → P 1 → P 2 → P 3 → P 4 → P 5 → P 6 → P 7 → P 8 → P 9 → P 10 → P 11 → P 12 → P 13 → P 14 → P 15 → P 16 → P 17
    → (p : ℕ) → p ≢ 0 → p ≤ 17 → P p
by_place P a b c d e f g h i j k a' b' c' d' e' f' p n l =
    each_at P 1 17 p (a, (b, (c, (d, (e, (f, (g, (h, (i, (j, (k, (a', (b', (c', (d', (e', (f', tt))))))))))))))))) (omega arith) (omega arith)
