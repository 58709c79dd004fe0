-- The numbers from k on, n of them; and the list that leads each of them to the next one.
use mathlib.Core.{List.{List, [], ◌++◌, ◌∷◌}, Logic.{◌≢◌, ◌⊎◌, inl, inr}, Path.{◌≡◌, refl, ap}}
use Prim.Native.Nat.{◌+◌, ◌<◌, ◌≤◌, suc, zero, ℕ}
use native.Mathlib.Omega.{arith}
use lib.ListN.{length, get_or}
use Rattle.model.proofs.{Tests.Truth.decide_eq, Lists.{All.all_map, Deque.Distinct, In.In}}
use Rattle.model.specs.Lists.{All, climb}

abbrev pub range : ℕ → ℕ → List ℕ
range k zero = []
range k (suc n) = k ∷ range (suc k) n

pub range_bounds : (k n j m : ℕ) → j ≤ k → k + n ≤ m → All (λ y. (j ≤ y) × (y < m)) (range k n)
range_bounds k zero j m l h = tt
range_bounds k (suc n) j m l h = ((omega arith, omega arith), range_bounds (suc k) n j m (omega arith) (omega arith))

pub range_distinct : (k n : ℕ) → Distinct (range k n)
range_distinct k zero = tt
range_distinct k (suc n) =
    let beyond = range_bounds (suc k) n (suc k) (suc k + n) (omega arith) (omega arith) in
    (all_map (λ y. (suc k ≤ y) × (y < suc k + n)) (λ y. y ≢ k) (λ y b e. omega (arith, b.0)) (range (suc k) n) beyond, range_distinct (suc k) n)

pub in_range : (x k n : ℕ) → k ≤ x → x < k + n → In x (range k n)
in_range x k zero l h = absurd (omega arith)
in_range x k (suc n) l h = go (decide_eq x k) (λ g. in_range x (suc k) n g (omega arith))
  where
    go : (x ≡ k) ⊎ (x ≢ k) → (suc k ≤ x → In x (range (suc k) n)) → (x ≡ k) ⊎ In x (range (suc k) n)
    go (inl e) f = inl e
    go (inr e) f = inr (f (omega arith))

pub length_climb : (k n : ℕ) → length (climb k n) ≡ n
length_climb k zero = refl
length_climb k (suc zero) = refl
length_climb k (suc (suc n)) = ap suc (length_climb (suc k) (suc n))

pub climb-step : (k n : ℕ) (r : List ℕ) (i : ℕ) → i < n → get_or (climb k (suc n) ++ r) i 0 ≡ k + i
climb-step k zero r i h = absurd (omega arith)
climb-step k (suc n) r zero h = omega arith
climb-step k (suc n) r (suc i) h = omega (arith, climb-step (suc k) n r i (omega arith))

pub climb-last : (k n : ℕ) (r : List ℕ) → get_or (climb k (suc n) ++ r) n 0 ≡ 0
climb-last k zero r = refl
climb-last k (suc n) r = climb-last (suc k) n r

-- The last of them, and what lies beyond, leads to none.
pub climb-out : (k n i : ℕ) → n ≤ suc i → get_or (climb k n) i 0 ≡ 0
climb-out k zero i h = refl
climb-out k (suc zero) zero h = refl
climb-out k (suc zero) (suc i) h = refl
climb-out k (suc (suc n)) zero h = absurd (omega arith)
climb-out k (suc (suc n)) (suc i) h = climb-out (suc k) (suc n) i (omega arith)
