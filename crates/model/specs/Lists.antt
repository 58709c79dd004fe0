-- Lists: what holds of every entry, entries counted, filled and zeroed.
use mathlib.Core.{Bool.{Bool, true, ◌&&◌, cond}, List.{List, [], ◌∷◌, ◌++◌}}
use Rattle.std.specs.Prelude.{ℕ, zero, suc, ◌+◌}
use lib.{Dec.eqb, ListN.{replicate, drop}}

-- Every entry of a list has a property.
abbrev pub All : {A : Type 0} → (A → Type 0) → List A → Type 0
All P [] = Unit {0}
All P (x ∷ l) = P x × All P l

-- All tests of a list hold.
abbrev pub every : List Bool → Bool
every [] = true
every (b ∷ []) = b
every (b ∷ c ∷ l) = b && every (c ∷ l)

-- How many of the numbers below n pass a test.
unfoldable pub count : (ℕ → Bool) → ℕ → ℕ
count p zero = 0
count p (suc n) = count p n + cond (p n) 1 0

-- How many copies of a number a list has.
abbrev pub copies : ℕ → List ℕ → ℕ
copies x [] = 0
copies x (y ∷ l) = cond (eqb y x) 1 0 + copies x l

-- The values of f at the numbers below n, in their order.
unfoldable pub listed : (ℕ → ℕ) → ℕ → List ℕ
listed f zero = []
listed f (suc n) = f 0 ∷ listed (λ t. f (suc t)) n

-- The first n entries zeroed; entries beyond keep their values.
abbrev pub zeroed : {A : Type 0} → ℕ → A → List A → List A
zeroed n z l = replicate n z ++ drop n l

-- Numbers from k up that end with 0, n of them in all: where each slot from 1 leads to the next one, and the last to none.
abbrev pub climb : ℕ → ℕ → List ℕ
climb k zero = []
climb k (suc zero) = 0 ∷ []
climb k (suc (suc n)) = k ∷ climb (suc k) (suc n)
