-- The words of a sheet on a smaller printer: bit b of word a is set where place a + 1 is chained before place b + 1. (Document 02, #112.)
use mathlib.Core.{Bool.{Bool, cond}, List.{List, [], ◌∷◌}}
use Rattle.std.specs.Prelude.{ℕ, zero, suc, ◌+◌, ◌*◌}
use Rattle.sheet_model.specs.Sheet.{through}

-- The elements f 0 to f (n - 1).
unfoldable pub list_of : {A : Type 0} → (ℕ → A) → ℕ → List A
list_of f zero = []
list_of f (suc n) = f 0 ∷ list_of (λ i. f (suc i)) n

abbrev pub mark : Bool → ℕ
mark b = cond b 1 0

-- Places a + 1 and b + 1 are chained through places 1 to k.
abbrev pub linked : List ℕ → ℕ → ℕ → ℕ → Bool
linked rules k a b = through rules k (suc a) (suc b)

-- The marks f 0 to f (n - 1) as the bits of a word, from the lowest on.
unfoldable pub bits_of : (ℕ → Bool) → ℕ → ℕ
bits_of f zero = 0
bits_of f (suc n) = mark (f 0) + 2 * bits_of (λ b. f (suc b)) n

-- 32 words of 32 bits, one word a row.
unfoldable pub words_of : (ℕ → ℕ → Bool) → List ℕ
words_of f = list_of (λ a. bits_of (f a) 32) 32
