-- Entries of a table as numbers.
use Rattle.std.specs.Prelude.{◌≡◌, ℕ, bit_or}

-- Which number each entry is: what stands for nothing is 0, and `or` and the conversion to a word give what they give of numbers.
pub record AreNumbers {T : Type 0} (nothing : T → Type 0) (or : T → T → T → Type 0) (word : T → ℕ → Type 0) (number : T → ℕ) : Type 0 where
  pub zero : (x : T) → nothing x → number x ≡ 0
  pub either : (x y r : T) → or x y r → number r ≡ bit_or (number x) (number y)
  pub whole : (x : T) (n : ℕ) → word x n → n ≡ number x
