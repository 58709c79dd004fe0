-- A sieve of 1,024 marks: every label asked for has its mark set.
use mathlib.Core.{Path.◌≡◌, Bool.true, List.List}
use Rattle.std.specs.Prelude.{ℕ, ◌%◌, ◌<◌, length, get_or}
use Rattle.model.specs.Tables.{marked}

pub record Sifted (wanted sieve : List ℕ) : Type 0 where
  pub size : length sieve ≡ 16
  pub passes : (i : ℕ) → i < length wanted → marked sieve (get_or wanted i 0 % 1024) ≡ true

-- Beyond the first few slots it has been made.
pub record Ready (k : ℕ) (wanted sieve : List ℕ) : Type 0 where
  pub size : length sieve ≡ 16
  pub sifted : 4 < k → Sifted wanted sieve
