-- The numbers of the refusals in their order, and what a refusal tells, whatever the tables and the labels asked for. (Document 02, #110.)
use mathlib.Core.{Path.{◌≡◌, refl}, List.{List, [], ◌∷◌}}
use Prim.Native.Nat.{ℕ}
use lib.ListN.{replicate}
use Rattle.model.{specs.Tables.Tables, proofs.Laws.Order.numbers}
use Rattle.find_model.specs.Find.{find_rules, refused}

pub order : (q : Tables) (wanted : List ℕ) → numbers (find_rules q wanted) ≡ 34 ∷ 45 ∷ 12 ∷ 34 ∷ []
order q wanted = refl

-- A refusal is its number alone.
pub refused-alone : (n : ℕ) → refused n ≡ record { code = n; rows = 0; positions = replicate 32 0 }
refused-alone n = refl
