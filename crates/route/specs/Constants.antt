-- What the constant table of next places holds: the column next, with a row a place of five branches for a push and five for a pop.
use mathlib.Core.{Bool.{Bool, cond}, List.{List, [], ◌∷◌}}
use Rattle.std.specs.Prelude.{ℕ}
use Rattle.model.specs.Route.{route, failed_reading}

abbrev pub branches_of : ℕ → ℕ → List ℕ
branches_of place kind =
    route place kind 0 ∷ route place kind 1 ∷ route place kind 2 ∷ route place kind 3 ∷ route place kind 4 ∷ []

abbrev pub row_of : ℕ → List (List ℕ)
row_of place = branches_of place 0 ∷ branches_of place 1 ∷ []

-- The branch of a reading: at place 1, or where a change failed at 2 or 4. (Document 02: #106.)
abbrev pub branch_of : Bool → ℕ → ℕ
branch_of failed branch = cond failed (failed_reading branch) branch
