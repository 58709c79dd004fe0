-- The first position that stands too early.
use mathlib.Core.{Bool.cond, List.{List, [], ◌∷◌}}
use Rattle.std.specs.Prelude.{ℕ, suc}
use Rattle.audit_model.specs.{declared.Finished.Finished, Audit.{all_of, not_earlier}}

-- How many calls come before the first that stands before one answered before its start; all of them where none does.
unfoldable pub first_misplaced : List Finished → ℕ
first_misplaced [] = 0
first_misplaced (c ∷ cs) = cond (all_of (not_earlier c) cs) (suc (first_misplaced cs)) 0
