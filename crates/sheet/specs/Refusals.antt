-- What stands before the walk: 34 for control and Anchor, 46, 12.
use mathlib.Core.{Bool.{Bool, not, cond}, List.{[], ◌∷◌}}
use Rattle.std.specs.Prelude.{ℕ, Result, Ok, Err}
use lib.Dec.{eqb}
use Rattle.model.specs.Refusals.{rule, first}
use Rattle.walk.specs.Over.{Made, made, lost}
use Rattle.sheet.specs.declared.extents.Extents.{Extents}

unfoldable pub unfit : Bool → Bool → Bool → ℕ
unfit sound bad fit = first (rule 34 (not sound) ∷ rule 46 bad ∷ rule 12 (not fit) ∷ [])

-- What the walk noted, or the number of a refusal: one that stands before the walk, or 34 for it.
abbrev pub walked : Made Extents → Result Extents ℕ
walked (made e) = Ok e
walked lost = Err 34

-- As the code answers: what the walk noted is in the caller's hands.
abbrev pub answered : Result (Unit {0}) ℕ → Extents → Result Extents ℕ
answered (Ok u) e = Ok e
answered (Err n) e = Err n

abbrev pub asked : ℕ → Made Extents → Result Extents ℕ
asked why m = cond (eqb why 0) (walked m) (Err why)
