-- The positions as a walk finds them, slot by slot, k counting the slots met.
use mathlib.Core.{Bool.{Bool, ◌&&◌, ◌||◌, not, cond}, List.{List, [], ◌∷◌}}
use Rattle.std.specs.Prelude.{ℕ, ◌+◌, ◌-◌, eqb}
use Rattle.model.specs.Sound.{from1}

-- What is noted for label x when the k-th slot holds label y and p was noted before: k, or p. Foremost: the first of equals counts, else the last.
abbrev pub pick : Bool → ℕ → ℕ → ℕ → ℕ → ℕ
pick foremost x y k p = cond (eqb y x && (not foremost || eqb p 0)) k p

-- For each label asked for.
abbrev pub note : Bool → ℕ → ℕ → List ℕ → List ℕ → List ℕ
note foremost y k [] ps = ps
note foremost y k (x ∷ wanted) [] = []
note foremost y k (x ∷ wanted) (p ∷ ps) = pick foremost x y k p ∷ note foremost y k wanted ps

-- A position counted from the other end of so many rows.
abbrev pub turned : ℕ → ℕ → ℕ
turned rows p = cond (from1 rows p) (rows + 1 - p) p
