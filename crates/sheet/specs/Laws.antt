-- What is promised of the square. (Document 02, #111.)
use mathlib.Core.{Path.◌≡◌, Bool.false, List.[]}
use Rattle.std.specs.Prelude.{ℕ, suc, ◌<◌, length, get_or}
use Rattle.sheet_model.specs.{Sheet.{Sheet, malformed}, Words.linked, Laws.MarkIsChained}
use Rattle.sheet.specs.Squares.{square_of}

-- Byte b of row a is 1 exactly when place a + 1 is chained before place b + 1.
abbrev pub SquareIsChained : Type 0
SquareIsChained = (s : Sheet) → malformed s ≡ false → (a b : ℕ) → a < 32 → b < 32
    → MarkIsChained (get_or (get_or (square_of (linked s.rules (length s.listed))) a []) b 0) s.rules (suc a) (suc b)
