-- Which pairs of a sheet are broken, and which is told, in the document's words. (Document 02, #111.)
use mathlib.Core.{Path.◌≡◌, Logic.◌⊎◌, List.List}
use Rattle.std.specs.Prelude.{ℕ, ◌<◌}
use Rattle.model.specs.{declared.Entry.Entry, Walk.CopyAt}
use Rattle.sheet_model.specs.{declared.SheetReply.SheetReply, Sheet.{Sheet, Chained, label_at}}
use Rattle.sheet_model.specs.Verdict.{broken_by, kept}

-- A copy of label x waits.
pub record Copy (x : ℕ) (l : List Entry) : Type 0 where
  pub place : ℕ
  pub copy : CopyAt x l place

-- A copy of label y waits left of a copy of label x.
pub record LeftCopy (y x : ℕ) (l : List Entry) : Type 0 where
  pub left : ℕ
  pub right : ℕ
  pub order : left < right
  pub second : CopyAt y l left
  pub first : CopyAt x l right

-- A chained pair is broken when any copy of the second waits left of any copy of the first; a label chained to itself as soon as it waits.
pub data Broken (s : Sheet) (l : List Entry) : ℕ → ℕ → Type 0 where
  crossed : (a b : ℕ) → Chained s.rules a b → LeftCopy (label_at s b) (label_at s a) l → Broken s l a b
  itself : (a : ℕ) → Chained s.rules a a → Copy (label_at s a) l → Broken s l a a

abbrev pub NoneBroken : Sheet → List Entry → Type 0
NoneBroken s l = (a b : ℕ) → Broken s l a b → ⊥

-- Pair a, b comes before pair c, d: by first then second place.
abbrev pub Earlier : ℕ → ℕ → ℕ → ℕ → Type 0
Earlier a b c d = (a < c) ⊎ ((a ≡ c) × (b < d))

-- Kept, where no pair is broken; else a broken pair before which none is.
pub data Rightly (s : Sheet) (l : List Entry) : SheetReply → Type 0 where
  keeps : NoneBroken s l → Rightly s l kept
  first_pair : (a b : ℕ) → Broken s l a b → ((c d : ℕ) → Earlier c d a b → Broken s l c d → ⊥) → Rightly s l (broken_by a b)
