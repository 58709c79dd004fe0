-- The refusals of a saving and a return, by the lengths of the tables.
use Rattle.std.specs.Prelude.{Bool, ◌&&◌, ℕ, ◌/◌, leb}
use Rattle.model.specs.{declared.Control.Control, Refusals.first}
use Rattle.shelf_model.specs.Shelves.{save_tests, return_tests}
use Rattle.sound.specs.{declared.Lengths.Lengths, Lengths.tables_fit}

-- A shelf's part of each table.
abbrev pub eighth : Lengths → Lengths
eighth t = record {
  records = t.records / 8;
  lefts = t.lefts / 8;
  rights = t.rights / 8;
  labels = t.labels / 8;
  marks = t.marks / 8;
  next = t.next / 8;
}

-- 12, for both sides.
unfoldable pub both_fit : Control → Lengths → Lengths → ℕ → Bool
both_fit c queue shelves controls = tables_fit c queue && tables_fit c (eighth shelves) && leb 8 controls

-- The number of a refusal, by the lengths.
unfoldable pub save_number : Control → ℕ → Lengths → Lengths → ℕ → ℕ
save_number c n queue shelves controls = first (save_tests c n (both_fit c queue shelves controls))

unfoldable pub return_number : Control → ℕ → Lengths → Lengths → ℕ → ℕ
return_number c n queue shelves controls = first (return_tests c n (both_fit c queue shelves controls))
