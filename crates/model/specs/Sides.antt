-- Sides and the ends of Anchor, the status that names a side. (Document 01: Tables, Places.)
use mathlib.Core.{Bool.{Bool, ◌&&◌, cond}, List.List}
use Rattle.std.specs.Prelude.{ℕ, eqb}
use Rattle.word.specs.declared.Anchor.{Anchor}
use Rattle.model.specs.Tables.{Tables}

-- Side 0 is left, 1 is right. Left is the mirror of right through these definitions; no place is written twice.
abbrev pub opposite : ℕ → ℕ
opposite side = cond (eqb side 1) 0 1

-- The end of Anchor at a side, and its other end.
abbrev pub near : ℕ → Anchor → ℕ
near side a = cond (eqb side 1) a.right a.left

abbrev pub far : ℕ → Anchor → ℕ
far side a = cond (eqb side 1) a.left a.right

-- An Anchor made of its end at a side and its other end.
abbrev pub facing : ℕ → ℕ → ℕ → ℕ → ℕ → Anchor
facing side tag status n f =
    record { tag = tag; status = status; left = cond (eqb side 1) f n; right = cond (eqb side 1) n f }

-- The link words that lead to a side: Right for the right.
abbrev pub links : Tables → ℕ → List ℕ
links q side = cond (eqb side 1) q.rights q.lefts

-- Status: 0 STABLE, 1 RPUSH, 2 LPUSH; the status that names a side, and the side that a status names.
abbrev pub pushing : ℕ → ℕ
pushing side = cond (eqb side 1) 1 2

abbrev pub status_side : ℕ → ℕ
status_side status = cond (eqb status 1) 1 0

-- An Anchor with null ends.
abbrev pub is_empty : Anchor → Bool
is_empty a = eqb a.left 0 && eqb a.right 0
