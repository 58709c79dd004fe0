-- What comes of something that each entry of a walk makes on: a count, positions noted, rows written.
use Rattle.std.specs.Prelude.{List, [], ◌∷◌}
use Rattle.model.specs.{declared.Entry.Entry, Walk.{Walk, entries, broken}}

-- All of the walk went into it, or the walk is broken.
pub data Made (S : Type 0) : Type 0 where
  made : S → Made S
  lost : Made S

-- From s on, what f makes of each entry in turn.
abbrev pub each : {S : Type 0} → (S → Entry → S) → S → List Entry → S
each f s [] = s
each f s (e ∷ l) = each f (f s e) l

-- The same of a walk's entries; nothing is made of a broken walk.
abbrev pub over : {S : Type 0} → (S → Entry → S) → S → Walk → Made S
over f s (entries l) = made (each f s l)
over f s broken = lost
