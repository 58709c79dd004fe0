-- Which tables are long enough, by their lengths.
use mathlib.Core.{Path.◌≡◌, Bool.{Bool, ◌&&◌, ◌||◌, not}, List.{List, [], ◌∷◌}}
use Rattle.std.specs.Prelude.{ℕ, ◌/◌}
use lib.{Dec.{leb, ltb, eqb}, ListN.length}
use Rattle.model.specs.{declared.Control.Control, Tables.{Tables, is_pooled}, Refusals.{Rule, rule, Lent}, Lists.every}
use Rattle.sound.specs.declared.Lengths.{Lengths}

-- The lengths of tables, with so many records; and that some lengths are those of the tables.
abbrev pub lengths_of : Tables → ℕ → Lengths
lengths_of q n = record {
  records = n;
  lefts = length q.lefts;
  rights = length q.rights;
  labels = length q.labels;
  marks = length q.marks;
  next = length q.next;
}

abbrev pub Measures : Lengths → Tables → Type 0
Measures t q = t ≡ lengths_of q t.records

unfoldable pub lengths_fit : Bool → ℕ → Lengths → Bool
lengths_fit pooled slots t =
    every (ltb slots t.lefts
    ∷ ltb slots t.rights
    ∷ ltb slots t.labels
    ∷ ltb (slots / 64) t.marks
    ∷ (not pooled || ltb slots t.next)
    ∷ [])

-- 12 for a queue with this control, records and all.
abbrev pub tables_fit : Control → Lengths → Bool
tables_fit c t = lengths_fit (is_pooled c) c.slots t && leb c.tasks t.records

-- What 12 and 13 see of the records that are lent, for one task.
abbrev pub among_many : Control → Lengths → ℕ → Lent
among_many c t task = record { enough = leb c.tasks t.records; known = ltb task c.tasks }

-- Of the rules of control and tables those that the word for pooled decides: 34 for itself, 12 for the next table.
abbrev pub next_rules : ℕ → ℕ → ℕ → List Rule
next_rules pooled slots next = rule 34 (not (leb pooled 1)) ∷ rule 12 (not (not (eqb pooled 1) || ltb slots next)) ∷ []
