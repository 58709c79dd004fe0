-- Where each listed label waits: the lowest and the highest of its positions, as one walk finds them.
use mathlib.Core.{Bool.{Bool, cond}, List.{List, [], ◌∷◌}}
use Rattle.std.specs.Prelude.{ℕ, suc, ◌+◌, ◌-◌, replicate, Option, None, Some, Result, Ok, Err}
use lib.{Dec.{ltb, eqb}, ListN.{get_or, set}}
use Rattle.model.specs.{declared.Entry.Entry, Walk.Walk}
use Rattle.walk.specs.{declared.{Unsound.Unsound, Way.Way}, Ways.ahead}
use Rattle.walk.specs.Over.{Made, made, lost, over}
use Rattle.sheet.specs.declared.extents.Extents.{Extents}

-- Each listed label's lowest and highest position, 1 to 1,023, and 1,024 and 0 where it doesn't wait. Positions rise to the right, and only their order
-- counts: a walk from the right calls the last label 1,023, however many wait. Here no label waits.
abbrev pub unseen : Extents
unseen = record { low = replicate 32 1024; high = replicate 32 0 }

-- The same on the way, with the position of the next label met.
pub record Noting : Type 0 where
  pub at : ℕ
  pub low : List ℕ
  pub high : List ℕ

-- The place of x in a list, from 0; its length where x isn't there.
unfoldable pub place_of : ℕ → List ℕ → ℕ
place_of x [] = 0
place_of x (y ∷ l) = cond (eqb x y) 0 (suc (place_of x l))

abbrev pub lower : ℕ → ℕ → ℕ
lower at x = cond (ltb at x) at x

abbrev pub higher : ℕ → ℕ → ℕ
higher at x = cond (ltb x at) at x

-- Positions rise along a walk from the left and fall along one from the right.
abbrev pub first_at : Bool → ℕ
first_at up = cond up 1 1023

abbrev pub next_at : Bool → ℕ → ℕ
next_at up at = cond up (at + 1) (at - 1)

abbrev pub begun : Bool → Extents → Noting
begun up e = record { at = first_at up; low = e.low; high = e.high }

-- A label met. One that isn't listed counts at the place after the last.
abbrev pub noted : Bool → List ℕ → Noting → Entry → Noting
noted up listed s y =
    let k = place_of y.label listed in
    record {
      at = next_at up s.at;
      low = set s.low k (lower s.at (get_or s.low k 0));
      high = set s.high k (higher s.at (get_or s.high k 0));
    }

abbrev pub ended : Made Noting → Made Extents
ended (made s) = made (record { low = s.low; high = s.high })
ended lost = lost

-- Of a walk, from the left or from the right.
abbrev pub gathered : Bool → List ℕ → Extents → Walk → Made Extents
gathered up listed e v = ended (over (noted up listed) (begun up e) v)

-- Of the labels waiting, by where their walk begins.
unfoldable pub extents : Result (Option Way) Unsound → List ℕ → List ℕ → List ℕ → List ℕ → Extents → Made Extents
extents (Ok None) listed lefts rights labels e = made e
extents (Err u) listed lefts rights labels e = lost
extents (Ok (Some w)) listed lefts rights labels e = gathered w.rightward listed e (ahead w lefts rights labels)

-- As the code tells it; of a broken walk nothing counts.
abbrev pub told : Result (Unit {0}) Unsound → Extents → Made Extents
told (Ok u) e = made e
told (Err u) e = lost
