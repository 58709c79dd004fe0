-- A stretch of one table put into another: how a table goes on a shelf and comes back.
use mathlib.Core.{Bool.{◌&&◌, cond}, List.List}
use Rattle.std.specs.Prelude.{ℕ, ◌*◌, ◌/◌, Option, Some, None}
use lib.{Dec.leb, ListN.{drop, length}, Seq.paste}

-- k entries from `start` on, put at `at`.
unfoldable pub pasted : {A : Type 0} → List A → ℕ → List A → ℕ → ℕ → List A
pasted from start to at k = paste to at (drop start from) k

-- Where the first k entries of a table begin on shelf n, if they fit there and in the table; by the lengths of the shelves and of the table.
unfoldable pub on_shelf : ℕ → ℕ → ℕ → ℕ → Option ℕ
on_shelf n k shelves table = cond (leb n 7 && leb k (shelves / 8) && leb k table) (Some (n * (shelves / 8))) None

-- What a copy of a stretch makes of a table, by where it begins; the table as it is, where it does not fit.
abbrev pub if_fits : {A : Type 0} → Option ℕ → (ℕ → List A) → List A → List A
if_fits (Some start) copied to = copied start
if_fits None copied to = to

-- The first k entries of a table put on shelf n, and put back from there.
unfoldable pub put_on : {A : Type 0} → ℕ → ℕ → List A → List A → List A
put_on n k from to = if_fits (on_shelf n k (length to) (length from)) (λ at. pasted from 0 to at k) to

unfoldable pub put_back : {A : Type 0} → ℕ → ℕ → List A → List A → List A
put_back n k from to = if_fits (on_shelf n k (length from) (length to)) (λ start. pasted from start to 0 k) to
