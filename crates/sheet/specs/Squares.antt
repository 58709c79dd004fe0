-- The chained rules as a square of marks, and the loops that fill it. (Document 02, #111 and #112.)
use mathlib.Core.{Bool.{Bool, ◌&&◌, not, cond}, List.{List, [], ◌∷◌}}
use Rattle.std.specs.Prelude.{ℕ, zero, suc, ◌+◌, ◌-◌, ◌/◌, ◌%◌, ◌^◌}
use lib.{Bits.bit_or, Dec.{eqb, leb}, ListN.{get_or, set}}
use Rattle.sheet_model.specs.{Sheet.{before, after}, Words.{list_of, mark}}

-- A square of 32 by 32 marks, one byte each; row a, column b belong to places a + 1, b + 1.
unfoldable pub square_of : (ℕ → ℕ → Bool) → List (List ℕ)
square_of f = list_of (λ a. list_of (λ b. mark (f a b)) 32) 32

-- One element after the other is replaced, n of them from i on.
unfoldable pub sweep : {A : Type 0} → A → (ℕ → A → A) → ℕ → ℕ → List A → List A
sweep z h i zero l = l
sweep z h i (suc n) l = sweep z h (i + 1) n (set l i (h i (get_or l i z)))

-- A kind of row: the row with no mark, whether a mark is set, a mark set, and the marks of two rows.
pub record Row (A : Type 0) : Type 0 where
  pub bare : A
  pub has : A → ℕ → Bool
  pub put : A → ℕ → A
  pub join : A → A → A

-- Rows of bytes.
abbrev pub ored : List ℕ → ℕ → ℕ → ℕ
ored via j x = bit_or x (get_or via j 0)

unfoldable pub join_row : List ℕ → List ℕ → List ℕ
join_row via row = sweep 0 (ored via) 0 32 row

abbrev pub byte_row : Row (List ℕ)
byte_row = record { bare = []; has = λ row k. not (eqb (get_or row k 0) 0); put = λ row j. set row j 1; join = join_row }

-- Rows of bits.
abbrev pub bit_row : Row ℕ
bit_row = record { bare = 0; has = λ w k. eqb (w / 2 ^ k % 2) 1; put = λ w j. bit_or w (2 ^ j); join = λ via w. bit_or w via }

-- Squares of either kind.
module _ {A : Type 0} (r : Row A) where
  -- A rule marks its pair.
  abbrev pub rule_marked : ℕ → List A → List A
  rule_marked w m = set m (before w - 1) (r.put (get_or m (before w - 1) r.bare) (after w - 1))

  unfoldable pub rules_marked : List ℕ → List A → List A
  rules_marked [] m = m
  rules_marked (w ∷ l) m = rules_marked l (rule_marked w m)

  -- Round k: each of the first size rows that has place k + 1 marked gets that place's row.
  abbrev pub join_via : ℕ → A → ℕ → A → A
  join_via k via i row = cond (r.has row k) (r.join via row) row

  unfoldable pub rounds : ℕ → ℕ → ℕ → List A → List A
  rounds size k zero m = m
  rounds size k (suc n) m = rounds size (k + 1) n (sweep r.bare (join_via k (get_or m k r.bare)) 0 size m)

  -- A pair marked in the square, with the second's lowest position at or below the first's highest; places from 1.
  abbrev pub crossed : List A → List ℕ → List ℕ → ℕ → ℕ → Bool
  crossed m low high a b = r.has (get_or m (a - 1) r.bare) (b - 1) && leb (get_or low (b - 1) 0) (get_or high (a - 1) 0)
