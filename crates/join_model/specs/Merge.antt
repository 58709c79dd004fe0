-- The labels of two queues in one list. (Document 02, #113.)
use mathlib.Core.{Bool.{Bool, cond}, List.{List, [], ◌∷◌}}
use Rattle.std.specs.Prelude.{ℕ, ◌≤◌, leb}

-- Of the two leftmost remaining the smaller label goes next, the first queue's on a tie.
abbrev pub first_goes : ℕ → ℕ → Bool
first_goes x y = leb x y

abbrev pub merge : List ℕ → List ℕ → List ℕ
merge [] ys = ys
merge (x ∷ xs) [] = x ∷ xs
merge (x ∷ xs) (y ∷ ys) = cond (first_goes x y) (x ∷ merge xs (y ∷ ys)) (y ∷ merge (x ∷ xs) ys)

-- zs is made of xs and ys, each in its own order.
pub data Interleaved : List ℕ → List ℕ → List ℕ → Type 0 where
  neither : Interleaved [] [] []
  of_first : (x : ℕ) {xs ys zs : List ℕ} → Interleaved xs ys zs → Interleaved (x ∷ xs) ys (x ∷ zs)
  of_second : (y : ℕ) {xs ys zs : List ℕ} → Interleaved xs ys zs → Interleaved xs (y ∷ ys) (y ∷ zs)

-- Each label is at most the next one.
abbrev pub AtLeast : ℕ → List ℕ → Type 0
AtLeast x [] = Unit {0}
AtLeast x (y ∷ l) = (x ≤ y) × AtLeast y l

abbrev pub Ascending : List ℕ → Type 0
Ascending [] = Unit {0}
Ascending (x ∷ l) = AtLeast x l
