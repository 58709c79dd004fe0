-- The search row by row finds the first broken pair of all in order.
use mathlib.Core.{Bool.{Bool, cond}, List.{List, ◌++◌, map}, Path.{◌≡◌, refl, ap, ◌∙◌}}
use Prim.Native.Nat.{ℕ, zero, suc, ◌+◌}
use lib.ListN.{length}
use Rattle.model.specs.declared.Entry.{Entry}
use Rattle.sheet_model.specs.{declared.SheetReply.SheetReply, Sheet.{Sheet, breaks}}
use Rattle.sheet_model.specs.Verdict.{Pair, broken_by, first_broken, pairs, places, verdict}
use Rattle.sheet.specs.Search.{in_row, in_rows}

module _ (p : ℕ → ℕ → Bool) where
  row_is : (a b n : ℕ) (l : List Pair)
      → first_broken p (map (λ (x : ℕ). record { first = a; second = x }) (places b n) ++ l) ≡ in_row p a b n (first_broken p l)
  unfolding first_broken places in_row
  row_is a b zero l = refl
  row_is a b (suc n) l = ap (λ (x : SheetReply). cond (p a b) (broken_by a b) x) (row_is a (b + 1) n l)

  rows_are : (m a n : ℕ) → first_broken p (pairs (places a n) (places 1 m)) ≡ in_rows p m a n
  unfolding first_broken places pairs in_rows
  rows_are m a zero = refl
  rows_are m a (suc n) = row_is a 1 m (pairs (places (a + 1) n) (places 1 m)) ∙ ap (in_row p a 1 m) (rows_are m (a + 1) n)

pub verdict-is : (s : Sheet) (l : List Entry) → verdict s l ≡ in_rows (breaks s l) (length s.listed) 1 (length s.listed)
unfolding verdict
verdict-is s l = rows_are (breaks s l) (length s.listed) 1 (length s.listed)
