-- A table of which the first i entries are changed.
use mathlib.Core.{Path.{◌≡◌, refl, sym, ap}, List.{List, [], ◌∷◌, map}}
use Prim.Native.Nat.{ℕ, zero, suc, ◌<◌, ◌≤◌}
use native.Mathlib.Omega.{arith}
use lib.ListN.{length, get_or, set}
use Rattle.find.specs.Looked.{turning}

module _ (f : ℕ → ℕ) where
  pub turn_more : (i : ℕ) (l : List ℕ) → i < length l → set (turning f i l) i (f (get_or (turning f i l) i 0)) ≡ turning f (suc i) l
  turn_more i [] h = absurd (omega arith)
  turn_more zero (x ∷ l) h = refl
  turn_more (suc i) (x ∷ l) h = ap (λ (m : List ℕ). f x ∷ m) (turn_more i l (omega arith))

  pub turn_at : (i : ℕ) (l : List ℕ) → get_or (turning f i l) i 0 ≡ get_or l i 0
  turn_at zero l = refl
  turn_at (suc i) [] = refl
  turn_at (suc i) (x ∷ l) = turn_at i l

  -- Where nothing beyond changes, all are changed.
  pub turn_all : (i : ℕ) (l : List ℕ) → ((j : ℕ) → i ≤ j → j < length l → f (get_or l j 0) ≡ get_or l j 0) → turning f i l ≡ map f l
  turn_all zero [] h = refl
  turn_all zero (x ∷ l) h =
      (λ j. sym (h 0 (omega arith) (omega arith)) j ∷ turn_all zero l (λ k a b. h (suc k) (omega arith) (omega arith)) j)
  turn_all (suc i) [] h = refl
  turn_all (suc i) (x ∷ l) h = ap (λ (m : List ℕ). f x ∷ m) (turn_all i l (λ k a b. h (suc k) (omega arith) (omega arith)))
