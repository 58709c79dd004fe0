-- The numbers of the refusals in their order, whatever the queue and the shelves; and shelves as they are first lent. (Document 02, #109.)
use mathlib.Core.{Path.{◌≡◌, refl}, Bool.false, List.{List, [], ◌∷◌}}
use Prim.Native.Nat.{ℕ, zero, suc}
use lib.ListN.{get_or, replicate}
use Rattle.model.specs.{declared.{Control.Control, Record.Record}, Tables.{Queue, opened_control, with_words}}
use Rattle.model.proofs.Laws.Order.{numbers}
use Rattle.shelf_model.specs.Shelves.{Shelves, unfilled, save_rules, return_rules, return_refusal}
use Rattle.shelf_model.specs.Changeovers.{Unfilled}

pub order_of_saving : (q : Queue) (s : Shelves) (n : ℕ) → numbers (save_rules q s n) ≡ 34 ∷ 43 ∷ 12 ∷ []
order_of_saving q s n = refl

pub order_of_returning : (q : Queue) (s : Shelves) (n : ℕ) → numbers (return_rules q s n) ≡ 43 ∷ 44 ∷ 34 ∷ 12 ∷ []
order_of_returning q s n = refl

-- Shelves whose controls are so many of zeros.
abbrev zero_control : Control
zero_control = with_words (opened_control false 0 0 0) 0 0

abbrev lent : ℕ → List Record → List ℕ → List ℕ → List ℕ → List ℕ → List ℕ → Shelves
lent k rs ls ts bs ms ns =
    record { controls = replicate k zero_control; records = rs; lefts = ls; rights = ts; labels = bs; marks = ms; next = ns }

-- They are unfilled, however many there are: so what is promised of shelves first unfilled is promised of these.
tasks_zero : (k n : ℕ) → (get_or (replicate k zero_control) n unfilled).tasks ≡ 0
tasks_zero zero n = refl
tasks_zero (suc k) zero = refl
tasks_zero (suc k) (suc n) = tasks_zero k n

pub zeros_unfilled : (k : ℕ) (rs : List Record) (ls ts bs ms ns : List ℕ) → Unfilled (lent k rs ls ts bs ms ns)
zeros_unfilled k rs ls ts bs ms ns n = tasks_zero k n

-- A return to one of them is 44, and so is one to a shelf whose control is not lent.
pub never-filled : (q : Queue) (rs : List Record) (ls ts bs ms ns : List ℕ)
    → (return_refusal q (lent 8 rs ls ts bs ms ns) 7 ≡ 44) × (return_refusal q (lent 7 rs ls ts bs ms ns) 7 ≡ 44)
unfolding return_refusal
never-filled q rs ls ts bs ms ns = (refl, refl)
