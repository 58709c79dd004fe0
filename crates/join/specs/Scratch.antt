-- What the third's link tables hold while the labels are merged: the slots of a lane, read from its right end.
use mathlib.Core.{Bool.cond, List.{List, [], ◌∷◌}}
use Rattle.std.specs.Prelude.{ℕ, zero, suc, ◌-◌, ◌<◌}
use lib.{Dec.ltb, ListN.{get_or, length}}
use Rattle.word.specs.Link.{link_of}
use Rattle.join_model.specs.Closed.{right_of}

-- The slot that so many links lead to from slot x.
unfoldable pub trail : List ℕ → ℕ → ℕ → ℕ
trail links x zero = x
trail links x (suc n) = trail links (link_of (get_or links x 0)).slot n

-- The first n slots of it have rows among the links.
abbrev pub InRows : List ℕ → ℕ → ℕ → Type 0
InRows links x n = (k : ℕ) → k < n → trail links x k < length links

-- Row k: the k-th slot of a walk that begins at a slot.
abbrev pub walked_to : List ℕ → ℕ → ℕ → ℕ
walked_to links end k = trail links end (k - 1)

-- The label of the slot in row k.
abbrev pub label_via : List ℕ → List ℕ → ℕ → ℕ
label_via labels slots k = get_or labels (get_or slots k 0) 0

-- What rows n down to 1 hold.
abbrev pub rows_down : (ℕ → ℕ) → ℕ → List ℕ
rows_down f zero = []
rows_down f (suc n) = f (suc n) ∷ rows_down f n

-- The Right of slot k where n slots are linked: the last one's is 0.
abbrev pub right_to : ℕ → ℕ → ℕ
right_to n k = cond (ltb k n) (right_of k) 0
