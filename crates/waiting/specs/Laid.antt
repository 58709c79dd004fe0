-- The tables as a loop writes them, slot by slot along the links.
use mathlib.Core.{Path.◌≡◌, Bool.{Bool, true, cond}, List.{List, [], ◌∷◌}}
use Rattle.std.specs.Prelude.{ℕ, zero, suc, ◌+◌, ◌-◌, ◌<◌, ◌≤◌, get_or, length, set}
use Rattle.word.specs.Link.{link_of}
use Rattle.model.specs.{declared.Entry.Entry, Lists.All, Sound.from1}
use Rattle.walk.specs.declared.Way.{Way}

-- The entries of n slots from slot x along the links.
unfoldable pub trail : List ℕ → List ℕ → ℕ → ℕ → List Entry
trail links labels zero x = []
trail links labels (suc n) x = record { slot = x; label = get_or labels x 0 } ∷ trail links labels n (link_of (get_or links x 0)).slot

-- Where the i-th of n goes: upwards from place 0, or downwards to it.
abbrev pub place : Bool → ℕ → ℕ → ℕ
place up n i = cond up i (n - 1 - i)

-- Some numbers stored from the i-th of n on.
unfoldable pub laid : Bool → ℕ → ℕ → List ℕ → List ℕ → List ℕ
laid up n i [] t = t
laid up n i (x ∷ xs) t = laid up n (i + 1) xs (set t (place up n i) x)

-- No entry's slot is above slots.
abbrev pub Inside : ℕ → List Entry → Type 0
Inside slots l = All (λ (e : Entry). e.slot ≤ slots) l

-- What the loop relies on: rows 0 to slots, room for n, and n slots of which none is above slots.
pub record Lays (w : Way) (n : ℕ) (links labels slots copies : List ℕ) : Type 0 where
  pub link_rows : w.slots < length links
  pub label_rows : w.slots < length labels
  pub room : (n ≤ length slots) × (n ≤ length copies)
  pub inside : Inside w.slots (trail links labels n w.first)

-- What the walk relies on: a first slot, and rows 0 to slots.
pub record Walks (w : Way) (lefts rights labels : List ℕ) : Type 0 where
  pub on : from1 w.slots w.first ≡ true
  pub left_rows : w.slots < length lefts
  pub right_rows : w.slots < length rights
  pub label_rows : w.slots < length labels
