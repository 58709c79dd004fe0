-- What a walk notes and finds.
use mathlib.Core.{Path.◌≡◌, Bool.{Bool, true, not}, List.{List, [], ◌∷◌}}
use Rattle.std.specs.Prelude.{ℕ, zero, suc, ◌+◌, ◌≤◌, length, Result, Ok, Err}
use Rattle.model.specs.{declared.Entry.Entry, Sound.from1, Walk.{Walk, entries, broken}, Refusals.{rule, first}}
use Rattle.walk.specs.{declared.{Unsound.Unsound, Way.Way}, Over.{Made, made, lost}}
use Rattle.find_model.specs.{declared.FindReply.FindReply, Find.{found, refused}, Noting.note}

-- The slots met, and the positions noted.
pub record Noted : Type 0 where
  pub count : ℕ
  pub positions : List ℕ

abbrev pub note_on : Bool → List ℕ → Noted → Entry → Noted
note_on foremost wanted s e = record { count = s.count + 1; positions = note foremost e.label (s.count + 1) wanted s.positions }

abbrev pub noted : Result ℕ Unsound → List ℕ → Made Noted
noted (Err u) ps = lost
noted (Ok n) ps = made (record { count = n; positions = ps })

-- What the walk relies on.
pub record Looks (w : Way) (wanted sieve positions : List ℕ) : Type 0 where
  pub at : from1 w.slots w.first ≡ true
  pub sieve_size : length sieve ≡ 16
  pub room : length wanted ≤ length positions

-- A table of which the first i entries are changed.
abbrev pub turning : (ℕ → ℕ) → ℕ → List ℕ → List ℕ
turning f zero l = l
turning f (suc i) [] = []
turning f (suc i) (x ∷ l) = f x ∷ turning f i l

-- What is found in a walk.
abbrev pub found_in : Walk → List ℕ → FindReply
found_in (entries l) wanted = found l wanted
found_in broken wanted = refused 34

-- What is answered: the rows or 34, with the positions that are left.
abbrev pub answered : Result ℕ Unsound → List ℕ → FindReply
answered (Ok n) ps = record { code = 0; rows = n; positions = ps }
answered (Err u) ps = record { code = 34; rows = 0; positions = ps }

-- The refusals before the walk, over tests already made.
unfoldable pub refusal_before : Bool → Bool → Bool → ℕ
refusal_before control many fits = first (rule 34 (not control) ∷ rule 45 many ∷ rule 12 (not fits) ∷ [])
