-- What saving and returning keep, for any queues and shelves. (Document 02, #109.)
use mathlib.Core.{List.List, Logic.◌≢◌, Path.◌≡◌}
use Rattle.std.specs.Prelude.{ℕ, ◌≤◌}
use Rattle.model.specs.{Tables.Queue, History.{Request, run}}
use Rattle.shelf_model.specs.{Cut.cut, Shelves.{Shelves, return_refusal, returned, save_refusal, saved, shelf_at}}

-- A refusal changes nothing.
abbrev pub RefusalKeeps : Type 0
RefusalKeeps = (q : Queue) (s : Shelves) (n : ℕ)
    → (save_refusal q s n ≢ 0 → saved q s n ≡ s) × (return_refusal q s n ≢ 0 → returned q s n ≡ q)

-- A saving leaves the other shelves.
abbrev pub OthersKept : Type 0
OthersKept = (q : Queue) (s : Shelves) (n m : ℕ) → m ≤ 7 → m ≢ n → shelf_at (saved q s n) m ≡ shelf_at s m

-- A return to what was just saved, into whatever tables, gives the queue back within its lengths.
abbrev pub RoundTrip : Type 0
RoundTrip = (q p : Queue) (s : Shelves) (n : ℕ) → save_refusal q s n ≡ 0 → return_refusal p (saved q s n) n ≡ 0
    → cut (returned p (saved q s n) n) ≡ cut q

-- What lies beyond the lengths matters to nobody: queues that are alike within them answer alike.
abbrev pub BeyondIgnored : Type 0
BeyondIgnored = (q p : Queue) (os : List Request) → cut q ≡ cut p → run q os ≡ run p os
