-- The positions of some labels among those waiting. (Document 02, #110.)
use mathlib.Core.{Path.◌≡◌, Bool.{false, not, cond}, List.{List, [], ◌∷◌, ◌++◌, map}}
use Rattle.std.specs.Prelude.{ℕ, suc, ◌+◌, ◌-◌, ◌<◌}
use lib.{Dec.{ltb, eqb}, ListN.{get_or, length, replicate}}
use Rattle.model.specs.{declared.Entry.Entry, Tables.{Tables, Queue}, Sound.{control_sound, rows_fit}, Report.waiting}
use Rattle.model.specs.{Walk.{CopyAt, contents, is_broken, met}, Refusals.{Rule, rule, first}, Standing.Standing}
use Rattle.model.specs.History.{AfterOpening, final, ledger, run}
use Rattle.find_model.specs.declared.FindReply.{FindReply}

-- The position of the leftmost entry with label x, where the list's first entry has position n; 0: not waiting.
unfoldable pub position_from : ℕ → ℕ → List Entry → ℕ
position_from n x [] = 0
position_from n x (e ∷ l) = cond (eqb e.label x) n (position_from (n + 1) x l)

-- A place counts from the left, beginning at 1.
abbrev pub position : List Entry → ℕ → ℕ
position l x = position_from 1 x l

-- 34 for control and Anchor, 45, 12, and 34 for the walk. 12 looks at no records, and at no next table: neither is lent.
abbrev pub find_rules : Tables → List ℕ → List Rule
find_rules q wanted =
    rule 34 (not (control_sound q.control))
    ∷ rule 45 (ltb 32 (length wanted))
    ∷ rule 12 (not (rows_fit false q.control.slots q))
    ∷ rule 34 (is_broken (contents q))
    ∷ []

unfoldable pub find_refusal : Tables → List ℕ → ℕ
find_refusal q wanted = first (find_rules q wanted)

-- What is found among the entries l: how many they are, and the positions of those asked for, 32 with the rest 0.
unfoldable pub found : List Entry → List ℕ → FindReply
found l wanted = record {
  code = 0;
  rows = length l;
  positions = map (position l) wanted ++ replicate (32 - length wanted) 0;
}

abbrev pub refused : ℕ → FindReply
refused n = record { code = n; rows = 0; positions = replicate 32 0 }

unfoldable pub find : Tables → List ℕ → FindReply
find q wanted =
    let why = find_refusal q wanted in
    cond (eqb why 0) (found (met (contents q)) wanted) (refused why)

-- What is told of label x among the entries l: the place of its leftmost copy, counted from 1; an absent one is not waiting, 0.
pub data Found (x : ℕ) (l : List Entry) : ℕ → Type 0 where
  leftmost : (i : ℕ) → CopyAt x l i → ((j : ℕ) → j < i → CopyAt x l j → ⊥) → Found x l (suc i)
  not_waiting : ((j : ℕ) → CopyAt x l j → ⊥) → Found x l 0

-- It is told of each label asked for.
abbrev pub FoundRight : Type 0
FoundRight = (l : List Entry) (wanted : List ℕ) (k : ℕ) → k < length wanted → Found (get_or wanted k 0) l (get_or (found l wanted).positions k 0)

-- Of a queue on which a call that walks may rely, as after a return to a shelf: over 32 labels are refused, never 34; else the positions are
-- those among its entries.
abbrev pub StandingFinds : Type 0
StandingFinds = (q : Queue) (d : List Entry) → Standing q d → (wanted : List ℕ)
    → find q.tables wanted ≡ cond (ltb 32 (length wanted)) (refused 45) (found d wanted)

-- After any list following an opening they are those in the sequential deque's queue.
abbrev pub Finds : Type 0
Finds =
    AfterOpening (λ q os. (wanted : List ℕ)
    → find (final q os).tables wanted ≡ cond (ltb 32 (length wanted)) (refused 45) (found (ledger (run q os)).deque wanted))

-- The walk's count of rows equals the number waiting.
abbrev pub RowsWaiting : Type 0
RowsWaiting = (q : Tables) (wanted : List ℕ) → find_refusal q wanted ≡ 0 → (find q wanted).rows ≡ waiting q
