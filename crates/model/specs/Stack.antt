-- The stack of slots that a pooled opening makes. (Document 02, #104.)
use Rattle.std.specs.Prelude.{◌≡◌, ℕ, ◌+◌, ◌<◌, ◌≤◌, get_or}
use Rattle.word.specs.Link.{link_of}
use Rattle.model.specs.Outcomes.{Opened}
use Rattle.model.specs.{Tables.{Tables, Queue}, Calls.open_pooled}

-- Slot 1 is on top, with tag 0. Row n holds n + 1, rows 0 and slots hold 0; rows beyond keep their values.
pub record Stacked (slots : ℕ) (before after : Tables) : Type 0 where
  pub top : link_of after.control.head ≡ record { tag = 0; slot = 1 }
  pub rows : (n : ℕ) → 1 ≤ n → n < slots → get_or after.next n 0 ≡ n + 1
  pub none : get_or after.next 0 0 ≡ 0
  pub last : get_or after.next slots 0 ≡ 0
  pub beyond : (n : ℕ) → slots < n → get_or after.next n 0 ≡ get_or before.next n 0

abbrev pub PoolStacked : Type 0
PoolStacked = (q : Queue) (tasks slots tag : ℕ) → (open_pooled q tasks slots tag).outcome ≡ Opened
    → Stacked slots q.tables (open_pooled q tasks slots tag).queue.tables
