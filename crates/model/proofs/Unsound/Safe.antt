-- What holds between two operations besides the invariant, so that no test of soundness ever fails.
use mathlib.Core.{Bool.true, Logic.◌≢◌, Path.◌≡◌}
use Prim.Native.Nat.{◌+◌, ◌<◌, ◌≤◌, ℕ}
use Rattle.model.specs.{Sound.control_sound, Tables.{Queue, is_pooled, record_at}}
use Rattle.model.proofs.{Invariant.{Fields.Extra, Tags.{Tags, cost, share, weight}}, Tags.Sum.total}
use Rattle.model.proofs.Bridge.{Facts.RecordFine, View.{state_of, view}}

pub record Safe (q : Queue) : Type 0 where
  -- Control and Anchor are sound,
  pub control : control_sound q.tables.control ≡ true
  -- Every busy record has its fields within their meaning.
  pub fine : (t : ℕ) → t < q.tables.control.tasks → (record_at q t).place ≢ 0
      → RecordFine (is_pooled q.tables.control) q.tables.control.slots (record_at q t)
  -- And what its place needs besides the invariant: a real neighbour at 7 to 9, a real end at 11.
  pub extra : (t : ℕ) → Extra ((state_of q).task t).place ((state_of q).task t)
  -- No link's tag is above Anchor's.
  pub tags : Tags (view q.tables)
  -- Anchor's tag, with the changes that are still to come, fits 32 bits.
  pub bound : weight (view q.tables) + total (λ u. cost ((state_of q).task u)) q.tables.control.tasks ≤ 4294967295
  -- And the head's tag is not ahead of it by more than the tasks' shares.
  pub head : (view q.tables).head.tag + total (λ u. share ((state_of q).task u)) q.tables.control.tasks ≤ (view
      q.tables).anchor.tag + q.tables.control.tasks
