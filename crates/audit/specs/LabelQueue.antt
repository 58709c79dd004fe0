-- A plain queue of labels, held as the indices of the calls that pushed them: those of a buffer from index low up to, not including, high.
use mathlib.Core.{Bool.Bool, List.{List, ◌∷◌, map}, Path.◌≡◌}
use Rattle.std.specs.Prelude.{ℕ, ◌+◌, ◌-◌, ◌/◌, ◌<◌, ◌≤◌}
use lib.{ListN.{length, get_or}, Seq.slice}
use Rattle.model.specs.Deque.{seen_from}
use Rattle.audit_model.specs.{declared.Finished.Finished, Audit.{Given, agrees, nobody}, LentHistory.calls_in}

-- The label of the call at index k; the labels held.
abbrev pub label_at : List ℕ → ℕ → ℕ
label_at words k = (get_or (calls_in words) k nobody).label

abbrev pub held : List ℕ → ℕ → ℕ → List ℕ → List ℕ
held words low high buffer = slice low high (map (label_at words) buffer)

-- Room for 128, and nothing but indices of n calls, or 0.
pub record Holds (n : ℕ) (buffer : List ℕ) : Type 0 where
  pub size : length buffer ≡ 128
  pub calls : (j : ℕ) → get_or buffer j 0 ≤ n - 1

-- One call moves an end by one place at the most.
pub record Moved (low high low' high' : ℕ) : Type 0 where
  pub ends : low' ≤ high'
  pub left : low ≤ low' + 1
  pub right : high' ≤ high + 1

-- Index k is put at its side's end.
pub record Put (low high side k low' high' : ℕ) (before after : List ℕ) : Type 0 where
  pub queue_is : (f : ℕ → ℕ) → slice low' high' (map f after) ≡ seen_from side (f k ∷ seen_from side (slice low high (map f before)))
  pub moved : Moved low high low' high'
  pub holds : (n : ℕ) → k < n → Holds n before → Holds n after

-- Whether the call has the answer that is due, and the queue that is.
pub record Serves (words : List ℕ) (c : Finished) (low high : ℕ) (due : Given) (same : Bool) (low' high' : ℕ) (buffer : List ℕ) : Type 0 where
  pub same_is : same ≡ agrees c.answer c.label due.answer due.label
  pub queue_is : held words low' high' buffer ≡ due.queue
  pub moved : Moved low high low' high'
  pub holds : Holds (length words / 7) buffer
