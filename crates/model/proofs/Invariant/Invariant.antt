-- The invariant of the decoded machine and the book side by side.
use mathlib.Core.Path.{◌≡◌}
use Prim.Native.Nat.{◌≤◌, ℕ}
use Rattle.model.proofs.{Machine.Book.{Both, Honoured}, Invariant.{Owners.{Owner, Intact, shows}, Tasks.Task}}
use Rattle.model.specs.Lists.{All}

pub record Inv (p : Both) : Type 0 where
  pub owner : ℕ → Owner
  -- The queue is linked as the sequential deque says,
  pub whole : Intact p.state.shared owner p.book.queue
  -- Every task is where its place says,
  pub tasks : (t : ℕ) → Task (p.state.task t).place p.state.shared owner t (p.state.task t) (p.book.calls t)
  -- Every slot is marked as its owner says,
  pub marks : (x : ℕ) → x ≤ p.state.shared.slots → p.state.shared.mark x ≡ shows p.state.task (owner x)
  -- And every call that was answered had one effect, with the sequential deque's reply for an answer.
  pub kept : All Honoured p.book.closed
