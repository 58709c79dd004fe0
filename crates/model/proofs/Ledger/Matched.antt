-- What holds between two operations: the invariant, and a ledger that the book matches.
use mathlib.Core.{Bool.{Bool, cond}, Path.◌≡◌}
use Prim.Native.Nat.{ℕ}
use Rattle.model.specs.{History.Ledger, Tables.{Queue, is_pooled}}
use Rattle.model.proofs.Machine.Book as B
use Rattle.model.proofs.Machine.Machine as M
use Rattle.model.proofs.{Invariant.Invariant.Inv, Bridge.{Facts.LinksFine, View.state_of}}
use Rattle.model.proofs.Ledger.Matches.{Tracks, opens}

abbrev pub busy_no : Bool → ℕ
busy_no b = cond b 0 1

-- Before position n.
pub record Matched (n : ℕ) (q : Queue) (l : Ledger) : Type 0 where
  pub book : B.Book
  pub inv : Inv (record { state = state_of q; book = book })
  pub links : LinksFine q.tables
  pub deque : book.queue ≡ l.deque
  pub tracks : Tracks (is_pooled q.tables.control) n book.calls l.calls
  pub busy : (t : ℕ) → opens t l.calls ≡ busy_no (M.is_idle ((state_of q).task t).place)
