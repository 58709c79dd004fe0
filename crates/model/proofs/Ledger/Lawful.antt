-- Calls that the book matches are lawful.
use mathlib.Core.{List.{List, [], ◌∷◌}, Path.◌≡◌}
use Prim.Native.Nat.{◌≤◌, ℕ}
use native.Mathlib.Omega.{arith}
use lib.ListN.{length}
use Rattle.model.specs.History.{AtMostOnce, LedgerCall, Effect, Ending, Lawful, Ledger, answered, pending}
use Rattle.model.specs.{Tables.{Queue, is_pooled}, Lists.All}
use Rattle.model.proofs.Places.AtMostOnce.{few_effects}
use Rattle.model.proofs.Ledger.{Matched.Matched, Matches.{Last, Tracked, Tracks}}

module _ (n : ℕ) (q : Queue) (l : Ledger) (g : Matched n q l) where
  lawful : (c : LedgerCall) (e : Ending) → Tracked (is_pooled q.tables.control) n g.book.calls c e → Lawful c e
  lawful c pending h = go c.effects h.count h.last
    where
      few : (g.book.calls c.task).effects ≤ 1
      few = few_effects _ g.inv c.task

      go : (es : List Effect) → (g.book.calls c.task).effects ≡ length es → Last n c (g.book.calls c.task) es → AtMostOnce c es
      go [] e f = tt
      go (x ∷ []) e f = f.begun
      go (x ∷ y ∷ es) e f = absurd (omega (arith, few))
  lawful c (answered m a) h = h

  pub all_lawful : (cs : List LedgerCall) → Tracks (is_pooled q.tables.control) n g.book.calls cs → All (λ (c : LedgerCall). Lawful c c.ending) cs
  all_lawful [] h = tt
  all_lawful (c ∷ cs) h = (lawful c c.ending h.0, all_lawful cs h.1)
