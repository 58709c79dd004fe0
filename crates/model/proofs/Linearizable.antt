-- Demand 3: after any accepted opening, on any tables, every list of starts and steps is linearized.
use mathlib.Core.{Bool.Bool, List.List, Path.{◌∙◌, ◌≡◌, ap}}
use Prim.Native.Nat.{ℕ}
use Rattle.model.specs.{Calls.opened, Refusals.open_refusal, Walk.entries, Tables.Queue}
use Rattle.model.specs.History.{Linearizable, Linearized, Request, final, ledger, run}
use Rattle.model.proofs.{Bridge.View.state_of, Ledger.{EveryOperation.run_good, Lawful.all_lawful, Waiting.waits}}
use Rattle.model.proofs.{Ledger.Opened.{nobody, open_good, some_slots}, Openings.after-opening}

module _ (pooled : Bool) (q : Queue) (tasks slots tag : ℕ) where
  pub linearized : open_refusal pooled q tasks slots ≡ 0 → (os : List Request) → Linearized (opened pooled q tasks slots tag) os
  unfolding state_of
  linearized e os =
      let o = opened pooled q tasks slots tag in
      let g = run_good os 1 o nobody (open_good pooled q tasks slots tag (some_slots pooled q tasks slots e)) in
      let l = ledger (run o os) in
      record {
        calls = all_lawful g.0 (final o os) l g.1 l.calls g.1.tracks;
        waits = waits (final o os).tables g.1.links g.1.inv.owner g.1.book.queue g.1.inv.whole ∙ ap entries g.1.deque;
      }

pub linearizable : Linearizable
linearizable pooled = after-opening pooled Linearized (linearized pooled)
