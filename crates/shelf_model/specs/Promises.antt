-- What is promised of a queue that was saved and returned to: what is promised of its past. (Document 02, #109.)
use Rattle.std.specs.Prelude.{Ok}
use mathlib.Core.{Path.◌≡◌, Bool.true, List.List, Logic.◌≢◌}
use Rattle.std.specs.Prelude.{ℕ, ◌<◌, ◌≤◌, length}
use Rattle.model.specs.Outcomes.{Refused}
use Rattle.model.specs.{declared.Report.Report, Tables.{Queue, is_pooled, record_at}}
use Rattle.model.specs.{Walk.{contents, entries}, Standing.Standing, Report.report, Solo.solo_run, Lists.All}
use Rattle.model.specs.{Neighbours.NeighboursIn, Retries.{old_count, retries_below}}
use Rattle.model.specs.History.{LedgerCall, Event, Lawful, MarkedIn, NoFreeSlotIn, Request, Taken, ledger, run}
use Rattle.model.specs.Progress.{AnsweredWithin, Busy, any, limit, steps, stretch_limit, took_effect_or_answered}
use Rattle.stock_model.specs.Accounts.{AccountedIn, AddedUp}
use Rattle.shelf_model.specs.Shelves.{return_refusal, save_refusal}
use Rattle.shelf_model.specs.Changeovers.{AfterTurns, Explained, Turn, World, events_of, unbroken}

-- Demand 3: the sequential deque has served what was done up to the saving and what follows the return.
pub record ServedSoFar (w : World) (i : ℕ) : Type 0 where
  pub calls : All (λ (c : LedgerCall). Lawful c c.ending) (ledger (w.pasts i).events).calls
  pub waits : contents (w.queues i).tables ≡ entries (ledger (w.pasts i).events).deque

-- 34 never occurs: not at a start or step, not at those that may follow, not at a task stepped until it answers, not at a call that walks, not at
-- a report, which tells the length of its queue, not at a saving.
pub record Never34 (w : World) (i : ℕ) : Type 0 where
  pub operations : All (λ (e : Event). e.outcome ≡ Refused 34 → ⊥) (w.pasts i).events
  pub following : (os : List Request) → All (λ (e : Event). e.outcome ≡ Refused 34 → ⊥) (run (w.queues i) os)
  pub runs : (n t : ℕ) → (solo_run n (w.queues i) t).outcome ≢ Refused 34
  pub walks : Standing (w.queues i) (ledger (w.pasts i).events).deque
  pub told : Report
  pub is : report (w.queues i) ≡ Ok told
  pub waiting : told.waiting ≡ length (ledger (w.pasts i).events).deque
  pub saving : (n : ℕ) → save_refusal (w.queues i) w.shelves n ≢ 34

-- #108: a busy task alone answers within its limit; a stretch as long as its limit holds an effect or an answer.
pub record Progresses (w : World) (i : ℕ) : Type 0 where
  pub solo : let q = w.queues i in (t n : ℕ) → Busy q t → let most = limit (is_pooled q.tables.control) (record_at q t).kind in
      most ≤ n → AnsweredWithin most (solo_run n q t)
  pub stretch : let c = (w.queues i).tables.control in (l : List Turn) → unbroken i w l ≡ true
      → stretch_limit (is_pooled c) c.tasks ≤ steps (events_of i w l) → any took_effect_or_answered (events_of i w l) ≡ true

pub record Promised (w : World) (i : ℕ) : Type 0 where
  -- Its past begins with an accepted opening, and leaves it as it stands.
  pub explained : Explained (w.pasts i) (w.queues i)
  pub served : ServedSoFar w i
  pub sound : Never34 w i
  -- #101: the counts of the tasks add up to the old count.
  pub retries : let p = w.pasts i in old_count 0 p.opened p.since < 4294967295
      → retries_below (w.queues i) (w.queues i).tables.control.tasks ≡ old_count 0 p.opened p.since
  pub progress : Progresses w i
  -- #104: *no slot* means that every slot is waiting or held.
  pub no_free_slot_lem : NoFreeSlotIn (w.queues i)
  -- A slot's mark is set exactly while the slot is taken.
  pub marks : MarkedIn Taken (w.queues i)
  -- Only at the end that the status names may the neighbour's link back be unfinished.
  pub neighbours : NeighboursIn (w.queues i).tables
  -- #114: every label of that history is accounted for in the queue as it stands, and all of them add up.
  pub accounted : AccountedIn (w.pasts i).events (w.queues i)
  pub stock : AddedUp (w.pasts i).events (w.queues i)

-- Every queue that is made keeps them; and no return is refused 34, into whatever tables.
pub record Kept (w : World) : Type 0 where
  pub promised : (i : ℕ) → (w.pasts i).made ≡ true → Promised w i
  pub returning : (q : Queue) (n : ℕ) → return_refusal q w.shelves n ≢ 34

abbrev pub Promises : Type 0
Promises = AfterTurns Kept
