-- What is kept of a queue and its past, by plain starts and steps and by the turns of threads.
use mathlib.Core.{Path.{◌≡◌, ap, refl, subst₂, sym, ◌∙◌}, List.{List, [], ◌∷◌, ◌++◌}}
use Prim.Native.Nat.{ℕ, suc}
use Rattle.model.specs.{Tables.Queue, Calls.act, Walk.{contents, entries}, Lists.All}
use Rattle.model.specs.History.{Event, Lawful, Ledger, LedgerCall, Request, final, ledger, ledger_from, note, run}
use Rattle.model.proofs.{Bridge.View.state_of, Ledger.Waiting.waits}
use Rattle.model.proofs.Ledger.{EveryOperation.act_good, Lawful.all_lawful, Matched.Matched, Opened.nobody}
use Rattle.threads_model.specs.{Turns.{run_turns, final_turns}, Crew.{Act, Known, all_free, turns}}
use Rattle.threads.specs.Promises.{seen_of}
use Rattle.threads.proofs.{Lists.EarlyPush.{after, turns_good}, Follow.Good.{Good, good_act}, Run.runs_on}

-- A ledger goes on over more events.
after_more : (es fs : List Event) (n : ℕ) → after n (es ++ fs) ≡ after (after n es) fs
unfolding after
after_more [] fs n = refl
after_more (e ∷ es) fs n = after_more es fs (suc n)

ledger-more : (es fs : List Event) (n : ℕ) (l : Ledger) → ledger_from n l (es ++ fs) ≡ ledger_from (after n es) (ledger_from n l es) fs
unfolding ledger_from after
ledger-more [] fs n l = refl
ledger-more (e ∷ es) fs n l = ledger-more es fs (suc n) (note n e e.outcome l)

matched_more : (es fs : List Event) (q : Queue) → Matched (after (after 1 es) fs) q (ledger_from (after 1 es) (ledger es) fs)
    → Matched (after 1 (es ++ fs)) q (ledger (es ++ fs))
matched_more es fs q g = subst₂ (λ (n : ℕ) (l : Ledger). Matched n q l) (sym (after_more es fs 1)) (sym (ledger-more es fs 1 nobody)) g

-- A queue, and the events since its opening: the invariant holds of it with the ledger of these.
pub record Kept (tasks pooled slots : ℕ) (past : List Event) (q : Queue) : Type 0 where
  pub matched : Matched (after 1 past) q (ledger past)
  pub good : Good tasks pooled slots q

-- Its calls are lawful, and its labels are the sequential deque's.
module _ (tasks pooled slots : ℕ) (es : List Event) (q : Queue) (k : Kept tasks pooled slots es q) where
  abbrev g : Matched (after 1 es) q (ledger es)
  g = k.matched

  pub lawful : All (λ (c : LedgerCall). Lawful c c.ending) (ledger es).calls
  lawful = all_lawful (after 1 es) q (ledger es) g (ledger es).calls g.tracks

  pub waiting : contents q.tables ≡ entries (ledger es).deque
  unfolding state_of
  waiting = waits q.tables g.links g.inv.owner g.book.queue g.inv.whole ∙ ap entries g.deque

  -- What holds of the queue, with this ledger.
  abbrev pub with_ledger : Good tasks pooled slots q
  with_ledger = record {
    position = after 1 es;
    ledger = ledger es;
    matched = g;
    safe = k.good.safe;
    long = k.good.long;
    count = k.good.count;
    pool = k.good.pool;
    size = k.good.size;
  }

plain_matched : (os : List Request) (n : ℕ) (q : Queue) (l : Ledger) → Matched n q l
    → Matched (after n (run q os)) (final q os) (ledger_from n l (run q os))
unfolding run final ledger_from after
plain_matched [] n q l g = g
plain_matched (o ∷ os) n q l g = plain_matched os (suc n) (act q o.task o.op).queue _ (act_good n q l g o.task o.op)

module _ (tasks pooled slots : ℕ) where
  plain_good : (os : List Request) (q : Queue) → Good tasks pooled slots q → Good tasks pooled slots (final q os)
  unfolding final
  plain_good [] q g = g
  plain_good (o ∷ os) q g = plain_good os (act q o.task o.op).queue (good_act tasks pooled slots q o.task o.op g)

  module _ (past : List Event) (q : Queue) (k : Kept tasks pooled slots past q) where
    pub kept-plain : (os : List Request) → Kept tasks pooled slots (past ++ run q os) (final q os)
    kept-plain os = record {
      matched = matched_more past (run q os) (final q os) (plain_matched os (after 1 past) q (ledger past) k.matched);
      good = plain_good os q k.good;
    }

    pub kept-turns : (l : List Act) → All (Known tasks) l
        → Kept tasks pooled slots (seen_of past pooled slots q l) (final_turns q (turns pooled slots (all_free q) l))
    kept-turns l h =
        let us = turns pooled slots (all_free q) l in
        record {
          matched = matched_more past (run_turns q us) (final_turns q us) (turns_good us (after 1 past) q (ledger past) k.matched);
          good = (runs_on tasks pooled slots q k.good l h).good;
        }
