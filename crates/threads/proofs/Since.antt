-- What is kept since an opening, by plain starts and steps and by threads that come to rest; so threads are linearizable, and nobody is told 34.
use mathlib.Core.{Path.{◌≡◌, refl, subst}, Bool.{Bool, cond}, List.{List, []}}
use Prim.Native.Nat.{ℕ}
use native.Mathlib.Omega.{arith}
use lib.Dec.{eqb}
use borrow.Author.Tests.{eqb-true}
use Rattle.model.specs.Outcomes.{Opened, Refused}
use Rattle.model.specs.{Tables.Queue, Refusals.open_refusal, Lists.All}
use Rattle.model.specs.{Calls.{open_as, opened}, History.{Event, ledger_from}}
use Rattle.model.proofs.{Tests.Truth.split, Ledger.Opened.{nobody, open_good, some_slots}, Never34.open_safe}
use Rattle.model.proofs.Laws.Sizes as sizes
use Rattle.threads_model.specs.{Turns.{run_turns, final_turns}, Crew.{Act, Known, all_free, go_on, turns, told, owed}}
use Rattle.threads.specs.Promises.{AfterThreads, AsList, Since, opening, plain, threads, ThreadsLinearized}
use Rattle.threads.specs.Promises.{ThreadsNeverUnsound, seen_of, InstructionsStand, InstructionsLinearizable}
use Rattle.threads.specs.Promises.{InstructionsNever34}
use Rattle.threads.proofs.{Lists.{Append.{Fine, all_first, outcomes-sound}, EarlyPush.after}, Run.runs_on}
use Rattle.threads.proofs.{Follow.Relation.agrees, Kept.{Kept, kept-plain, kept-turns, lawful, waiting}}
use Rattle.threads.proofs.Resting.{kept-rest}

module _ (pooled : Bool) (tasks slots : ℕ) where
  abbrev Held : List Event → Queue → Type 0
  Held past q = Kept tasks (cond pooled 1 0) slots past q

  -- After an opening nothing is past.
  module _ (q : Queue) (tag : ℕ) where
    opened-kept : open_refusal pooled q tasks slots ≡ 0 → Held [] (opened pooled q tasks slots tag)
    unfolding after ledger_from opened
    opened-kept e =
        let m = open_good pooled q tasks slots tag (some_slots pooled q tasks slots e) in
        record {
          matched = m;
          good = record {
            position = 1;
            ledger = nobody;
            matched = m;
            safe = open_safe pooled q tasks slots tag e;
            long = sizes.open_fits pooled q tasks slots tag;
            count = refl;
            pool = refl;
            size = refl;
          };
        }

    open_kept : (open_as pooled q tasks slots tag).outcome ≡ Opened → Held [] (open_as pooled q tasks slots tag).queue
    unfolding open_as
    open_kept e = split (eqb (open_refusal pooled q tasks slots) 0)
        (λ z. rw z (opened-kept (eqb-true _ _ z)))
        (λ z. absurd (let f : Refused (open_refusal pooled q tasks slots) ≡ Opened = rw z at e in let w : ◌≡◌ {A = ℕ} 0 1 = cc in omega arith))

  since-kept : (past : List Event) (q : Queue) → Since pooled tasks slots past q → Held past q
  since-kept _ _ (opening q tag e) = open_kept q tag e
  since-kept _ _ (plain past q s os) = kept-plain tasks (cond pooled 1 0) slots past q (since-kept past q s) os
  since-kept _ _ (threads past q s l h idle) = kept-rest tasks (cond pooled 1 0) slots past q (since-kept past q s) l h idle

pub after-threads : (P : List Event → ℕ → ℕ → Queue → List Act → Type 0)
    → ((tasks pooled slots : ℕ) (past : List Event) (q : Queue) → Kept tasks pooled slots past q → (l : List Act) → All (Known tasks) l
    → P past pooled slots q l) → AfterThreads P
after-threads P f pooled tasks slots past q s l h = f tasks (cond pooled 1 0) slots past q (since-kept pooled tasks slots past q s) l h

pub instructions_stand : InstructionsStand
instructions_stand = after-threads (λ past. AsList) (λ tasks pooled slots past q k l h.
    let z = runs_on tasks pooled slots q k.good l h in
    record {
      memory = agrees tasks pooled slots (go_on pooled slots (all_free q) l) (final_turns q (turns pooled slots (all_free q) l)) z.sim;
      outcomes = z.outcomes;
    })

pub instructions_linearizable : InstructionsLinearizable
instructions_linearizable = after-threads ThreadsLinearized (λ tasks pooled slots past q k l h.
    let es = seen_of past pooled slots q l in
    let end = final_turns q (turns pooled slots (all_free q) l) in
    let z = kept-turns tasks pooled slots past q k l h in
    record { calls = lawful tasks pooled slots es end z; waits = waiting tasks pooled slots es end z })

pub instructions_never_34 : InstructionsNever34
instructions_never_34 = after-threads (λ past. ThreadsNeverUnsound) (λ tasks pooled slots past q k l h t.
    let z = runs_on tasks pooled slots q k.good l h in
    all_first (told pooled slots (all_free q) l t) (owed ((go_on pooled slots (all_free q) l).hands t))
    (subst (All Fine) (z.outcomes t) (outcomes-sound t (run_turns q (turns pooled slots (all_free q) l)) z.sound)))
