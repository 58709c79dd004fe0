-- When no thread is in a call plain starts and steps go on.
use mathlib.Core.List.{List, ◌++◌}
use Prim.Native.Nat.{ℕ}
use Rattle.model.{specs.{Tables.Queue, History.{Event, final, ledger, run}, Lists.All}, proofs.Unsound.Runs.run_safe}
use Rattle.threads_model.specs.Crew.{Act, Known}
use Rattle.threads.specs.{Promises.{Rest, memory_after, seen_of}, Consequences.{InstructionsAtRest, RestsWell}}
use Rattle.threads.proofs.{Lists.EarlyPush.after, Kept.{Kept, kept-plain, lawful, waiting}, Since.after-threads}
use Rattle.threads.proofs.Resting.{kept-rest, same}

rests_well : (tasks pooled slots : ℕ) (past : List Event) (q : Queue) → Kept tasks pooled slots past q → (l : List Act) → All (Known tasks) l
    → Rest pooled slots q l → RestsWell past pooled slots q l
rests_well tasks pooled slots past q k l h idle =
    let m = memory_after pooled slots q l in
    let es = seen_of past pooled slots q l in
    let g = kept-rest tasks pooled slots past q k l h idle in
    record {
      same = same tasks pooled slots past q k l h idle;
      goes_on = λ os.
          let fs = es ++ run m os in
          let z = kept-plain tasks pooled slots es m g os in
          record {
            calls = lawful tasks pooled slots fs (final m os) z;
            waits = waiting tasks pooled slots fs (final m os) z;
            never = (run_safe os (after 1 es) m (ledger es) g.matched g.good.safe).0.operations;
          };
    }

pub instructions_at_rest : InstructionsAtRest
instructions_at_rest = after-threads (λ past pooled slots q l. Rest pooled slots q l → RestsWell past pooled slots q l) rests_well
