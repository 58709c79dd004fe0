-- Every label is accounted for, of threads as of lists.
use Rattle.model.{specs.History.ledger, proofs.Ledger.Opened.nobody}
use Rattle.stock_model.proofs.{Accounts.{accounted, added_up}, Balance.all_fit, Held.every-stands}
use Rattle.threads_model.specs.{Turns.final_turns, Crew.{all_free, turns}}
use Rattle.threads.specs.{Promises.seen_of, Consequences.{InstructionsAccounted, LabelsCounted}}
use Rattle.threads.proofs.{Lists.EarlyPush.after, Kept.{kept-turns, lawful, waiting}, Since.after-threads}

pub instructions_accounted : InstructionsAccounted
instructions_accounted = after-threads LabelsCounted (λ tasks pooled slots past q k l h.
    let es = seen_of past pooled slots q l in
    let end = final_turns q (turns pooled slots (all_free q) l) in
    let z = kept-turns tasks pooled slots past q k l h in
    let calls = lawful tasks pooled slots es end z in
    let waits = waiting tasks pooled slots es end z in
    record {
      each = accounted es end calls waits (every-stands (after 1 es) end (ledger es) z.matched z.good.safe (all_fit 1 nobody es tt));
      sum = added_up es end calls waits;
    })
