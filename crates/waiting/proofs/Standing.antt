-- Where a call that walks may rely on the queue, and so after any accepted opening and any list: never 34, and what is written is the sequential
-- deque's queue.
use mathlib.Core.{Path.{◌≡◌, refl}, Bool.{Bool, true, false, cond}}
use lib.{Dec.eqb, ListN.length}
use Rattle.model.specs.{Tables.is_pooled, Sound.{row_tests, rows_fit}, Refusals.records_fit, Report.waiting}
use Rattle.model.proofs.{Tests.{Truth.and-true, Rules.tests}, Standing.standing}
use Rattle.waiting.specs.Waiting.{ReadsOut, StandingReadsOut, kept, read_out, too_short, waiting_refusal, written}

pub standing_reads_out : StandingReadsOut
unfolding read_out waiting_refusal waiting rows_fit
standing_reads_out q d s slots labels =
    let c = q.tables.control in
    let pooled = is_pooled c in
    let long = (and-true (rows_fit pooled c.slots q.tables) (records_fit c.tasks q) s.long).0 in
    let rows = tests (row_tests pooled c.slots q.tables) long in
    rw (s.control, rows.0, rows.1.0, rows.1.1.0, rows.1.1.1.0, s.walk) (go (too_short (length d) slots labels))
  where
    go : (b : Bool) → cond (eqb (cond b 12 0) 0) (written d slots labels) (kept (cond b 12 0) slots labels)
        ≡ cond b (kept 12 slots labels) (written d slots labels)
    go true = refl
    go false = refl

pub reads-out : ReadsOut
reads-out pooled q tasks slots tag e os out₁ out₂ = standing_reads_out _ _ (standing pooled q tasks slots tag e os) out₁ out₂
