-- Where a call that walks may rely on the queue, and so after any accepted opening and any list: never 34, and the positions are those in the
-- sequential deque's queue.
use mathlib.Core.{Path.{◌≡◌, refl}, Bool.{Bool, true, false, cond}}
use lib.{Dec.{ltb, eqb}, ListN.length}
use Rattle.model.specs.{Tables.is_pooled, Sound.{row_tests, rows_fit}, Report.waiting, Refusals.records_fit}
use Rattle.model.proofs.{Tests.{Truth.and-true, Rules.tests}, Standing.standing}
use Rattle.find_model.specs.Find.{Finds, RowsWaiting, StandingFinds, find, find_refusal, found, refused}

pub standing_finds : StandingFinds
unfolding find find_refusal rows_fit
standing_finds q d s wanted =
    let c = q.tables.control in
    let pooled = is_pooled c in
    let long = (and-true (rows_fit pooled c.slots q.tables) (records_fit c.tasks q) s.long).0 in
    let rows = tests (row_tests pooled c.slots q.tables) long in
    rw (s.control, rows.0, rows.1.0, rows.1.1.0, rows.1.1.1.0, s.walk) (go (ltb 32 (length wanted)))
  where
    go : (b : Bool) → cond (eqb (cond b 45 0) 0) (found d wanted) (refused (cond b 45 0)) ≡ cond b (refused 45) (found d wanted)
    go true = refl
    go false = refl

pub finds : Finds
finds pooled q tasks slots tag e os wanted = standing_finds _ _ (standing pooled q tasks slots tag e os) wanted

pub rows-waiting : RowsWaiting
unfolding find found waiting
rows-waiting q wanted e = rw e
