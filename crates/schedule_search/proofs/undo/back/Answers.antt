-- The row and the words stored.
use Rattle.layout.proofs.Rows.{record_put}
use Rattle.schedule_search.proofs.undo.back.Goals as goal

pub returns : goal.returns
returns c =
    let pair = c.args.rows.now.pair in
    λ i.
    record { tables = c.put_back.ensures i; records = record_put pair c.args.t c.args.k.row i }
