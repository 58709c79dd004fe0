-- Each row is that of its record.
use Rattle.std.proofs.Common.{[], rules}
use Rattle.model.specs.Tables.{unused}
use Rattle.executive.proofs.Pair.{records_at}
use Rattle.executive.proofs.held.rows_of.Goals as goal

pub returns : goal.returns
returns c = records_at _ _ (search rules) (λ i h. (c.map.ensures.items.at i unused [] (search rules)).2.met)
