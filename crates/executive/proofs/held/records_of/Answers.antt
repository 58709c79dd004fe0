-- Each record is that of its row.
use Rattle.std.proofs.Common.{[], sym, rules}
use Rattle.model.specs.Tables.{unused}
use Rattle.executive.proofs.Pair.{records_at}
use Rattle.executive.proofs.held.records_of.Goals as goal

pub returns : goal.returns
returns c = sym (records_at _ _ (search rules) (λ i h. sym (c.map.ensures.items.at i [] unused (search rules)).2.met))
