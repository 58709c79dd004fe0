use Rattle.std.proofs.Common.{rules}
use Rattle.audit.proofs.Verdicts.{none_ordered, some_ordered}
use Rattle.audit.proofs.of_none.Goals as goal

pub returns-then-is_empty : goal.returns-then-is_empty
returns-then-is_empty c = none_ordered c.args.order.now (search rules)

pub returns : goal.returns
returns c = some_ordered c.args.order.now (search rules)
