-- A word, then a number.
use Rattle.lines.proofs.Puts.{put-more}
use Rattle.lines.specs.Line.{numbered}
use Rattle.lines.proofs.number.put_numbered.Goals as goal

pub returns-clause-put : goal.returns-clause-put
unfolding numbered
returns-clause-put c = put-more c.put_text-a.ensures c.put_decimal.ensures.put
