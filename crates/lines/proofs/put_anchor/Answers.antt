-- A space, the digits, the line's end.
use Rattle.lines.proofs.Puts.{put-more}
use Rattle.lines.specs.Line.{anchor_text}
use Rattle.lines.proofs.put_anchor.Goals as goal

pub returns-clause-put : goal.returns-clause-put
unfolding anchor_text
returns-clause-put c = put-more (put-more c.put-a.ensures c.put_hex-b.ensures.put) c.put.ensures
