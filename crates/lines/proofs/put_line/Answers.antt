-- The columns one after the other.
use Rattle.lines.proofs.Puts.{put-more}
use Rattle.lines.specs.Line.{line_of}
use Rattle.lines.proofs.put_line.Goals as goal

pub returns-clause-put : goal.returns-clause-put
unfolding line_of
returns-clause-put c = put-more (put-more c.put_decimal-a.ensures.put c.put_told-b.ensures.put) c.put_anchor.ensures.put
