-- The call, then its outcome.
use Rattle.lines.proofs.Puts.{put-more}
use Rattle.lines.specs.Line.{told}
use Rattle.lines.proofs.put_act.Goals as goal

pub returns-clause-put : goal.returns-clause-put
unfolding told
returns-clause-put c = put-more c.put_call-a.ensures.put c.put_outcome.ensures.put
