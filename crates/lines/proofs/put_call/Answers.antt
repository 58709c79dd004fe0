-- The task, then the word.
use Rattle.lines.proofs.Puts.{put-more}
use Rattle.lines.specs.Line.{call_of}
use Rattle.lines.proofs.put_call.Goals as goal

pub returns-clause-put : goal.returns-clause-put
unfolding call_of
returns-clause-put c = put-more c.put_numbered-a.ensures.put c.put_word.ensures.put
