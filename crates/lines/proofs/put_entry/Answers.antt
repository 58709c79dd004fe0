-- The slot, then the label.
use Rattle.lines.proofs.Puts.{put-more}
use Rattle.lines.specs.Line.{entry_of}
use Rattle.lines.proofs.put_entry.Goals as goal

pub returns-clause-put : goal.returns-clause-put
unfolding entry_of
returns-clause-put c = put-more c.put_numbered-a.ensures.put c.put_numbered.ensures.put
