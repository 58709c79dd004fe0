-- The header is this text.
use Rattle.lines.specs.Line.{header}
use Rattle.lines.proofs.put_header.Goals as goal

pub returns-clause-put : goal.returns-clause-put
unfolding header
returns-clause-put c = c.put_text.ensures
