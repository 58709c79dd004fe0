-- A malformed place.
use Rattle.lines.specs.Line.{decimal, decimal_in, numbered, told}
use Rattle.lines.proofs.put_told.Goals as goal

pub returns-in-File-clause-put : goal.returns-in-File-clause-put
unfolding told numbered decimal decimal_in
returns-in-File-clause-put c = rw c.in-File.is c.put_text.ensures
