-- Position 0, or another.
use Rattle.std.proofs.Common.{rules}
use borrow.Author.Tests.{eq-eqb}
use Rattle.lines.proofs.Puts.{put-fits}
use Rattle.judge.proofs.say.put_position.Goals as goal

pub returns-then-n-eq0-clause-put : goal.returns-then-n-eq0-clause-put
returns-then-n-eq0-clause-put c = rw (eq-eqb _ 0 c.if-n-eq0.true) (put-fits _ c.write_text.ensures.put (search rules))
