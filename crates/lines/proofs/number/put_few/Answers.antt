-- One digit, or two.
use Rattle.lines.proofs.Digits.{decimal-last, decimal_two}
use Rattle.lines.proofs.number.put_few.Goals as goal

pub returns-then-n-lt10-clause-put : goal.returns-then-n-lt10-clause-put
returns-then-n-lt10-clause-put c = rw (decimal-last 1 _ c.if-n-lt10.true) c.put_last.ensures

pub returns-clause-put : goal.returns-clause-put
returns-clause-put c = rw (decimal_two _ c.if-n-lt10.false) c.put_pair.ensures.put
