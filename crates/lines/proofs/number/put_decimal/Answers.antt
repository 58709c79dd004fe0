-- At most twenty digits.
use Rattle.lines.proofs.Digits.{decimal-last, decimal-room}
use Rattle.lines.specs.Line.{decimal}
use Rattle.lines.proofs.number.put_decimal.Goals as goal

pub returns-then-n-lt10-clause-put : goal.returns-then-n-lt10-clause-put
unfolding decimal
returns-then-n-lt10-clause-put c = rw (decimal-last 19 _ c.if-n-lt10.true) c.put_last.ensures

pub returns-then-n-lt100000000-clause-put : goal.returns-then-n-lt100000000-clause-put
unfolding decimal
returns-then-n-lt100000000-clause-put c = rw (decimal-room 7 12 _ c.if-n-lt100000000.true) c.put_eight.ensures.put

pub returns-clause-put : goal.returns-clause-put
unfolding decimal
returns-clause-put c = c.put_digits.ensures.put
