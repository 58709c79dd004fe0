-- At most two digits, or those of n / 100 and two more.
use Rattle.lines.proofs.Puts.{put-more}
use Rattle.lines.proofs.Digits.{decimal-room, decimal_pair}
use Rattle.lines.proofs.number.put_some.Goals as goal

pub returns-then-n-lt100-clause-put : goal.returns-then-n-lt100-clause-put
returns-then-n-lt100-clause-put c = rw (decimal-room 1 2 _ c.if-n-lt100.true) c.put_few.ensures.put

pub returns-clause-put : goal.returns-clause-put
returns-clause-put c = rw (decimal_pair 1 _ c.if-n-lt100.false) (put-more c.put_few-a.ensures.put c.put_pair.ensures.put)
