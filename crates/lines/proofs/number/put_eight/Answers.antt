-- At most four digits, or those of n / 10000 and four more.
use Rattle.lines.proofs.Puts.{put-more}
use Rattle.lines.proofs.Digits.{decimal-room, decimal_four}
use Rattle.lines.proofs.number.put_eight.Goals as goal

pub returns-then-n-lt10000-clause-put : goal.returns-then-n-lt10000-clause-put
returns-then-n-lt10000-clause-put c = rw (decimal-room 3 4 _ c.if-n-lt10000.true) c.put_some.ensures.put

pub returns-clause-put : goal.returns-clause-put
returns-clause-put c =
    rw (decimal_four 3 _ c.if-n-lt10000.false)
    (put-more (put-more c.put_some-a.ensures.put c.put_pair-b.ensures.put) c.put_pair.ensures.put)
