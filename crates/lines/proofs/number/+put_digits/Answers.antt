-- The digits of n: at most four, or those of n / 10000 and the last four.
use Rattle.lines.proofs.Puts.{put-more}
use Rattle.lines.proofs.Digits.{group_last, group_more}
use Rattle.lines.proofs.number.+put_digits.Goals as goal

pub returns-then-n-lt10000-clause-put : goal.returns-then-n-lt10000-clause-put
returns-then-n-lt10000-clause-put t c = rw (group_last _ _ c.if-n-lt10000.true) c.put_some-then-n-lt10000.ensures.put

pub returns-clause-put : goal.returns-clause-put
returns-clause-put t c =
    rw (group_more _ _ c.if-more-eq0.false c.if-n-lt10000.false)
    (put-more (put-more c.put_digits-a.ensures.put c.put_pair-b.ensures.put) c.put_pair.ensures.put)
