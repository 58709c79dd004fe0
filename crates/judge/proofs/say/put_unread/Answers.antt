-- The order is missing; or the line, and its fault.
use Rattle.std.proofs.Common.{rules}
use Rattle.lines.specs.Line.{numbered}
use Rattle.lines.proofs.Puts.{put-fits, put-more}
use Rattle.judge.proofs.say.put_unread.Goals as goal

pub returns-in_default-clause-put : goal.returns-in_default-clause-put
returns-in_default-clause-put c = rw c.in_default.is (put-fits _ c.write_text.ensures.put (search rules))

pub returns-clause-put : goal.returns-clause-put
unfolding numbered
returns-clause-put c =
    let line = put-more (put-fits _ c.write_text-a.ensures.put (search rules)) (put-fits _ c.write_decimal-b.ensures.put (search rules)) in
    let front = put-more line (put-fits _ c.write_text-c.ensures.put (search rules)) in
    rw (c.in-Some.is, ← c.fault_line.ensures.text) (put-more front (put-fits _ c.write_text-2.ensures.put (search rules)))
