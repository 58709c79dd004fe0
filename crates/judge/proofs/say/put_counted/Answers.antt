-- The word and its number, then the line's end.
use Rattle.std.proofs.Common.{rules}
use Rattle.lines.specs.Line.{numbered}
use Rattle.lines.proofs.Puts.{put-fits, put-more}
use Rattle.judge.proofs.say.put_counted.Goals as goal

pub returns-clause-put : goal.returns-clause-put
unfolding numbered
returns-clause-put c =
    let front = put-more (put-fits _ c.write_text-a.ensures.put (search rules)) (put-fits _ c.write_decimal-b.ensures.put (search rules)) in
    put-more front (put-fits _ c.write_text.ensures.put (search rules))
