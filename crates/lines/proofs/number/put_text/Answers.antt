-- A copy into a part of the buffer.
use Rattle.std.proofs.Common.{arith}
use Rattle.lines.proofs.Puts.{put-copied}
use Rattle.lines.proofs.number.put_text.Goals as goal

pub returns : goal.returns
returns c = put-copied _ _ _ _ _ c.copy_from_slice.ensures.after (omega arith) c.requires
