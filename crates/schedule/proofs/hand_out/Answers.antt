-- What the search found, and its length in word 0.
use Rattle.schedule.proofs.Handing.{no-more, next-found}
use Rattle.schedule.proofs.hand_out.Goals as goal

pub returns-in-Some : goal.returns-in-Some
returns-in-Some c = next-found _ _ _ _ _ c.memory_length-len.ensures c.in-Some.f c.in-Some.ensures _ c.set.ensures

pub returns-in-None : goal.returns-in-None
returns-in-None c = rw c.from.ensures (no-more _ _ _ _ _ c.memory_length-len.ensures c.in-None.ensures)
