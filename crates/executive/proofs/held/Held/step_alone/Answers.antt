-- The record lent alone is put back.
use Rattle.std.proofs.Common.{refl}
use Rattle.executive.proofs.Pair.{lent_back}
use Rattle.executive.proofs.held.Held.step_alone.Goals as goal

pub returns : goal.returns
returns c = lent_back _ _ _ _ refl c.step_record.ensures refl
