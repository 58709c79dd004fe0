-- The tasks and the status.
use Rattle.std.proofs.Common.{ap, ap₂, Bool, ◌&&◌}
use lib.Dec.{eqb}
use Rattle.word.specs.declared.Anchor.{Anchor}
use Rattle.model.specs.Report.{busy}
use Rattle.join_model.specs.Join.{at_rest}
use Rattle.join.proofs.rest.at_rest.Goals as goal

pub returns : goal.returns
unfolding at_rest busy
returns c lefts rights labels marks next =
    ap₂ (λ (a b : Bool). a && b) c.idle-still.ensures (ap (λ (a : Anchor). eqb a.status 0) c.unpack-a.ensures)
