-- A row is stored only where there is one.
use Rattle.std.proofs.Common.{sym, arith}
use lib.Seq.{set_out}
use Rattle.shelf.specs.Lent.{controls_of}
use Rattle.shelf.proofs.Controls.{control-put, length_controls}
use Rattle.shelf.proofs.put_control.Goals as goal

pub returns-then-n-controls : goal.returns-then-n-controls
returns-then-n-controls c = control-put _ _ _

pub returns-else-n-controls : goal.returns-else-n-controls
returns-else-n-controls c =
    let rows = c.args.controls.now in
    sym (set_out (controls_of rows) _ _ (omega (arith, length_controls rows)))
