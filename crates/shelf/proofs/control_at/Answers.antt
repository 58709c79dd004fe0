-- A row, or zeros where there is none.
use Rattle.std.proofs.Common.{arith, ap, ◌∙◌, List, ℕ, Option}
use Rattle.std.specs.Option.{unwrap_or}
use Rattle.layout.specs.Rows.{control_of}
use Rattle.shelf.proofs.Controls.{control_read, zeros}
use Rattle.shelf.proofs.control_at.Goals as goal

pub returns : goal.returns
returns c =
    ap control_of (c.unwrap_or.ensures ∙ ap (λ (o : Option (List ℕ)). unwrap_or o zeros) c.copied.ensures ∙ c.get.ensures.lookup.4 (omega arith) zeros)
    ∙ control_read c.args.controls.now c.args.shelf
