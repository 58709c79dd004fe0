use Rattle.std.proofs.Common.{◌∙◌, ap}
use mathlib.Core.Bool.{◌&&◌}
use lib.Dec.{eqb}
use Prim.Native.Nat.{ℕ}
use Rattle.audit_model.specs.{declared.Finished.Finished, Audit.agrees}
use Rattle.audit.specs.LabelQueue.{label_at}
use Rattle.audit.proofs.labels.popped.Goals as goal

pub returns : goal.returns
unfolding agrees
returns c =
    ap (λ (x : ℕ). eqb c.args.c.answer 4 && eqb c.args.c.label x)
    (ap (λ (d : Finished). d.label) c.call_at-d.ensures ∙ ap (label_at c.args.words.now) c.from.ensures)
