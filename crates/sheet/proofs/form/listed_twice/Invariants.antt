-- No label before is listed twice.
use Rattle.std.proofs.Common.{◌≡◌, drop}
use Rattle.sheet_model.specs.Sheet.{twice}
use Rattle.sheet.proofs.form.listed_twice.Given as goal

abbrev pub invariant-loop-i : goal.invariant-loop-i
invariant-loop-i l = twice (drop l.i l.listed) ≡ twice l.listed
