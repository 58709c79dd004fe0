-- How many labels a walk meets.
use Rattle.std.specs.Prelude.{ℕ, length, Result, Ok, Err}
use Rattle.model.specs.Walk.{Walk, entries, broken}
use Rattle.walk.specs.{declared.Unsound.Unsound, Ways.unsound}

abbrev pub counted : Walk → Result ℕ Unsound
counted (entries l) = Ok (length l)
counted broken = Err unsound
