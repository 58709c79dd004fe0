-- What else holds of a record's fields at its place, so that no test of soundness fails.
use mathlib.Core.{Bool.{false, true}, Logic.◌≢◌, Path.◌≡◌}
use Rattle.model.proofs.Machine.Machine.{Phase, Place, Rec, beside, fetching, returning, inside, phase, pop, tip}
use Rattle.model.proofs.Machine.Machine.{push, outside, leaving}

-- At 1 to 10 only a push is finishing, and only a push has a slot of its own.
abbrev pub Only : Rec → Type 0
Only r = (r.finishing ≡ true → r.kind ≡ push) × (r.kind ≡ push → r.own ≢ 0) × (r.kind ≡ pop → r.own ≡ 0)

-- (8) At 11 the end taken is a slot, and the task a pop. At 12 to 14 the own slot is none yet; who gives one back at 15 to 17 is a pop, and has one.
abbrev pub Kept : Phase → Rec → Type 0
Kept outside r = Unit {0}
Kept inside r = Only r
Kept leaving r = (r.kind ≡ pop) × (r.finishing ≡ false) × (tip r.read r.side ≢ 0) × (r.own ≡ 0)
Kept fetching r = r.own ≡ 0
Kept returning r = (r.kind ≡ pop) × (r.finishing ≡ false) × (r.own ≢ 0)

-- (10) At 7 to 9 the neighbour is a slot, current or not.
pub record Extra (p : Place) (r : Rec) : Type 0 where
  pub kept : Kept (phase p) r
  pub near : beside p ≡ true → r.near ≢ 0
