-- The count as what a walk makes of 0, and what it says of the walk.
use mathlib.Core.{Path.{◌≡◌, refl, ap, ◌∙◌}, Bool.{Bool, true, false, cond}, List.{List, [], ◌∷◌, reverse}}
use Prim.Native.Nat.{ℕ, ◌+◌}
use native.Mathlib.Omega.{arith}
use lib.{Dec.eqb, ListN.{length, length-reverse}}
use Rattle.model.specs.{declared.Entry.Entry, Walk.{Walk, broken, entries, is_broken, met, walk_from}}
use Rattle.std.specs.Prelude.{Result, Ok, Err}
use Rattle.walk.specs.{declared.Unsound.Unsound, Counted.counted, Ways.unsound}
use Rattle.walk.specs.Over.{Made, made, lost, each, over}

abbrev pub one_more : ℕ → Entry → ℕ
one_more n e = n + 1

abbrev pub tallied : Made ℕ → Result ℕ Unsound
tallied (made n) = Ok n
tallied lost = Err unsound

each_more : (n : ℕ) (l : List Entry) → each one_more n l ≡ n + length l
each_more n [] = omega arith
each_more n (e ∷ l) = each_more (n + 1) l ∙ omega arith

pub tally_is : (w : Walk) → tallied (over one_more 0 w) ≡ counted w
tally_is (entries l) = ap Ok (each_more 0 l ∙ omega arith)
tally_is broken = refl

pub none-counted : (w : Walk) (e : Unsound) → Err e ≡ counted w → is_broken w ≡ true
none-counted (entries l) e h = cc
none-counted broken e h = refl

pub all-counted : (w : Walk) (n : ℕ) → Ok n ≡ counted w → (is_broken w ≡ false) × (n ≡ length (met w))
all-counted (entries l) n e = (refl, cc)
all-counted broken n e = absurd cc

-- A walk that is turned meets as many.
pub either_way : (side : ℕ) (w : Walk) → counted (walk_from side w) ≡ counted w
either_way side (entries l) = ap Ok (go (eqb side 1))
  where
    go : (b : Bool) → length (cond b (reverse l) l) ≡ length l
    go true = length-reverse l
    go false = refl
either_way side broken = refl
