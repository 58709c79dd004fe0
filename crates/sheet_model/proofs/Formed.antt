-- What the form of a sheet gives.
use mathlib.Core.{Bool.{false, ◌||◌}, Path.◌≡◌}
use Prim.Native.Nat.{◌≤◌}
use lib.{Dec.ltb, ListN.length}
use borrow.Author.Tests.{ltb-false}
use Rattle.model.proofs.Tests.Truth.{or-false}
use Rattle.sheet_model.specs.Sheet.{Sheet, any, outside, twice, malformed}

pub record Formed (s : Sheet) : Type 0 where
  pub few : length s.listed ≤ 32
  pub once : twice s.listed ≡ false
  pub inside : any (outside (length s.listed)) s.rules ≡ false

pub formed : (s : Sheet) → malformed s ≡ false → Formed s
unfolding malformed
formed s e =
    let a = or-false (ltb 32 (length s.listed) || ltb 128 (length s.rules) || twice s.listed) (any (outside (length s.listed)) s.rules) e in
    let b = or-false (ltb 32 (length s.listed) || ltb 128 (length s.rules)) (twice s.listed) a.0 in
    let c = or-false (ltb 32 (length s.listed)) (ltb 128 (length s.rules)) b.0 in
    record { few = ltb-false 32 (length s.listed) c.0; once = b.1; inside = a.1 }
