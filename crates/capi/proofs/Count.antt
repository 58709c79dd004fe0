-- The count of busy tasks goes on by one record at a time, and is no more than the records counted.
use mathlib.Core.{Path.{◌≡◌, refl, ap}, Bool.{Bool, true, false, not, cond}, List.List}
use Prim.Native.Nat.{ℕ, suc, ◌+◌, ◌≤◌}
use native.Mathlib.Omega.{arith}
use lib.{Dec.eqb, ListN.get_or}
use mir.Val.{bool_byte}
use Rattle.model.specs.{declared.Record.Record, Tables.unused, Lists.count}
use Rattle.calls.proofs.Counts.{count_most}
use Rattle.capi.specs.Replies.{busy_in}

-- A test as a number.
as_number : (b : Bool) → bool_byte b ≡ cond b 1 0
as_number true = refl
as_number false = refl

pub one_at_most : (b : Bool) → bool_byte b ≤ 1
one_at_most true = omega arith
one_at_most false = omega arith

pub busy-none : (rs : List Record) → busy_in 0 rs ≡ 0
unfolding count
busy-none rs = refl

pub busy_le : (i : ℕ) (rs : List Record) → busy_in i rs ≤ i
busy_le i rs = count_most (λ t. not (eqb (get_or rs t unused).call.place 0)) i

pub busy-more : (i : ℕ) (rs : List Record) → busy_in i rs + bool_byte (not (eqb (get_or rs i unused).call.place 0)) ≡ busy_in (suc i) rs
unfolding count
busy-more i rs = ap (λ (k : ℕ). busy_in i rs + k) (as_number (not (eqb (get_or rs i unused).call.place 0)))
