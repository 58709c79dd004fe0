-- The output is as long as its array, and has room for the lines of a field.
use mathlib.Core.{Path.{◌≡◌, refl, sym}, Bool.true}
use Prim.Native.Nat.{ℕ, ◌≤◌}
use native.Mathlib.Omega.{arith}
use lib.{Dec.leb, ListN.{length, replicate, length-replicate}}
use borrow.Author.Tests.{leb-true}
use Rattle.trace_field.specs.Page.{field_room}
use Rattle.trace_stream.proofs.trace.Goals as goal

roomy : (m n : ℕ) → leb m n ≡ true → m ≤ length (replicate {A = ℕ} n 0)
roomy m n e = omega (arith, length-replicate {A = ℕ} n 0, leb-true m n e)

pub slice_bounds-rounds-end-2 : goal.slice_bounds-rounds-end-2
slice_bounds-rounds-end-2 g c = sym (length-replicate {A = ℕ} 589824 0)

pub rounds-done-requires-clause-field_room_in_bounds : goal.rounds-done-requires-clause-field_room_in_bounds
rounds-done-requires-clause-field_room_in_bounds g c = roomy field_room 589824 refl
