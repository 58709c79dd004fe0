-- The tests of a busy record in two parts: what its place asks of it, and whether what it has read is sound.
use mathlib.Core.{Path.{◌≡◌, sym}, Bool.{Bool, true, false, ◌&&◌, ◌||◌, and_assoc}}
use Prim.Native.Nat.{ℕ}
use lib.Dec.{eqb}
use Rattle.model.specs.{declared.Call.Call, Sound.{call_tests, read_tests, record_sound}, Lists.every}

unfoldable pub call_tests_pass : Bool → ℕ → Call → Bool
call_tests_pass pooled slots r = every (call_tests pooled slots r)

unfoldable pub read_tests_pass : ℕ → Call → Bool
read_tests_pass slots r = every (read_tests slots r)

-- A record is sound if it is idle, or both parts are.
pub parts : (pooled : Bool) (slots : ℕ) (r : Call)
    → (eqb r.place 0 || (call_tests_pass pooled slots r && read_tests_pass slots r)) ≡ record_sound pooled slots r
unfolding call_tests_pass read_tests_pass record_sound
parts pooled slots r = simp and_assoc

-- An idle record is sound; a busy one is if both parts are.
pub idle-sound : (pooled : Bool) (slots : ℕ) (r : Call) → eqb r.place 0 ≡ true → record_sound pooled slots r ≡ true
idle-sound pooled slots r idle = rw idle at (sym (parts pooled slots r))

pub busy-sound : (pooled : Bool) (slots : ℕ) (r : Call)
    → eqb r.place 0 ≡ false → (call_tests_pass pooled slots r && read_tests_pass slots r) ≡ record_sound pooled slots r
busy-sound pooled slots r busy = rw busy at (parts pooled slots r)
