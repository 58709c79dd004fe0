-- The call by value: its refusals after those of the tables, and what it leaves.
use mathlib.Core.{Path.◌≡◌, Bool.{Bool, ◌&&◌, cond}, List.List}
use Rattle.std.specs.Prelude.{ℕ, Result, Ok, Err}
use lib.{Dec.leb, ListN.{length, get_or}}
use Rattle.model.specs.{declared.{Call.Call, Record.Record}, Tables.{Tables, unused}}
use Rattle.walk.specs.declared.Unsound.{Unsound}
use Rattle.schedule_model.specs.Next.{Handed, next_schedule}

-- By the walk, after the rules of the tables (`table_rules`). Two: two tasks, both busy.
unfoldable pub refusal_after : Bool → Result ℕ Unsound → ℕ
refusal_after two (Err u) = 34
refusal_after two (Ok n) = cond (two && leb n 4) 0 42

-- So many records, of which the first two have these calls.
pub record Begins (records : List Record) (n : ℕ) (a b : Call) : Type 0 where
  pub count : length records ≡ n
  pub first : (get_or records 0 unused).call ≡ a
  pub second : (get_or records 1 unused).call ≡ b

-- What a call hands out, and the tables after it.
pub record Answered : Type 0 where
  pub handed : Handed
  pub tables : Tables

-- The tables are as before.
abbrev pub answered : Tables → List Record → List ℕ → Answered
answered q records ws = record { handed = next_schedule (record { tables = q; records = records }) ws; tables = q }
