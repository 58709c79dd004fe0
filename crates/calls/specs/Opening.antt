-- An opening in parts: the tables, and how many records are zeroed.
use Rattle.std.specs.Prelude.{Bool, cond, ℕ}
use lib.{Dec.eqb, ListN.replicate}
use Rattle.model.specs.Outcomes.{Opening}
use Rattle.model.specs.{Tables.{Tables, Queue, unused}, Calls.open_as}
use Rattle.model.specs.Refusals.{first, opening_rules, open_refusal}

-- Why it is refused, where the tables are long enough or not.
unfoldable pub opening_refusal : ℕ → ℕ → Bool → ℕ
opening_refusal tasks slots fit = first (opening_rules tasks slots fit)

-- A queue with n records, of which only the number counts.
abbrev pub many_records : Tables → ℕ → Queue
many_records q n = record { tables = q; records = replicate n unused }

pub record OpenedParts : Type 0 where
  pub tables : Tables
  pub clear : ℕ
  pub outcome : Opening

unfoldable pub open_tables : Bool → Tables → ℕ → ℕ → ℕ → ℕ → OpenedParts
open_tables pooled q records tasks slots tag =
    let done = open_as pooled (many_records q records) tasks slots tag in
    let clear : ℕ = cond (eqb (open_refusal pooled (many_records q records) tasks slots) 0) tasks 0 in
    record { tables = done.queue.tables; clear = clear; outcome = done.outcome }
