-- A record moved on in its row: what is then in control, tables and row, and the outcome, are those of an admitted step. The upper half of
-- the label's word is zeroed where the call ends, and kept else.
use mathlib.Core.{Path.◌≡◌, Bool.cond, List.List}
use Rattle.std.specs.Prelude.{ℕ}
use Rattle.model.specs.Outcomes.{Outcome}
use Rattle.model.specs.{Tables.Tables, Ends.ends_call, Calls.Acted}
use Rattle.engine.specs.StepAdmitted.{step_admitted}
use Rattle.layout.specs.Rows.{record_of, upper_of}

abbrev pub RowMoved : Tables → List ℕ → Tables → List ℕ → Outcome → Type 0
RowMoved q row q' row' o =
    (◌≡◌ {A = Acted} (record { tables = q'; task = record_of row'; outcome = o }) (step_admitted q (record_of row)))
    × (upper_of row' ≡ cond (ends_call o) 0 (upper_of row))
