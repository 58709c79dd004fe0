-- The second part of a step: what an admitted record does.
use Rattle.std.specs.Prelude.{cond, eqb}
use Rattle.model.specs.Outcomes.{Refused}
use Rattle.model.specs.{declared.Record.Record, Tables.{Tables, is_pooled}, Calls.Acted}
use Rattle.model.specs.Refusals.{record_refusal}
use Rattle.places.specs.Arm.{step_at}

-- 34 and 31 for the record come first, then its place.
unfoldable pub step_admitted : Tables → Record → Acted
step_admitted q r =
    let why = record_refusal (is_pooled q.control) q.control.slots r.call in
    cond (eqb why 0) (step_at r.call.place q r.call r.retries) (record { tables = q; task = r; outcome = Refused why })
