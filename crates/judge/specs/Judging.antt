-- The verdict on a text.
use mathlib.Core.{Bool.{◌&&◌, cond}, List.List}
use Rattle.std.specs.Prelude.{ℕ, eqb, Result, Ok, Err, is_none}
use Rattle.audit_model.specs.{Audit.verdict, LentHistory.calls_in, declared.Verdict.Verdict}
use Rattle.historyfile.specs.{Reading.{Reading, whole}, declared.reading.Place.Place}

-- A text without a fault and with an order is judged; of any other it is told where its reading stands.
abbrev pub told : Reading → Result Verdict Place
told r =
    cond (is_none r.place.fault && eqb r.place.column 8) (Ok (verdict (calls_in r.calls) r.order)) (Err r.place)

unfoldable pub judged : List ℕ → Result Verdict Place
judged text = told (whole text)
