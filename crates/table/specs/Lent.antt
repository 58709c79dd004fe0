-- What a start or step hands back by value, with the tables that it was lent and its task's count of failed changes, as it was.
use Rattle.std.specs.Prelude.{List, ℕ}
use Rattle.model.specs.{Tables.tables_of, Route.counted, declared.Transition.Transition}
use Rattle.model.specs.Calls as calls

abbrev pub with_tables : Transition → List ℕ → List ℕ → List ℕ → List ℕ → List ℕ → ℕ → calls.Acted
with_tables m lefts rights labels marks next retries =
    record {
      tables = tables_of m.control lefts rights labels marks next;
      task = record { call = m.task; retries = counted retries m.failed };
      outcome = m.outcome;
    }
