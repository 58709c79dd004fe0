-- Control and records as rows of words, in the order of their fields.
use mathlib.Core.{Bool.Bool, List.{List, [], ◌∷◌}}
use Rattle.std.specs.Prelude.{ℕ, ◌/◌, ◌%◌, ◌^◌, get_or, set}
use Rattle.model.specs.Outcomes.{Outcome}
use Rattle.model.specs.{declared.{Control.Control, Call.Call, Record.Record}, Ends.{is_moved, ends_call}}
use Rattle.model.specs.declared.Op.{Op, TheVariants.{Push, Pop, PushPooled, Step}}
use Rattle.model.specs.Tables.{Queue, queue_of, unused, with_call}

unfoldable pub control_of : List ℕ → Control
control_of ws = record {
  tasks = get_or ws 0 0;
  slots = get_or ws 1 0;
  anchor = get_or ws 2 0;
  pooled = get_or ws 3 0;
  head = get_or ws 4 0;
}

-- A task's call; a label has 32 bits.
unfoldable pub call_of : List ℕ → Call
call_of ws = record {
  place = get_or ws 0 0;
  kind = get_or ws 1 0;
  side = get_or ws 2 0;
  own = get_or ws 3 0;
  label = get_or ws 4 0 % 2 ^ 32;
  seen = get_or ws 5 0;
  neighbour = get_or ws 6 0;
  link = get_or ws 7 0;
  finishing = get_or ws 8 0;
}

-- The whole record: the call, and the task's count of failed changes.
unfoldable pub record_of : List ℕ → Record
record_of ws = record { call = call_of ws; retries = get_or ws 9 0 }

-- The upper half of the label's word is in no field: with the record it makes up the whole row.
unfoldable pub upper_of : List ℕ → ℕ
upper_of ws = get_or ws 4 0 / 2 ^ 32

-- The same of each row.
unfoldable pub records_of : List (List ℕ) → List Record
records_of [] = []
records_of (ws ∷ rows) = record_of ws ∷ records_of rows

unfoldable pub uppers_of : List (List ℕ) → List ℕ
uppers_of [] = []
uppers_of (ws ∷ rows) = upper_of ws ∷ uppers_of rows

-- A queue whose control and records are lent as rows.
abbrev pub queue_in : List ℕ → List (List ℕ) → List ℕ → List ℕ → List ℕ → List ℕ → List ℕ → Queue
queue_in control rows = queue_of (control_of control) (records_of rows)

-- Records in which a task has another call and its own count.
abbrev pub with_call_at : List Record → ℕ → Call → List Record
with_call_at rs t r = set rs t (with_call (get_or rs t unused) r)

-- The operations that write their task's row whole, its upper half zero: a start that is carried out, a step that answers.
abbrev pub writes_row : Op → Outcome → Bool
writes_row (Push side slot label) o = is_moved o
writes_row (Pop side) o = is_moved o
writes_row (PushPooled side label) o = is_moved o
writes_row Step o = ends_call o
