-- A run of the queue, and the lines that it prints. (Document 01: The run file and its trace.)
use mathlib.Core.{Bool.{Bool, true, false, not}, List.{List, [], ◌∷◌, ◌++◌, map}}
use Rattle.std.specs.Prelude.{ℕ, ◌+◌, ◌%◌, ◌^◌, take, drop, Result, Ok, Err}
use Rattle.model.specs.Outcomes.{Opening}
use Rattle.model.specs.{declared.Op.Op, Tables.Queue, Calls.open_as}
use Rattle.model.specs.History.{Request, Event, run, final}
use Rattle.lines.specs.Line.{line_of}
use Rattle.lines.specs.declared.Line.TheVariants as line
use Rattle.runfile.specs.declared.{Field.{Field, TheVariants.{Open, Each}}, Found.Found, NoField.{NoField, TheVariants.{Malformed, Cut, End}}}

-- Between two fields: the queue, whether it was opened, whether the run has ended, and the number of the last event.
pub record Run : Type 0 where
  pub queue : Queue
  pub opened : Bool
  pub over : Bool
  pub event : ℕ

-- A run, and the bytes printed on the way to it.
pub record Told : Type 0 where
  pub run : Run
  pub lines : List ℕ

-- Events are numbered from 1, in 64 bits.
abbrev pub next : ℕ → ℕ
next n = (n + 1) % 2 ^ 64

abbrev pub anchor_in : Queue → ℕ
anchor_in q = q.tables.control.anchor

-- The lines of the events that follow event n, and the number of the last.
unfoldable pub lines_of : ℕ → List Event → List ℕ
lines_of n [] = []
lines_of n (e ∷ es) = line_of (next n) (line.Act e.task e.op e.outcome) e.after ++ lines_of (next n) es

unfoldable pub number_of : ℕ → List Request → ℕ
number_of n [] = n
number_of n (o ∷ os) = number_of (next n) os

-- Starts and steps.
unfoldable pub operated : Run → List Request → Told
operated r os = record {
  run = record { queue = final r.queue os; opened = r.opened; over = r.over; event = number_of r.event os };
  lines = lines_of r.event (run r.queue os);
}

-- An opening. A refused one ends the run.
abbrev pub is_opened : Opening → Bool
is_opened (Err refusal) = false
is_opened (Ok u) = true

unfoldable pub opening_told : Run → Bool → ℕ → ℕ → ℕ → Told
opening_told r pooled tasks slots tag =
    let d = open_as pooled r.queue tasks slots tag in
    let good = is_opened d.outcome in
    record {
      run = record { queue = d.queue; opened = good; over = not good; event = next r.event };
      lines = line_of (next r.event) (line.Open d.outcome) (anchor_in d.queue);
    }

-- A malformed place, which ends the run.
unfoldable pub malformed : Run → Told
malformed r = record {
  run = record { queue = r.queue; opened = r.opened; over = true; event = next r.event };
  lines = line_of (next r.event) line.File (anchor_in r.queue);
}

-- An operation of each task.
abbrev pub each_of : Op → List ℕ → List Request
each_of op tasks = map (λ t. record { task = t; op = op }) tasks

-- A field carried out; b are the bytes from it on.
unfoldable pub field_told : Run → Field → List ℕ → Told
field_told r (Open pooled tasks slots tag) b = opening_told r pooled tasks slots tag
field_told r (Each op n) b = operated r (each_of op (take n (drop 3 b)))

-- What was found at the head of b. Where no whole field is, nothing is done, unless the place is malformed.
unfoldable pub carried : Run → Result Found NoField → List ℕ → Told
carried r (Ok found) b = field_told r found.field b
carried r (Err Malformed) b = malformed r
carried r (Err Cut) b = record { run = r; lines = [] }
carried r (Err End) b = record { run = r; lines = [] }
