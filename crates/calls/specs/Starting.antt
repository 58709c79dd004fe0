-- Starts by the lengths told of the tables, whatever lengths they have: why one is refused, and what it leaves of control, record and tables.
use mathlib.Core.{Bool.{cond, false}, List.{List, []}}
use Rattle.std.specs.Prelude.{ℕ, eqb}
use Rattle.model.specs.declared.{Control.Control, Call.Call, Asked.Asked, Answer.TheVariants.Running}
use Rattle.model.specs.Outcomes.{Moved, Refused}
use Rattle.model.specs.declared.{Transition.Transition}
use Rattle.model.specs.{Tables.{Tables, tables_of, is_pooled, with_taken}, Refusals.{start_refusal, named_push}}
use Rattle.sound.specs.{declared.Lengths.Lengths, Lengths.{lengths_fit, among_many}}

-- Refused: the number alone. Accepted: the record at its first place.
abbrev pub decided : Control → Call → ℕ → Call → Transition
decided c r why task =
    cond (eqb why 0) (record { control = c; task = task; outcome = Moved (Running task.place); failed = false })
    (record { control = c; task = r; outcome = Refused why; failed = false })

-- The number of the first rule that applies, 12 by the lengths told.
abbrev pub refused_by : Lengths → Control → ℕ → Call → ℕ → Asked → ℕ
refused_by t c task r side a = start_refusal c (lengths_fit (is_pooled c) c.slots t) (among_many c t task) r side a

-- The tables as far as a start touches them: labels and marks.
abbrev pub touching : Control → List ℕ → List ℕ → Tables
touching c labels marks = tables_of c [] [] labels marks []

-- A push that names its slot is asked for the mark in the marks lent.
abbrev pub push_refused_by : Lengths → Control → ℕ → Call → ℕ → ℕ → List ℕ → ℕ
push_refused_by t c task r side slot marks = refused_by t c task r side (named_push (touching c [] marks) slot)

-- Refused, it leaves labels and marks as they were. Accepted, it stores the label and sets the mark, each where its table has the place.
abbrev pub stored_unless : ℕ → Tables → ℕ → ℕ → Tables
stored_unless why q slot label = cond (eqb why 0) (with_taken q slot label) q
