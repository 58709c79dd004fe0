-- Threads over one memory, interleaved in any way: what they leave, what each is told, and the starts and steps in the order of their deciding instructions.
use mathlib.Core.{Bool.{Bool, cond}, List.{List, [], ◌∷◌, ◌++◌}}
use Rattle.std.specs.Prelude.{ℕ, ◌<◌}
use lib.{Dec.eqb, ListN.set}
use Rattle.model.specs.Outcomes.{Outcome}
use Rattle.model.specs.{declared.Op.Op, Tables.{Queue, task_at}, History.{Event, Request}}
use Rattle.threads_model.specs.{Turns.Turn, Instructions.{Ticked, tick, written, told_at_end, label_touched}}
use Rattle.threads_model.specs.Instructions.{Hand, free, begun, loaded, knows, claims, looks, labels, marks, ends}

-- Memory, and the threads' hands; the number of slots and the kind of queue are what each thread copied at the beginning.
pub record Crew : Type 0 where
  pub queue : Queue
  pub hands : ℕ → Hand

abbrev pub all_free : Queue → Crew
all_free q = record { queue = q; hands = λ t. free }

-- A thread begins a start or a step, of any numbers; a thread makes its next instruction.
pub data Act : Type 0 where
  calls : Request → Act
  next : (task : ℕ) → Act

-- Threads are those of the tasks opened.
abbrev pub Known : ℕ → Act → Type 0
Known tasks (calls o) = o.task < tasks
Known tasks (next t) = t < tasks

abbrev pub with_hand : (ℕ → Hand) → ℕ → Hand → ℕ → Hand
with_hand f t h u = cond (eqb u t) h (f u)

-- A thread that is in a start or step begins no other.
abbrev pub takes_up : Hand → Op → Hand
takes_up free op = begun op
takes_up (begun o) op = begun o
takes_up (loaded w) op = loaded w
takes_up (knows label) op = knows label
takes_up (claims side slot label) op = claims side slot label
takes_up (looks side slot label) op = looks side slot label
takes_up (labels both slot label task o) op = labels both slot label task o
takes_up (marks slot task o) op = marks slot task o
takes_up (ends task o) op = ends task o

abbrev pub ticked : ℕ → ℕ → Crew → ℕ → Ticked
ticked pooled slots m t = tick pooled slots m.queue.tables (task_at m.queue t) (m.hands t)

-- What one act leaves of memory and hands.
unfoldable pub go : ℕ → ℕ → Crew → Act → Crew
go pooled slots m (calls o) = record { queue = m.queue; hands = with_hand m.hands o.task (takes_up (m.hands o.task) o.op) }
go pooled slots m (next t) =
    let k = ticked pooled slots m t in
    record {
      queue = record { tables = k.tables; records = set m.queue.records t (written (m.hands t) (task_at m.queue t)) };
      hands = with_hand m.hands t k.hand;
    }

-- What a list of acts leaves.
unfoldable pub go_on : ℕ → ℕ → Crew → List Act → Crew
go_on pooled slots m [] = m
go_on pooled slots m (a ∷ l) = go_on pooled slots (go pooled slots m a) l

-- What an act decides, as turns; the turns of a list, in the order of their deciding instructions.
abbrev pub as_turns : ℕ → Bool → List Op → List Turn
as_turns t early [] = []
as_turns t early (o ∷ l) = record { task = t; op = o; early = early } ∷ as_turns t early l

abbrev pub turns_of : ℕ → Ticked → List Turn
turns_of t k = as_turns t k.early k.decides

abbrev pub decides : ℕ → ℕ → Crew → Act → List Turn
decides pooled slots m (calls o) = []
decides pooled slots m (next t) = turns_of t (ticked pooled slots m t)

unfoldable pub turns : ℕ → ℕ → Crew → List Act → List Turn
turns pooled slots m [] = []
turns pooled slots m (a ∷ l) = decides pooled slots m a ++ turns pooled slots (go pooled slots m a) l

-- What thread u is told, in its order.
abbrev pub tells_to : Crew → Act → ℕ → List Outcome
tells_to m (calls o) u = []
tells_to m (next t) u = cond (eqb t u) (told_at_end (m.hands t)) []

unfoldable pub told : ℕ → ℕ → Crew → List Act → ℕ → List Outcome
told pooled slots m [] u = []
told pooled slots m (a ∷ l) u = tells_to m a u ++ told pooled slots (go pooled slots m a) l u

-- The outcomes of task u in a list of events.
unfoldable pub outcomes_of : ℕ → List Event → List Outcome
outcomes_of u [] = []
outcomes_of u (e ∷ es) = cond (eqb e.task u) (e.outcome ∷ []) [] ++ outcomes_of u es

-- Decided and not yet told.
abbrev pub owed : Hand → List Outcome
owed free = []
owed (begun op) = []
owed (loaded w) = []
owed (knows label) = []
owed (claims side slot label) = []
owed (looks side slot label) = []
owed (labels both slot label task o) = o ∷ []
owed (marks slot task o) = o ∷ []
owed (ends task o) = o ∷ []

-- The slot whose label thread t's next instruction touches, or 0.
abbrev pub label_next : ℕ → ℕ → Crew → ℕ → ℕ
label_next pooled slots m t = label_touched pooled slots (task_at m.queue t) (m.hands t)
