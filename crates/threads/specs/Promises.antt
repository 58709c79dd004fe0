-- What is promised of split steps, and of threads that interleave at single instructions.
use mathlib.Core.{Path.◌≡◌, Bool.{Bool, true, false, cond}, List.{List, [], ◌++◌}, Logic.◌≢◌}
use Rattle.std.specs.Prelude.{ℕ, ◌<◌}
use lib.{Dec.eqb, ListN.{get_or, set}}
use Rattle.model.specs.Outcomes.{Opened, Outcome, Refused}
use Rattle.model.specs.{declared.{Call.Call, Record.Record}, Lists.All}
use Rattle.model.specs.Tables.{Tables, Queue, task_at, marked}
use Rattle.model.specs.{Sound.{from1, record_sound}, Refusals.{admission, alone, fits, late}, Walk.{contents, entries}}
use Rattle.model.specs.{Calls.{act, open_as, step_lent}, History.{Event, LedgerCall, Lawful, Request, final, ledger, run}}
use Rattle.threads_model.specs.Split.{plan, on_row, plan_unasked, settle, settle_unasked, split_step}
use Rattle.threads_model.specs.{declared.Start.Start, Starts.{is_named, start_why, plan_start, first_call}}
use Rattle.threads_model.specs.Turns.{Turn, take_early, run_turns, final_turns}
use Rattle.threads_model.specs.Instructions.{Hand, free, begun, loaded, knows, claims, looks, labels, marks, ends, tick}
use Rattle.threads_model.specs.Instructions.{Ticked, with_labels, label_touched}
use Rattle.threads_model.specs.Crew.{Crew, Act, all_free, Known, go_on, turns, told, outcomes_of, owed, label_next}

-- For any tables and any record: where the tables are admitted (34 for control and Anchor, 12), plan, touch and settlement are the step on the lent
-- record, refusals and all.
abbrev pub SplitStands : Type 0
SplitStands = (q : Tables) (r : Record) → admission q.control (fits q) alone ≡ 0 → split_step q r ≡ step_lent q r

-- A touch of a slot's row, its label or its mark names a slot, 1 to slots, whatever the record holds; asked or not.
abbrev pub PlansWithin : Type 0
PlansWithin = (pooled slots : ℕ) (r : Call) → on_row (plan pooled slots r).act ≡ true → from1 slots (plan pooled slots r).slot ≡ true

abbrev pub UnaskedWithin : Type 0
UnaskedWithin =
    (pooled slots : ℕ) (r : Call) → on_row (plan_unasked pooled slots r).act ≡ true → from1 slots (plan_unasked pooled slots r).slot ≡ true

-- A start that gets as far as its touches is for a slot of 1 to slots, if it names one (12 and 13 are of that slot).
abbrev pub StartsWithin : Type 0
StartsWithin = (pooled slots : ℕ) (r : Call) (s : Start) → (plan_start pooled slots r s).act ≡ 1 → is_named s ≡ true → from1 slots s.slot ≡ true

-- A sound record need not be asked: its plan and its settlement are the same unasked, whatever word is found, and the record that is left is sound.
abbrev pub UnaskedStands : Type 0
UnaskedStands =
    (pooled slots : ℕ) (r : Record) (w : ℕ) → record_sound (eqb pooled 1) slots r.call ≡ true
    → (plan_unasked pooled slots r.call ≡ plan pooled slots r.call)
    × (settle_unasked pooled slots r w ≡ settle pooled slots r w)
    × (record_sound (eqb pooled 1) slots (settle pooled slots r w).task.call ≡ true)

-- So is the record that a start writes. So a call's settlements, from its start on, need not ask.
abbrev pub StartsSound : Type 0
StartsSound = (pooled slots : ℕ) (r : Call) (s : Start) → start_why pooled slots r s ≡ 0 → record_sound (eqb pooled 1) slots (first_call s) ≡ true

-- A turn that was early is one as ever where Anchor is not late.
abbrev pub EarlyAsEver : Type 0
EarlyAsEver = (q : Queue) (u : Turn) → late q.tables.control ≡ false → take_early q u ≡ act q u.task u.op

-- THREADS. A label or a mark that is to be stored.
abbrev pub OwesLabel : Hand → ℕ → Type 0
OwesLabel free x = ⊥
OwesLabel (begun op) x = ⊥
OwesLabel (loaded w) x = ⊥
OwesLabel (knows label) x = ⊥
OwesLabel (claims side slot label) x = ⊥
OwesLabel (looks side slot label) x = ⊥
OwesLabel (labels both slot label task o) x = x ≡ slot
OwesLabel (marks slot task o) x = ⊥
OwesLabel (ends task o) x = ⊥

abbrev pub OwesMark : Hand → ℕ → Type 0
OwesMark free x = ⊥
OwesMark (begun op) x = ⊥
OwesMark (loaded w) x = ⊥
OwesMark (knows label) x = ⊥
OwesMark (claims side slot label) x = ⊥
OwesMark (looks side slot label) x = ⊥
OwesMark (labels both slot label task o) x = (both ≡ true) × (x ≡ slot)
OwesMark (marks slot task o) x = x ≡ slot
OwesMark (ends task o) x = ⊥

-- The record that a thread has, or will have written by its last instruction.
abbrev pub record_of : Hand → Record → Record
record_of free r = r
record_of (begun op) r = r
record_of (loaded w) r = r
record_of (knows label) r = r
record_of (claims side slot label) r = r
record_of (looks side slot label) r = r
record_of (labels both slot label task o) r = task
record_of (marks slot task o) r = task
record_of (ends task o) r = task

-- The memory of m is that of q: the same control (Anchor, head), links and nexts; the same labels and marks, but for those that a thread owes;
-- each thread's record, once written.
pub record Agrees (m : Crew) (q : Queue) : Type 0 where
  pub control : m.queue.tables.control ≡ q.tables.control
  pub lefts : m.queue.tables.lefts ≡ q.tables.lefts
  pub rights : m.queue.tables.rights ≡ q.tables.rights
  pub next : m.queue.tables.next ≡ q.tables.next
  pub labels : (x : ℕ) → ((t : ℕ) → OwesLabel (m.hands t) x → ⊥) → get_or m.queue.tables.labels x 0 ≡ get_or q.tables.labels x 0
  pub marks : (x : ℕ) → ((t : ℕ) → OwesMark (m.hands t) x → ⊥) → marked m.queue.tables.marks x ≡ marked q.tables.marks x
  pub records : (t : ℕ) → record_of (m.hands t) (task_at m.queue t) ≡ task_at q t

-- A run of instructions is a list of starts and steps, in the order of their deciding instructions: the same memory, and each thread is told the
-- outcomes of its own, in their order, but the last one perhaps still owed.
pub record AsList (pooled slots : ℕ) (q : Queue) (l : List Act) : Type 0 where
  pub memory : Agrees (go_on pooled slots (all_free q) l) (final_turns q (turns pooled slots (all_free q) l))
  pub outcomes : (t : ℕ) → outcomes_of t (run_turns q (turns pooled slots (all_free q) l))
      ≡ told pooled slots (all_free q) l t ++ owed ((go_on pooled slots (all_free q) l).hands t)

-- The memory that threads leave. No thread is in the middle of a start or step.
abbrev pub memory_after : ℕ → ℕ → Queue → List Act → Queue
memory_after pooled slots q l = (go_on pooled slots (all_free q) l).queue

abbrev pub Rest : ℕ → ℕ → Queue → List Act → Type 0
Rest pooled slots q l = (t : ℕ) → (go_on pooled slots (all_free q) l).hands t ≡ free

-- What is seen since the opening, as one list: the past, then the turns of the threads.
abbrev pub seen_of : List Event → ℕ → ℕ → Queue → List Act → List Event
seen_of past pooled slots q l = past ++ run_turns q (turns pooled slots (all_free q) l)

-- A queue and its past: an accepted opening on any tables, then any plain starts and steps, and threads of the tasks opened that have come to rest, in
-- any alternation.
pub data Since (pooled : Bool) (tasks slots : ℕ) : List Event → Queue → Type 0 where
  opening : (q : Queue) (tag : ℕ) → (open_as pooled q tasks slots tag).outcome ≡ Opened → Since pooled tasks slots [] (open_as pooled q tasks slots tag).queue
  plain : (past : List Event) (q : Queue) → Since pooled tasks slots past q → (os : List Request) → Since pooled tasks slots (past ++ run q os) (final q os)
  threads : (past : List Event) (q : Queue) → Since pooled tasks slots past q → (l : List Act) → All (Known tasks) l → Rest (cond pooled 1 0) slots q l
      → Since pooled tasks slots (seen_of past (cond pooled 1 0) slots q l) (memory_after (cond pooled 1 0) slots q l)

-- Then any list of acts by threads of the tasks opened, so every prefix of a run too.
abbrev pub AfterThreads : (List Event → ℕ → ℕ → Queue → List Act → Type 0) → Type 0
AfterThreads P = (pooled : Bool) (tasks slots : ℕ) (past : List Event) (q : Queue) → Since pooled tasks slots past q
    → (l : List Act) → All (Known tasks) l → P past (cond pooled 1 0) slots q l

abbrev pub InstructionsStand : Type 0
InstructionsStand = AfterThreads (λ past. AsList)

-- So they are linearizable, in the words of `History`.
pub record ThreadsLinearized (past : List Event) (pooled slots : ℕ) (q : Queue) (l : List Act) : Type 0 where
  pub calls : All (λ (c : LedgerCall). Lawful c c.ending) (ledger (seen_of past pooled slots q l)).calls
  pub waits : contents (final_turns q (turns pooled slots (all_free q) l)).tables ≡ entries (ledger (seen_of past pooled slots q l)).deque

abbrev pub InstructionsLinearizable : Type 0
InstructionsLinearizable = AfterThreads ThreadsLinearized

-- Nobody is told 34: no word is found unsound, and no tag passes 32 bits.
abbrev pub ThreadsNeverUnsound : ℕ → ℕ → Queue → List Act → Type 0
ThreadsNeverUnsound pooled slots q l = (t : ℕ) → All (λ (o : Outcome). o ≡ Refused 34 → ⊥) (told pooled slots (all_free q) l t)

abbrev pub InstructionsNever34 : Type 0
InstructionsNever34 = AfterThreads (λ past. ThreadsNeverUnsound)

-- LABELS. An instruction touches one label at most, that of the slot named by `label_touched`: whatever another slot's label is, it does the same, and
-- leaves that label as it is.
abbrev pub relabelled : Ticked → ℕ → ℕ → Ticked
relabelled k x v =
    record { tables = with_labels k.tables (set k.tables.labels x v); hand = k.hand; decides = k.decides; early = k.early }

abbrev pub TouchesOneLabel : Type 0
TouchesOneLabel = (pooled slots : ℕ) (q : Tables) (r : Record) (k : Hand) (x v : ℕ) → label_touched pooled slots r k ≢ x
    → tick pooled slots (with_labels q (set q.labels x v)) r k ≡ relabelled (tick pooled slots q r k) x v

-- A label has one thread at a time: no two of the threads of the tasks opened have before them an instruction on the label of one slot. So loads and
-- stores of labels are never in a data race, and need not be atomic.
abbrev pub LabelsApart : ℕ → ℕ → Queue → List Act → Type 0
LabelsApart pooled slots q l =
    let m = go_on pooled slots (all_free q) l in
    (t u : ℕ) → t < q.tables.control.tasks → u < q.tables.control.tasks
    → label_next pooled slots m t ≢ 0 → label_next pooled slots m t ≡ label_next pooled slots m u → t ≡ u

abbrev pub InstructionsLabelsApart : Type 0
InstructionsLabelsApart = AfterThreads (λ past. LabelsApart)
