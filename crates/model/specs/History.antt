-- Histories: the events of a list of starts and steps, the calls among them, and what is promised of them. (Document 01: The clerk.)
use Rattle.std.specs.Prelude.{Err, Ok}
use mathlib.Core.{Path.◌≡◌, Bool.{Bool, true, false, ◌&&◌, ◌||◌, not, cond}, List.{List, [], ◌∷◌}}
use Rattle.std.specs.Prelude.{ℕ, suc, ◌<◌, ◌≤◌}
use lib.{Dec.{eqb, leb}, ListN.length}
use Rattle.word.specs.Anchor.{anchor_of}
use Rattle.model.specs.Outcomes.{Moved, Opened, Outcome, Refused}
use Rattle.model.specs.declared.{Entry.Entry, Call.Call}
use Rattle.model.specs.declared.Answer.{Answer, TheVariants.{Running, Pushed, Empty, Popped, NoFreeSlot}}
use Rattle.model.specs.{declared.{Op.{Op, TheVariants.{Push, Pop, PushPooled, Step}}, Report.Report}, Sides.near}
use Rattle.model.specs.{Tables.{Queue, marked, record_at}, Report.report}
use Rattle.model.specs.{Calls.{open_as, act}, Walk.{Walk, entries, contents}, Deque.{says_no_free_slot, serve_for}}
use Rattle.model.specs.{Lists.{every, All}, Kinds.{is_push, is_pop, giving}}

-- An operation of a task: an element of the list, with any numbers.
pub record Request : Type 0 where
  pub task : ℕ
  pub op : Op

-- What can be seen of it: what was asked, the outcome, and the Anchor word before and after.
pub record Event : Type 0 where
  pub task : ℕ
  pub op : Op
  pub outcome : Outcome
  pub before : ℕ
  pub after : ℕ

-- Each operation gets the tables as the last left them: the events, and the queue after them.
unfoldable pub run : Queue → List Request → List Event
run q [] = []
run q (o ∷ os) =
    let d = act q o.task o.op in
    record { task = o.task; op = o.op; outcome = d.outcome; before = q.tables.control.anchor; after = d.queue.tables.control.anchor }
    ∷ run d.queue os

unfoldable pub final : Queue → List Request → Queue
final q [] = q
final q (o ∷ os) = final (act q o.task o.op).queue os

-- An effect of a call: its position in the list, and what the sequential deque replied.
pub record Effect : Type 0 where
  pub at : ℕ
  pub reply : Answer

-- How far a call has come: not answered yet, or answered so at a position of the list.
pub data Ending : Type 0 where
  pending : Ending
  answered : (at : ℕ) (answer : Answer) → Ending

-- A call begins with an accepted start; kind, side, slot and label are as its start named them; `named` says whether it named a slot.
-- Its latest effect comes first.
pub record LedgerCall : Type 0 where
  pub task : ℕ
  pub kind : ℕ
  pub side : ℕ
  pub named : Bool
  pub entry : Entry
  pub start : ℕ
  pub effects : List Effect
  pub ending : Ending

-- The sequential deque and the calls, the latest first.
pub record Ledger : Type 0 where
  pub deque : List Entry
  pub calls : List LedgerCall

-- A call of task t that starts at position n: it has had no effect, and is not answered.
abbrev pub begins : ℕ → ℕ → ℕ → ℕ → Bool → Entry → LedgerCall
begins n t kind side named e = record { task = t; kind = kind; side = side; named = named; entry = e; start = n; effects = []; ending = pending }

-- The call with other effects and another ending.
abbrev pub continued : LedgerCall → List Effect → Ending → LedgerCall
continued c es e = record {
  task = c.task;
  kind = c.kind;
  side = c.side;
  named = c.named;
  entry = c.entry;
  start = c.start;
  effects = es;
  ending = e;
}

-- One call more, the latest.
abbrev pub over : LedgerCall → Ledger → Ledger
over c l = record { deque = l.deque; calls = c ∷ l.calls }

-- Not answered yet.
abbrev pub is_open : Ending → Bool
is_open pending = true
is_open (answered n a) = false

-- The answers that are effects though the queue stays: empty, no slot.
abbrev pub says_none : Answer → Bool
says_none (Running p) = false
says_none Pushed = false
says_none Empty = true
says_none (Popped e) = false
says_none NoFreeSlot = true

-- The first answer other than running ends the call.
abbrev pub ended : ℕ → Answer → Ending
ended n (Running p) = pending
ended n Pushed = answered n Pushed
ended n Empty = answered n Empty
ended n (Popped e) = answered n (Popped e)
ended n NoFreeSlot = answered n NoFreeSlot

-- A step is an effect if it leaves one or both ends of Anchor other than before, or answers empty or no slot.
unfoldable pub is_effect : Event → Answer → Bool
is_effect e a =
    let b = anchor_of e.before in
    let c = anchor_of e.after in
    not (eqb b.left c.left && eqb b.right c.right) || says_none a

-- A push that named no slot is told, at its effect, with the end at its side of Anchor after that step.
abbrev pub told_entry : LedgerCall → Event → Entry
told_entry c e = record { slot = cond c.named c.entry.slot (near c.side (anchor_of e.after)); label = c.entry.label }

-- *No slot* is for pushes that named none. To any other call so answered the deque replies as ever: the answer is then not its reply.
abbrev pub lacks_slot : LedgerCall → Answer → Bool
lacks_slot c a = says_no_free_slot a && (eqb c.kind 0 && not c.named)

-- The step at position n of call c: at an effect the sequential deque serves the call.
unfoldable pub step_of : ℕ → Event → Answer → List Entry → LedgerCall → List LedgerCall → Ledger
step_of n e a d c cs =
    let s = serve_for (lacks_slot c a) c.kind c.side (told_entry c e) d in
    cond (is_effect e a)
    (record { deque = s.deque; calls = continued c (record { at = n; reply = s.reply } ∷ c.effects) (ended n a) ∷ cs })
    (record { deque = d; calls = continued c c.effects (ended n a) ∷ cs })

-- A step belongs to every call of its task that has begun and is not answered.
unfoldable pub attend : ℕ → Event → Answer → List Entry → List LedgerCall → Ledger
attend n e a d [] = record { deque = d; calls = [] }
attend n e a d (c ∷ cs) =
    let l = attend n e a d cs in
    cond (eqb c.task e.task && is_open c.ending) (step_of n e a l.deque c l.calls) (over c l)

-- An accepted start adds a call, an accepted step is attended to; at a refusal nothing is done.
unfoldable pub accept : ℕ → Event → Op → Answer → Ledger → Ledger
accept n e (Push side slot label) a l = over (begins n e.task 0 side true (record { slot = slot; label = label })) l
accept n e (Pop side) a l = over (begins n e.task 1 side false (record { slot = 0; label = 0 })) l
accept n e (PushPooled side label) a l = over (begins n e.task 0 side false (record { slot = 0; label = label })) l
accept n e Step a l = attend n e a l.deque l.calls

-- What an event at position n makes of the ledger, by its outcome.
unfoldable pub note : ℕ → Event → Outcome → Ledger → Ledger
note n e (Err refusal) l = l
note n e (Ok a) l = accept n e e.op a l

-- The events from position n on, noted one after another.
unfoldable pub ledger_from : ℕ → Ledger → List Event → Ledger
ledger_from n l [] = l
ledger_from n l (e ∷ es) = ledger_from (suc n) (note n e e.outcome l) es

-- Positions count from 1; the deque is empty at opening.
abbrev pub ledger : List Event → Ledger
ledger es = ledger_from 1 (record { deque = []; calls = [] }) es

-- An answered call took effect exactly once, after its start and no later than its answer, which is the sequential deque's reply.
-- (The positions hold by how the ledger is kept; they are what later requests ask of a history.)
pub record Once (c : LedgerCall) (n : ℕ) (a : Answer) : Type 0 where
  pub effect : Effect
  pub only : c.effects ≡ effect ∷ []
  pub begun : c.start < effect.at
  pub within : effect.at ≤ n
  pub agrees : effect.reply ≡ a

-- Any other call took effect at most once, after its start.
abbrev pub AtMostOnce : LedgerCall → List Effect → Type 0
AtMostOnce c [] = Unit {0}
AtMostOnce c (e ∷ []) = c.start < e.at
AtMostOnce c (e ∷ f ∷ l) = ⊥

abbrev pub Lawful : LedgerCall → Ending → Type 0
Lawful c pending = AtMostOnce c c.effects
Lawful c (answered n a) = Once c n a

-- Every call is lawful, and the labels waiting are the sequential deque's queue.
pub record Linearized (q : Queue) (os : List Request) : Type 0 where
  pub calls : All (λ (c : LedgerCall). Lawful c c.ending) (ledger (run q os)).calls
  pub waits : contents (final q os).tables ≡ entries (ledger (run q os)).deque

-- No operation is refused as unsound.
pub record NeverUnsound (q : Queue) (os : List Request) : Type 0 where
  pub operations : All (λ (e : Event). e.outcome ≡ Refused 34 → ⊥) (run q os)

-- A report after them is told, and waiting is the length of the sequential deque's queue.
pub record Told (q : Queue) (os : List Request) : Type 0 where
  pub tells : Report
  pub is : report (final q os) ≡ Ok tells
  pub waiting : tells.waiting ≡ length (ledger (run q os)).deque

-- The list follows any accepted opening, named or pooled, on any tables; it may be empty, and may name any numbers.
abbrev pub AfterOpeningAs : Bool → (Queue → List Request → Type 0) → Type 0
AfterOpeningAs pooled P = (q : Queue) (tasks slots tag : ℕ) → (open_as pooled q tasks slots tag).outcome ≡ Opened → (os : List Request)
    → P (open_as pooled q tasks slots tag).queue os

abbrev pub AfterOpening : (Queue → List Request → Type 0) → Type 0
AfterOpening P = (pooled : Bool) → AfterOpeningAs pooled P

-- Demand 3; that 34 never occurs; and what a report tells (document 02, #102).
abbrev pub Linearizable : Type 0
Linearizable = AfterOpening Linearized

abbrev pub Never34 : Type 0
Never34 = AfterOpening NeverUnsound

abbrev pub Reports : Type 0
Reports = AfterOpening Told

-- Slot x waits in the queue.
pub data Waits (x : ℕ) : Walk → Type 0 where
  here : (e : Entry) (l : List Entry) → x ≡ e.slot → Waits x (entries (e ∷ l))
  later : (e : Entry) (l : List Entry) → Waits x (entries l) → Waits x (entries (e ∷ l))

-- A push holds its own slot between 14, or a start that names it, and its effect: at 1 to 10, and not finishing.
unfoldable pub push_holds : Call → ℕ → Bool
push_holds r x = every (leb 1 r.place ∷ leb r.place 10 ∷ is_push r ∷ eqb r.finishing 0 ∷ eqb r.own x ∷ [])

-- A pop holds the end that it took between its effect and 17: at 11, where its mark is cleared, and, as its own slot, at 15 to 17.
unfoldable pub pop_holds : Call → ℕ → Bool
pop_holds r x = every (eqb r.place 11 ∷ is_pop r ∷ eqb (near r.side (anchor_of r.seen)) x ∷ [])

unfoldable pub pop_gives : Call → ℕ → Bool
pop_gives r x = every (giving r ∷ is_pop r ∷ eqb r.own x ∷ [])

-- Slot x is taken: it waits, a push holds it, or a pop at 11 does.
pub data Taken (q : Queue) (x : ℕ) : Type 0 where
  waits : Waits x (contents q.tables) → Taken q x
  a_push_holds : (t : ℕ) → t < q.tables.control.tasks → push_holds (record_at q t) x ≡ true → Taken q x
  a_pop_holds : (t : ℕ) → t < q.tables.control.tasks → pop_holds (record_at q t) x ≡ true → Taken q x

-- Slot x is in use: it is taken, or a pop at 15 to 17 gives it back.
pub data InUse (q : Queue) (x : ℕ) : Type 0 where
  is_taken : Taken q x → InUse q x
  a_pop_gives : (t : ℕ) → t < q.tables.control.tasks → pop_gives (record_at q t) x ≡ true → InUse q x

-- *No slot* is true of a queue: if a step answers so, every slot is in use. (Request #104. Without it a program that loses slots passes.)
abbrev pub NoFreeSlotIn : Queue → Type 0
NoFreeSlotIn q = (t : ℕ) → (act q t Step).outcome ≡ Moved NoFreeSlot → (x : ℕ) → 1 ≤ x → x ≤ q.tables.control.slots → InUse q x

-- It is true of the queue after the list.
abbrev pub NoFreeSlotTrue : Queue → List Request → Type 0
NoFreeSlotTrue q os = NoFreeSlotIn (final q os)

abbrev pub NoFreeSlotRight : Type 0
NoFreeSlotRight = AfterOpeningAs true NoFreeSlotTrue

-- Of a queue: a slot's mark is set exactly where P holds of the slot. After a list: of the queue after it.
abbrev pub MarkedIn : (Queue → ℕ → Type 0) → Queue → Type 0
MarkedIn P q = (x : ℕ) → 1 ≤ x → x ≤ q.tables.control.slots
    → (marked q.tables.marks x ≡ true → P q x) × (P q x → marked q.tables.marks x ≡ true)

abbrev pub MarkedWhile : (Queue → ℕ → Type 0) → Queue → List Request → Type 0
MarkedWhile P q os = MarkedIn P (final q os)

-- It is set exactly while the slot is taken. (Without it a program whose pops leave their slots marked passes.)
abbrev pub MarksRight : Type 0
MarksRight = AfterOpening (MarkedWhile Taken)

-- In a named queue, where no pop is at 15 to 17, that is while the slot is in use.
abbrev pub MarksNamed : Type 0
MarksNamed = AfterOpeningAs false (MarkedWhile InUse)
