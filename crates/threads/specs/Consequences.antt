-- What follows for the memory that threads leave, at every moment and at rest, for real time, for the labels, and for progress.
use mathlib.Core.{Path.◌≡◌, Bool.{cond, true}, List.{List, [], ◌∷◌, ◌++◌}, Logic.◌≢◌}
use Rattle.std.specs.Prelude.{ℕ, ◌+◌, ◌<◌, ◌≤◌, eqb}
use Rattle.model.specs.Outcomes.{Refused}
use Rattle.model.specs.{Tables.{Queue, is_pooled, marked, with_marks}, Lists.All}
use Rattle.model.specs.{History.{Event, Lawful, Ledger, LedgerCall, Request, final, ledger, run}, Standing.Standing}
use Rattle.model.specs.{Walk.{contents, entries}, Progress.{any, steps, stretch_limit, took_effect_or_answered}}
use Rattle.stock_model.specs.Accounts.{AccountedIn, AddedUp}
use Rattle.threads_model.specs.{Turns.{run_turns, final_turns}, Instructions.free}
use Rattle.threads_model.specs.Crew.{Act, calls, next, all_free, go_on, turns, told, outcomes_of, owed}
use Rattle.threads.specs.Promises.{AfterThreads, Rest, memory_after, seen_of}

-- MEMORY. At every moment, also while calls are under way: a queue on which a call that walks may rely, whose walk meets the sequential deque's queue.
abbrev pub MemoryStands : List Event → ℕ → ℕ → Queue → List Act → Type 0
MemoryStands past pooled slots q l = Standing (memory_after pooled slots q l) (ledger (seen_of past pooled slots q l)).deque

abbrev pub InstructionsMemory : Type 0
InstructionsMemory = AfterThreads MemoryStands

-- The memory m is the queue q, mark by mark.
pub record SameQueue (m q : Queue) : Type 0 where
  pub tables : m.tables ≡ with_marks q.tables m.tables.marks
  pub marks : (x : ℕ) → marked m.tables.marks x ≡ marked q.tables.marks x
  pub records : m.records ≡ q.records

-- Of plain starts and steps, their events es and the queue q after them, with the ledger kept since the opening: every call is lawful, the threads'
-- too, the labels waiting are the sequential deque's queue, and 34 never occurs.
pub record GoesOn (es : List Event) (q : Queue) (kept : Ledger) : Type 0 where
  pub calls : All (λ (c : LedgerCall). Lawful c c.ending) kept.calls
  pub waits : contents q.tables ≡ entries kept.deque
  pub never : All (λ (e : Event). e.outcome ≡ Refused 34 → ⊥) es

-- At rest the memory is the list's queue, and any plain starts and steps may follow.
pub record RestsWell (past : List Event) (pooled slots : ℕ) (q : Queue) (l : List Act) : Type 0 where
  pub same : SameQueue (memory_after pooled slots q l) (final_turns q (turns pooled slots (all_free q) l))
  pub goes_on : (os : List Request) → let m = memory_after pooled slots q l in GoesOn (run m os) (final m os) (ledger (seen_of past pooled slots q l ++ run m os))

abbrev pub InstructionsAtRest : Type 0
InstructionsAtRest = AfterThreads (λ past pooled slots q l. Rest pooled slots q l → RestsWell past pooled slots q l)

-- REAL TIME. Cut a run anywhere, and the list is cut there too. What a thread was told before the cut has its turns before it, and so has one outcome
-- that it may still be owed; every other has its turn behind it. So a call that was answered before another was begun stands before it in the list.
pub record RealTime (pooled slots : ℕ) (q : Queue) (first second : List Act) : Type 0 where
  pub cut : let m = go_on pooled slots (all_free q) first in
      turns pooled slots (all_free q) (first ++ second) ≡ turns pooled slots (all_free q) first ++ turns pooled slots m second
  pub before : (t : ℕ) → outcomes_of t (run_turns q (turns pooled slots (all_free q) first))
      ≡ told pooled slots (all_free q) first t ++ owed ((go_on pooled slots (all_free q) first).hands t)
  pub behind : (t : ℕ) → let m = go_on pooled slots (all_free q) first in
      owed (m.hands t) ++ outcomes_of t (run_turns (final_turns q (turns pooled slots (all_free q) first)) (turns pooled slots m second))
      ≡ told pooled slots m second t ++ owed ((go_on pooled slots m second).hands t)

abbrev pub InstructionsRealTime : Type 0
InstructionsRealTime = AfterThreads (λ past pooled slots q l. (first second : List Act) → l ≡ first ++ second → RealTime pooled slots q first second)

-- LABELS. Every label is accounted for (#114), and the sum: of the list's events and its queue, whose waiting labels are the memory's.
pub record LabelsCounted (past : List Event) (pooled slots : ℕ) (q : Queue) (l : List Act) : Type 0 where
  pub each : AccountedIn (seen_of past pooled slots q l) (final_turns q (turns pooled slots (all_free q) l))
  pub sum : AddedUp (seen_of past pooled slots q l) (final_turns q (turns pooled slots (all_free q) l))

abbrev pub InstructionsAccounted : Type 0
InstructionsAccounted = AfterThreads LabelsCounted

-- PROGRESS. How many instructions of thread t are in a list of acts.
abbrev pub own_in : ℕ → List Act → ℕ
own_in t [] = 0
own_in t (calls o ∷ l) = own_in t l
own_in t (next u ∷ l) = cond (eqb u t) 1 0 + own_in t l

-- A thread that is in a start or a step is told its outcome within four instructions of its own, the last of which writes its record: wherever the
-- others are stopped, and whatever they do meanwhile. (How many steps a call takes is another matter: #108.)
abbrev pub GoesAhead : ℕ → ℕ → Queue → List Act → Type 0
GoesAhead pooled slots q l = (first second : List Act) → l ≡ first ++ second →
    let m = go_on pooled slots (all_free q) first in
    (t : ℕ) → t < q.tables.control.tasks → m.hands t ≢ free → 4 ≤ own_in t second → told pooled slots m second t ≢ []

abbrev pub InstructionsGoOn : Type 0
InstructionsGoOn = AfterThreads (λ past. GoesAhead)

-- Among all threads some call goes on: after any acts, if the turns of a stretch of acts hold so many accepted steps (#108), a call took effect or
-- answered in it.
abbrev pub ThreadsStretch : ℕ → ℕ → Queue → List Act → Type 0
ThreadsStretch pooled slots q l = (first second : List Act) → l ≡ first ++ second →
    let m = go_on pooled slots (all_free q) first in
    let es = run_turns (final_turns q (turns pooled slots (all_free q) first)) (turns pooled slots m second) in
    let c = q.tables.control in
    stretch_limit (is_pooled c) c.tasks ≤ steps es → any took_effect_or_answered es ≡ true

abbrev pub InstructionsStretch : Type 0
InstructionsStretch = AfterThreads (λ past. ThreadsStretch)
