-- What is promised of the joining, beyond what it answers. (Document 02, #113.)
use mathlib.Core.{Path.◌≡◌, Logic.◌≢◌, Bool.true, List.{List, [], ◌∷◌, ◌++◌}}
use Rattle.std.specs.Prelude.{ℕ, suc, ◌+◌, ◌/◌, ◌≤◌, get_or}
use Rattle.model.specs.Outcomes.{Moved, Opened, Outcome}
use Rattle.model.specs.declared.{Answer.TheVariants.{Running, Pushed}, Entry.Entry}
use Rattle.model.specs.Tables.{Tables, Queue, with_marks, with_next}
use Rattle.model.specs.{Calls.open_queue, Standing.Standing, Lists.copies, Walk.{contents, entries}}
use Rattle.model.specs.History.{Request, run, final, ledger, Linearized, NeverUnsound, AfterOpening}
use Rattle.stock_model.specs.Accounts.{waiting_labels, Accounted, StockSum}
use Rattle.join_model.specs.{Merge.{merge, Interleaved, Ascending}, Closed.join_closed}
use Rattle.join_model.specs.Join.{fresh, lanes, pushes, outcomes, join_refusal, join}

-- Each queue keeps its own order, and two ascending queues give an ascending one; a tie goes to the first; no label is lost or made.
abbrev pub OwnOrder : Type 0
OwnOrder = (a b : Queue) → Interleaved (waiting_labels a.tables) (waiting_labels b.tables) (lanes a b)

abbrev pub StaysAscending : Type 0
StaysAscending = (a b : Queue) → Ascending (waiting_labels a.tables) → Ascending (waiting_labels b.tables) → Ascending (lanes a b)

abbrev pub TieToFirst : Type 0
TieToFirst = (x : ℕ) (xs ys : List ℕ) → merge (x ∷ xs) (x ∷ ys) ≡ x ∷ merge xs (x ∷ ys)

abbrev pub SameCopies : Type 0
SameCopies = (a b : Queue) (x : ℕ) → copies x (lanes a b) ≡ copies x (waiting_labels a.tables) + copies x (waiting_labels b.tables)

-- A refusal changes nothing.
abbrev pub RefusalKeeps : Type 0
RefusalKeeps = (a b q : Queue) → (join a b q).code ≢ 0 → (join a b q).third ≡ q

-- A queue with other marks and another next table.
abbrev pub besides : Queue → List ℕ → List ℕ → Queue
besides q marks next = record { tables = with_next (with_marks q.tables marks) next; records = q.records }

-- What is not lent does not count: marks and next tables of the sources, and the third's next table, which stays as it was.
abbrev pub NotLent : Type 0
NotLent = (a b q : Queue) (marks1 next1 marks2 next2 next : List ℕ)
    → join (besides a marks1 next1) (besides b marks2 next2) (besides q q.tables.marks next)
    ≡ record { code = (join a b q).code; third = besides (join a b q).third (join a b q).third.tables.marks next }

-- Every bit of rows 0 to slots and of their mark words is zero in a third that is accepted; and an opening with named slots leaves a fresh queue.
pub record Zeros (t : Tables) : Type 0 where
  pub lefts : (i : ℕ) → i ≤ t.control.slots → get_or t.lefts i 0 ≡ 0
  pub rights : (i : ℕ) → i ≤ t.control.slots → get_or t.rights i 0 ≡ 0
  pub labels : (i : ℕ) → i ≤ t.control.slots → get_or t.labels i 0 ≡ 0
  pub marks : (i : ℕ) → i ≤ t.control.slots / 64 → get_or t.marks i 0 ≡ 0

abbrev pub OnlyFresh : Type 0
OnlyFresh = (a b q : Queue) → join_refusal a b q ≡ 0 → Zeros q.tables

abbrev pub OpenedFresh : Type 0
OpenedFresh = (q : Queue) (tasks slots tag : ℕ) → (open_queue q tasks slots tag).outcome ≡ Opened → fresh (open_queue q tasks slots tag).queue ≡ true

-- The pushes and 33, word by word.
abbrev pub ClosedForm : Type 0
ClosedForm = (a b q : Queue) → join a b q ≡ join_closed a b q

-- Each push is answered by its last step and not before.
abbrev pub answers_one : List Outcome
answers_one = Moved (Running 1) ∷ Moved (Running 2) ∷ Moved Pushed ∷ []

abbrev pub answers_next : List Outcome
answers_next =
    Moved (Running 1) ∷ Moved (Running 3) ∷ Moved (Running 4) ∷ Moved (Running 5) ∷ Moved (Running 6) ∷ Moved (Running 7)
    ∷ Moved (Running 8) ∷ Moved (Running 9) ∷ Moved (Running 10) ∷ Moved Pushed ∷ []

abbrev pub answers_more : List ℕ → List Outcome
answers_more [] = []
answers_more (x ∷ l) = answers_next ++ answers_more l

abbrev pub answers : List ℕ → List Outcome
answers [] = []
answers (x ∷ l) = answers_one ++ answers_more l

abbrev pub AllAnswered : Type 0
AllAnswered = (a b q : Queue) → join_refusal a b q ≡ 0 → outcomes (run q (pushes 1 (lanes a b))) ≡ answers (lanes a b)

-- The labels go into slots 1, 2 and so on, and wait there.
abbrev pub numbered : ℕ → List ℕ → List Entry
numbered k [] = []
numbered k (x ∷ l) = record { slot = k; label = x } ∷ numbered (suc k) l

abbrev pub JoinedWait : Type 0
JoinedWait = (a b q : Queue) → join_refusal a b q ≡ 0 → contents (join a b q).third.tables ≡ entries (numbered 1 (lanes a b))

-- A third that was opened, used and then joined: its history is the list before, the pushes, and what comes later, and is linearized.
-- The sequential deque has the labels from the joining on, after all calls before it and before every later one; every label is accounted
-- for, those joined as pushed at the joining, and all of them add up. (Document 02, #114.)
pub record Continued (q : Queue) (os joining later : List Request) (third : Queue) (labels : List ℕ) : Type 0 where
  pub leaves : final third later ≡ final q (os ++ joining ++ later)
  pub joins : (ledger (run q (os ++ joining))).deque ≡ numbered 1 labels
  pub linearized : Linearized q (os ++ joining ++ later)
  pub sound : NeverUnsound q (os ++ joining ++ later)
  pub accounted : Accounted q (os ++ joining ++ later)
  pub stock : StockSum q (os ++ joining ++ later)

abbrev pub Continues : Type 0
Continues =
    AfterOpening (λ q os. (a b : Queue) → join_refusal a b (final q os) ≡ 0 → (later : List Request)
    → Continued q os (pushes 1 (lanes a b)) later (join a b (final q os)).third (lanes a b))

-- 34 never occurs: of three queues on which a call that walks may rely, and so of three that were each made by an opening and a list.
abbrev pub StandingJoinings : Type 0
StandingJoinings = (a b q : Queue) (d e f : List Entry) → Standing a d → Standing b e → Standing q f → join_refusal a b q ≢ 34

abbrev pub JoinNever34 : Type 0
JoinNever34 = AfterOpening (λ a ks. AfterOpening (λ b ls. AfterOpening (λ q os. join_refusal (final a ks) (final b ls) (final q os) ≢ 34)))
