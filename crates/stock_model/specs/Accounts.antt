-- Every label accounted for, from the history of effects. (Document 02, #114.)
use mathlib.Core.{Path.◌≡◌, Bool.{Bool, ◌||◌, cond, not}, List.{List, [], ◌∷◌, ◌++◌, map}}
use Rattle.std.specs.Prelude.{ℕ, ◌+◌}
use lib.{Dec.eqb, ListN.length}
use Rattle.model.specs.{declared.{Call.Call, Entry.Entry}, Tables.{Tables, Queue, record_at}, Walk.{contents, met}}
use Rattle.model.specs.declared.Answer.{Answer, TheVariants.{Running, Pushed, Empty, Popped, NoFreeSlot}}
use Rattle.model.specs.History.{Event, Request, run, final, Effect, Ending, pending, answered, LedgerCall, ledger}
use Rattle.model.specs.{History.AfterOpening, Kinds.giving, Lists.{All, copies}}

-- The lists that f gives for each entry, one after the other.
unfoldable pub each : {A : Type 0} → (A → List ℕ) → List A → List ℕ
each f [] = []
each f (x ∷ l) = f x ++ each f l

-- The label that the reply to a call with label x says is pushed, none with *no slot*; and the label that a reply says is popped.
abbrev pub label_pushed : ℕ → Answer → List ℕ
label_pushed x (Running p) = []
label_pushed x Pushed = x ∷ []
label_pushed x Empty = []
label_pushed x (Popped e) = []
label_pushed x NoFreeSlot = []

abbrev pub label_popped : Answer → List ℕ
label_popped (Running p) = []
label_popped Pushed = []
label_popped Empty = []
label_popped (Popped e) = e.label ∷ []
label_popped NoFreeSlot = []

-- The labels whose push took effect.
abbrev pub pushed_labels : List LedgerCall → List ℕ
pushed_labels cs = each (λ (c : LedgerCall). each (λ (e : Effect). label_pushed c.entry.label e.reply) c.effects) cs

-- The labels taken by a pop's effect.
abbrev pub popped_by : LedgerCall → List ℕ
popped_by c = each (λ (e : Effect). label_popped e.reply) c.effects

abbrev pub popped_labels : List LedgerCall → List ℕ
popped_labels cs = each popped_by cs

-- The labels of pops answered *popped*.
abbrev pub answered_by : Ending → List ℕ
answered_by pending = []
answered_by (answered n a) = label_popped a

abbrev pub answered_labels : List LedgerCall → List ℕ
answered_labels cs = each (λ (c : LedgerCall). answered_by c.ending) cs

-- The labels of pops that took effect but haven't answered yet.
abbrev pub held_by : LedgerCall → Ending → List ℕ
held_by c pending = popped_by c
held_by c (answered n a) = []

abbrev pub held_labels : List LedgerCall → List ℕ
held_labels cs = each (λ (c : LedgerCall). held_by c c.ending) cs

-- The labels waiting, from left to right.
abbrev pub waiting_labels : Tables → List ℕ
waiting_labels q = map (λ (e : Entry). e.label) (met (contents q))

-- A pop between its effect and its answer: at 11, in a pooled queue also at 15 to 17.
abbrev pub has_popped : Call → Bool
has_popped r = eqb r.place 11 || giving r

-- A push has had its effect once it is finishing: so one that holds its slot (`push_holds`) has had none.
abbrev pub has_pushed : Call → Bool
has_pushed r = not (eqb r.finishing 0)

abbrev pub has_had_effect : ℕ → Call → Bool
has_had_effect kind r = cond (eqb kind 0) (has_pushed r) (has_popped r)

-- A call that hasn't answered yet took effect exactly where its record says so.
abbrev pub Stands : Queue → LedgerCall → Ending → Type 0
Stands q c pending = length c.effects ≡ cond (has_had_effect c.kind (record_at q c.task)) 1 0
Stands q c (answered n a) = Unit {0}

-- Of a history and the queue as it stands: each label pushed, and no other, has either been taken by one pop's effect or is waiting, copies
-- counted. The pops answered and those that haven't answered yet make up those taken. Of a call that hasn't answered yet the record says
-- whether it took effect: of a pop as #114 has it, of a push by document 01's *finishing*.
pub record AccountedIn (es : List Event) (q : Queue) : Type 0 where
  pub every_push : (x : ℕ) → let cs = (ledger es).calls in copies x (pushed_labels cs) ≡ copies x (popped_labels cs) + copies x (waiting_labels q.tables)
  pub every_pop : (x : ℕ) → let cs = (ledger es).calls in copies x (popped_labels cs) ≡ copies x (answered_labels cs) + copies x (held_labels cs)
  pub stands : All (λ (c : LedgerCall). Stands q c c.ending) (ledger es).calls

-- All labels added up, as stock control does.
abbrev pub AddedUp : List Event → Queue → Type 0
AddedUp es q =
    let cs = (ledger es).calls in
    length (pushed_labels cs) ≡ length (answered_labels cs) + length (held_labels cs) + length (waiting_labels q.tables)

-- After every list from an opening on.
abbrev pub Accounted : Queue → List Request → Type 0
Accounted q os = AccountedIn (run q os) (final q os)

abbrev pub EveryLabel : Type 0
EveryLabel = AfterOpening Accounted

abbrev pub StockSum : Queue → List Request → Type 0
StockSum q os = AddedUp (run q os) (final q os)

abbrev pub StockTaking : Type 0
StockTaking = AfterOpening StockSum
