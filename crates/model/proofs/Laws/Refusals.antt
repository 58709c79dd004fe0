-- A refusal is its number alone, that of the first rule that applies; every table keeps its contents.
use mathlib.Core.{Path.{◌≡◌, refl, ap, ◌∙◌}, Bool.{Bool, true, false, not, cond}, Logic.◌≢◌, List.{List, [], ◌∷◌}}
use Prim.Native.Nat.{ℕ}
use native.Mathlib.Omega.{arith}
use lib.{Dec.eqb, Seq.set-get_or}
use borrow.Author.Tests.{eqb-false, ne_eqb, not-true}
use Rattle.model.specs.{declared.{Call.Call, Record.Record, Answer.{Answer, TheVariants.Running}}, Lists.All}
use Rattle.model.specs.declared.Op.{Op, TheVariants.{Push, Pop, PushPooled, Step}}
use Rattle.model.specs.Outcomes.{Moved, Opened, Refused}
use Rattle.model.specs.Tables.{Tables, Queue, unused, task_at}
use Rattle.model.specs.Refusals.{Rule, rule, first, open_rules, open_refusal, Lent, among, alone, fits, start_rules}
use Rattle.model.specs.Refusals.{start_refusal, named_push, pooled_push, nothing_asked, step_rules, step_refusal}
use Rattle.model.specs.Calls.{opened, OpenDone, open_as, Acted, decide, push_start, push_pooled_start, pop_start, step}
use Rattle.model.specs.Calls.{finish, act_on, back, act, step_lent}
use Rattle.model.proofs.Tests.{Rules.numbered, Truth.and-true}

-- No rule of a list applies; and the first of a list to apply has number n.
abbrev pub NoneApplies : List Rule → Type 0
NoneApplies l = All (λ (r : Rule). r.applies ≡ false) l

pub data FirstApplies (n : ℕ) : List Rule → Type 0 where
  here : {l : List Rule} → FirstApplies n (rule n true ∷ l)
  later : {m : ℕ} {l : List Rule} → FirstApplies n l → FirstApplies n (rule m false ∷ l)

-- What `first` finds: 0 if none applies, else the number of the first that does.
data Found (l : List Rule) : ℕ → Type 0 where
  none : NoneApplies l → Found l 0
  some : (n : ℕ) → n ≢ 0 → FirstApplies n l → Found l n

find_from : (b : Bool) (m : ℕ) {l : List Rule} {n : ℕ} → m ≢ 0 → Found l n → Found (rule m b ∷ l) (cond b m n)
find_from true m h f = some m h here
find_from false m h (none a) = none (refl, a)
find_from false m h (some n g a) = some n g (later a)

find : (l : List Rule) → numbered l ≡ true → Found l (first l)
find [] h = none tt
find (r ∷ l) h =
    let z = and-true (not (eqb r.number 0)) (numbered l) h in
    find_from r.applies r.number (eqb-false _ _ (not-true _ z.0)) (find l z.1)

-- A start or step is carried out if no rule applies; else it answers the first one's number, and record and tables are as they were.
pub data Decided (rules : List Rule) (q : Tables) (r : Record) : Acted → Type 0 where
  accepted : {done : Acted} (a : Answer) → NoneApplies rules → done.outcome ≡ Moved a → Decided rules q r done
  refused : (n : ℕ) → FirstApplies n rules → Decided rules q r (record { tables = q; task = r; outcome = Refused n })

decided_by : (rules : List Rule) → numbered rules ≡ true → (q : Tables) (r : Record) (done : Acted) (a : Answer) → done.outcome ≡ Moved a
    → Decided rules q r (decide (first rules) q r done)
decided_by rules h q r done a e = go (first rules) (find rules h)
  where
    go : (n : ℕ) → Found rules n → Decided rules q r (decide n q r done)
    go _ (none n) = accepted a n e
    go _ (some n h f) = rw (ne_eqb n 0 h) (refused n f)

-- The rules of a start or step, in order.
abbrev pub rules_of : Tables → Lent → Call → Op → List Rule
rules_of q p r (Push side slot label) = start_rules q.control (fits q) p r side (named_push q slot)
rules_of q p r (Pop side) = start_rules q.control (fits q) p r side nothing_asked
rules_of q p r (PushPooled side label) = start_rules q.control (fits q) p r side (pooled_push q)
rules_of q p r Step = step_rules q p r

pub decided : (q : Tables) (p : Lent) (r : Record) (o : Op) → Decided (rules_of q p r.call o) q r (act_on q p r o)
unfolding act_on push_start push_pooled_start pop_start step finish start_refusal step_refusal
decided q p r (Push side slot label) = decided_by (rules_of q p r.call (Push side slot label)) refl q r _ (Running 1) refl
decided q p r (Pop side) = decided_by (rules_of q p r.call (Pop side)) refl q r _ (Running 1) refl
decided q p r (PushPooled side label) = decided_by (rules_of q p r.call (PushPooled side label)) refl q r _ (Running 12) refl
decided q p r Step = decided_by (step_rules q p r.call) refl q r _ _ refl

-- What a refused start or step of a record leaves.
unmoved : {rules : List Rule} {q : Tables} {r : Record} {done : Acted} → Decided rules q r done → (n : ℕ) → done.outcome ≡ Refused n
    → done ≡ record { tables = q; task = r; outcome = Refused n }
unmoved (accepted a f e) n h = absurd (let z : ◌≡◌ {A = ℕ} 0 1 = cc in omega arith)
unmoved {q = q} {r = r} (refused m f) n h = λ i. record { tables = q; task = r; outcome = h i }

pub act-refused : (q : Queue) (t : ℕ) (o : Op) (n : ℕ) → (act q t o).outcome ≡ Refused n → (act q t o).queue ≡ q
unfolding act
act-refused q t o n h =
    let e = unmoved (decided q.tables (among q t) (task_at q t) o) n h in
    ap (λ (a : Acted). (back q t a).queue) e ∙ λ i. record { tables = q.tables; records = set-get_or q.records t unused i }

pub lent-refused : (q : Tables) (r : Record) (n : ℕ) → (step_lent q r).outcome ≡ Refused n → step_lent q r ≡ record {
  tables = q;
  task = r;
  outcome = Refused n;
}
unfolding step_lent act_on
lent-refused q r n h = unmoved (decided q alone r Step) n h

-- An opening, likewise.
pub data OpenDecided (rules : List Rule) (q new : Queue) : OpenDone → Type 0 where
  accepted-opening : NoneApplies rules → OpenDecided rules q new (record { queue = new; outcome = Opened })
  refused-opening : (n : ℕ) → FirstApplies n rules → OpenDecided rules q new (record { queue = q; outcome = Refused n })

pub open_decided : (pooled : Bool) (q : Queue) (tasks slots tag : ℕ)
    → OpenDecided (open_rules pooled q tasks slots) q (opened pooled q tasks slots tag) (open_as pooled q tasks slots tag)
unfolding open_as open_refusal
open_decided pooled q tasks slots tag = go (find (open_rules pooled q tasks slots) refl)
  where
    go : {n : ℕ} → Found (open_rules pooled q tasks slots) n
        → OpenDecided (open_rules pooled q tasks slots) q (opened pooled q tasks slots tag)
        (cond (eqb n 0) (record { queue = opened pooled q tasks slots tag; outcome = Opened })
        (record { queue = q; outcome = Refused n }))
    go (none f) = accepted-opening f
    go (some n h f) = rw (ne_eqb n 0 h) (refused-opening n f)

pub open_refused : (pooled : Bool) (q : Queue) (tasks slots tag n : ℕ) → (open_as pooled q tasks slots tag).outcome ≡ Refused n
    → (open_as pooled q tasks slots tag).queue ≡ q
open_refused pooled q tasks slots tag n h = go (open_decided pooled q tasks slots tag) h
  where
    go : {done : OpenDone} → OpenDecided (open_rules pooled q tasks slots) q (opened pooled q tasks slots tag) done
        → done.outcome ≡ Refused n → done.queue ≡ q
    go (accepted-opening f) h = absurd (let z : ◌≡◌ {A = ℕ} 0 1 = cc in omega arith)
    go (refused-opening m f) h = refl
