-- The relation between threads and list: the same memory but for the labels and marks that a thread owes, each of a slot that it owns.
use mathlib.Core.{Path.{◌≡◌, ap, sym, subst}, Bool.{true, false}, List.List}
use Prim.Native.Nat.{ℕ, ◌<◌}
use lib.{Dec.eqb, ListN.{length, get_or, set}}
use borrow.Author.Tests.{eqb-false}
use Rattle.model.specs.{declared.Record.Record, Tables.{Tables, Queue, task_at, marked}, Sound.link_sound, Calls.Acted}
use Rattle.model.proofs.Invariant.Owners.{Owner, held}
use Rattle.threads_model.specs.{Split.plan, Crew.Crew}
use Rattle.threads_model.specs.Instructions.{Hand, free, begun, loaded, knows, claims, looks, labels, marks, ends}
use Rattle.threads.specs.Promises.{record_of, OwesLabel, OwesMark, Agrees}
use Rattle.threads.proofs.Follow.{Overlay.overlay, Starting.named_own, Good.Good}
use Rattle.threads.proofs.Follow.Good as own

-- A push at place 1 with slot x.
pub record Holds (r : Record) (x : ℕ) : Type 0 where
  pub place : r.call.place ≡ 1
  pub kind : r.call.kind ≡ 0
  pub slot : r.call.own ≡ x

-- What a start or step of the list writes of the labels: nothing, or the label of the slot that the task then has.
pub data Wrote (before : List ℕ) (a : Acted) : Type 0 where
  none : a.tables.labels ≡ before → Wrote before a
  one : (slot label : ℕ) → a.tables.labels ≡ set before slot label → Holds a.task slot → Wrote before a

module _ (tasks pooled slots : ℕ) where
  -- What is known besides, of thread t with the record r, where l are the labels of the list.
  abbrev pub Extra : ℕ → Record → List ℕ → Hand → Type 0
  Extra t r l free = Unit {0}
  Extra t r l (begun op) = Unit {0}
  Extra t r l (loaded w) = eqb (plan pooled slots r.call).act 11 ≡ false → ((plan pooled slots r.call).act ≡ 5) × (link_sound slots w ≡ true)
  Extra t r l (knows label) = (t < tasks) × ((plan pooled slots r.call).act ≡ 6) × (label ≡ get_or l (plan pooled slots r.call).slot 0)
  Extra t r l (claims side slot label) = named_own pooled slots r.call side slot ≡ 0
  Extra t r l (looks side slot label) = named_own pooled slots r.call side slot ≡ 0
  Extra t r l (labels both slot label task o) = (t < tasks) × Holds task slot × (task.call.label ≡ label) × (both ≡ true → pooled ≡ 1)
  Extra t r l (marks slot task o) = (t < tasks) × Holds task slot × (pooled ≡ 1)
  Extra t r l (ends task o) = Unit {0}

  pub record Sim (m : Crew) (q : Queue) : Type 0 where
    pub rest : m.queue.tables ≡ overlay q.tables m.queue.tables.labels m.queue.tables.marks
    pub labels-long : length m.queue.tables.labels ≡ length q.tables.labels
    pub marks-long : length m.queue.tables.marks ≡ length q.tables.marks
    pub labels : (x : ℕ) → ((t : ℕ) → OwesLabel (m.hands t) x → ⊥) → get_or m.queue.tables.labels x 0 ≡ get_or q.tables.labels x 0
    pub marks : (x : ℕ) → ((t : ℕ) → OwesMark (m.hands t) x → ⊥) → marked m.queue.tables.marks x ≡ marked q.tables.marks x
    pub long : length m.queue.records ≡ length q.records
    pub records : (t : ℕ) → record_of (m.hands t) (task_at m.queue t) ≡ task_at q t
    pub extra : (t : ℕ) → Extra t (task_at m.queue t) q.tables.labels (m.hands t)

  -- What the simulation says of memory.
  pub agrees : (m : Crew) (q : Queue) → Sim m q → Agrees m q
  agrees m q f = record {
    control = ap (λ (x : Tables). x.control) f.rest;
    lefts = ap (λ (x : Tables). x.lefts) f.rest;
    rights = ap (λ (x : Tables). x.rights) f.rest;
    next = ap (λ (x : Tables). x.next) f.rest;
    labels = f.labels;
    marks = f.marks;
    records = f.records;
  }

  module _ (m : Crew) (q : Queue) (f : Sim m q) (g : Good tasks pooled slots q) where
    abbrev pub T : Tables
    T = m.queue.tables

    abbrev pub G : Tables
    G = q.tables

    abbrev pub h : ℕ → Owner
    h = g.matched.inv.owner

    pub control : T.control ≡ G.control
    control = ap (λ (q : Tables). q.control) f.rest

    -- What is owed is the owner's.
    pub holds-held : (u : ℕ) → u < tasks → (x : ℕ) → Holds (task_at q u) x → h x ≡ held u
    holds-held u lu x k = subst (λ (x : ℕ). h x ≡ held u) k.slot (own.own1 tasks pooled slots q g u lu k.place k.kind).0

    pub owes_label : (u x : ℕ) (k : Hand) → record_of k (task_at m.queue u) ≡ task_at q u → Extra u (task_at m.queue u) G.labels k → OwesLabel k x
        → h x ≡ held u
    owes_label u x free e z o = absurd o
    owes_label u x (begun op) e z o = absurd o
    owes_label u x (loaded w) e z o = absurd o
    owes_label u x (knows l) e z o = absurd o
    owes_label u x (claims s y l) e z o = absurd o
    owes_label u x (looks s y l) e z o = absurd o
    owes_label u x (labels both y l r p) e z o =
        subst (λ (x : ℕ). h x ≡ held u) (sym o) (holds-held u z.0 y (subst (λ (r : Record). Holds r y) e z.1))
    owes_label u x (marks y r p) e z o = absurd o
    owes_label u x (ends r p) e z o = absurd o

    owes_mark : (u x : ℕ) (k : Hand) → Extra u (task_at m.queue u) G.labels k → OwesMark k x → pooled ≡ 1
    owes_mark u x free z o = absurd o
    owes_mark u x (begun op) z o = absurd o
    owes_mark u x (loaded w) z o = absurd o
    owes_mark u x (knows l) z o = absurd o
    owes_mark u x (claims s y l) z o = absurd o
    owes_mark u x (looks s y l) z o = absurd o
    owes_mark u x (labels both y l r p) z o = z.3 o.0
    owes_mark u x (marks y r p) z o = z.2
    owes_mark u x (ends r p) z o = absurd o

    -- In a named queue no mark is owed.
    pub named-mark : eqb pooled 1 ≡ false → (x : ℕ) → marked T.marks x ≡ marked G.marks x
    named-mark n x = f.marks x (λ u o. eqb-false _ _ n (owes_mark u x (m.hands u) (f.extra u) o))

-- A moment of a run, seen from the thread that makes the next instruction.
pub record Moment : Type 0 where
  pub tasks : ℕ
  pub pooled : ℕ
  pub slots : ℕ
  pub crew : Crew
  pub queue : Queue
  pub sim : Sim tasks pooled slots crew queue
  pub good : Good tasks pooled slots queue
  pub thread : ℕ
  pub known : thread < tasks
