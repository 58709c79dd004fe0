-- A start or step keeps the numbers of tasks and slots; so tables that were long enough stay so.
use mathlib.Core.{Path.{◌≡◌, ap, refl}, Bool.{Bool, ◌&&◌, ◌||◌, cond, false, not, true}, List.{List, [], ◌∷◌}}
use Prim.Native.Nat.{ℕ, ◌+◌, ◌/◌}
use native.Mathlib.Omega.{arith}
use lib.{Dec.{eqb, leb, ltb}, ListN.{length, length-append, length-replicate}}
use borrow.Author.Tests.{le-leb, lt-ltb}
use Rattle.model.specs.declared.{Record.Record, Op.{Op, TheVariants.{Push, Pop, PushPooled, Step}}}
use Rattle.model.specs.{Tables.{Tables, Queue, is_pooled, task_at, unused}, Sound.rows_fit, Calls.{opened, stacked}}
use Rattle.model.specs.Places.{Touch, nothing, set_anchor, set_link, clear_mark, take_slot, set_next, set_head, move}
use Rattle.model.specs.{Places.{word_found, apply}, Lists.{zeroed, every}}
use Rattle.model.specs.Refusals.{Lent, among, records_fit, step_refusal, push_refusal, pop_refusal, push_pooled_refusal}
use Rattle.model.specs.Calls.{Acted, decide, push_start, pop_start, push_pooled_start, finish, step, act_on, act}
use Rattle.model.proofs.{Tests.Truth.either, Laws.Lengths.{Lengths, act_lengths}, Lists.Range.length_climb}

pub record Sizes : Type 0 where
  pub tasks : ℕ
  pub slots : ℕ
  pub pooled : ℕ

abbrev pub sizes : Tables → Sizes
sizes q = record { tasks = q.control.tasks; slots = q.control.slots; pooled = q.control.pooled }

touched : (x : Touch) (q : Tables) → sizes (apply x q) ≡ sizes q
touched nothing q = refl
touched (set_anchor w) q = refl
touched (set_link side x w) q = refl
touched (clear_mark x) q = refl
touched (take_slot w x l) q = refl
touched (set_next x v) q = refl
touched (set_head w) q = refl

settled : (why : ℕ) (q : Tables) (r : Record) (done : Acted) → sizes done.tables ≡ sizes q → sizes (decide why q r done).tables ≡ sizes q
settled why q r done e = either (λ (a : Acted). sizes a.tables ≡ sizes q) (eqb why 0) e refl

act-on : (q : Tables) (p : Lent) (r : Record) (o : Op) → sizes (act_on q p r o).tables ≡ sizes q
unfolding act_on push_start pop_start push_pooled_start step finish
act-on q p r (Push side slot label) = settled (push_refusal q p r.call side slot) q r _ refl
act-on q p r (Pop side) = settled (pop_refusal q p r.call side) q r _ refl
act-on q p r (PushPooled side label) = settled (push_pooled_refusal q p r.call side) q r _ refl
act-on q p r Step = settled (step_refusal q p r.call) q r _ (touched (move q.control r.call (word_found q r.call)).touch _)

pub act_sizes : (q : Queue) (t : ℕ) (o : Op) → sizes (act q t o).queue.tables ≡ sizes q.tables
unfolding act
act_sizes q t o = act-on q.tables (among q t) (task_at q t) o

pub act-tasks : (q : Queue) (t : ℕ) (o : Op) → (act q t o).queue.tables.control.tasks ≡ q.tables.control.tasks
act-tasks q t o = ap (λ (s : Sizes). s.tasks) (act_sizes q t o)

pub act-slots : (q : Queue) (t : ℕ) (o : Op) → (act q t o).queue.tables.control.slots ≡ q.tables.control.slots
act-slots q t o = ap (λ (s : Sizes). s.slots) (act_sizes q t o)

pub act-pooled : (q : Queue) (t : ℕ) (o : Op) → (act q t o).queue.tables.control.pooled ≡ q.tables.control.pooled
act-pooled q t o = ap (λ (s : Sizes). s.pooled) (act_sizes q t o)

-- Every table is long enough: what 12 asks.
abbrev pub fits : Queue → Bool
fits q = rows_fit (is_pooled q.tables.control) q.tables.control.slots q.tables && records_fit q.tables.control.tasks q

-- Only sizes and lengths count.
abbrev fitting : Sizes → Lengths → ℕ → Bool
fitting s n records =
    every (ltb s.slots n.lefts ∷ ltb s.slots n.rights ∷ ltb s.slots n.labels ∷ ltb (s.slots / 64) n.marks
    ∷ (not (eqb s.pooled 1) || ltb s.slots n.next) ∷ []) && leb s.tasks records

pub act-fits : (q : Queue) (t : ℕ) (o : Op) → fits (act q t o).queue ≡ fits q
unfolding act rows_fit
act-fits q t o =
    let n = act_lengths q t o in
    λ i. fitting (act_sizes q t o i) (n.tables i) (n.records i)

-- An opening leaves rows and records as it zeroed them, or more.
row-left : (n : ℕ) (l : List ℕ) → ltb n (length (zeroed (n + 1) 0 l)) ≡ true
row-left n l = lt-ltb n _ (simp (length-append, length-replicate) (omega arith))

records-left : (n : ℕ) (l : List Record) → leb n (length (zeroed n unused l)) ≡ true
records-left n l = le-leb n _ (simp (length-append, length-replicate) (omega arith))

-- All slots stacked.
next-left : (pooled : Bool) (n : ℕ) (l : List ℕ) → not (eqb (cond pooled 1 0) 1) || ltb n (length (cond pooled (stacked n l) l)) ≡ true
next-left false n l = refl
next-left true n l = lt-ltb n _ (simp (length-append, length_climb) (omega arith))

pub open_fits : (pooled : Bool) (q : Queue) (tasks slots tag : ℕ) → fits (opened pooled q tasks slots tag) ≡ true
unfolding opened rows_fit
open_fits pooled q tasks slots tag =
    let t = q.tables in
    rw (
      row-left slots t.lefts,
      row-left slots t.rights,
      row-left slots t.labels,
      row-left (slots / 64) t.marks,
      next-left pooled slots t.next,
      records-left tasks q.records,
    )
