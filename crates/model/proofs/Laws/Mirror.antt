-- Left is the mirror of right: every call on the mirrored queue, with its side mirrored, answers the same and leaves the mirror of what it leaves; for all
-- tables and all arguments, refused ones among them.
pub mod Packed
pub mod Sides
pub mod Sound
pub mod Moves
pub mod Steps
pub mod Twice
use mathlib.Core.{Path.{◌≡◌, refl, ap, ap₂, ◌∙◌}, Bool.{Bool, true, false, cond}, List.{List, [], ◌∷◌, ◌++◌, map}}
use Prim.Native.Nat.{ℕ, zero, suc}
use native.Mathlib.Omega.{arith}
use lib.{Dec.{eqb, leb, ltb}, ListN.{set, drop, replicate, length-map, get_or-map}}
use Rattle.word.specs.Anchor.{empty_anchor}
use Rattle.model.specs.declared.{Call.Call, Record.Record, Op.{Op, TheVariants.{Push, Pop, PushPooled, Step}}}
use Rattle.model.specs.Outcomes.{Moved, Opened, Refused}
use Rattle.model.specs.declared.{Asked.Asked, Answer.TheVariants.Running}
use Rattle.model.specs.Tables.{Tables, Queue, asking, started, task_at, unused, with_anchor, with_call, with_taken}
use Rattle.model.specs.Refusals.{open_refusal, Lent, among, alone, fits, start_refusal, named_push, pooled_push}
use Rattle.model.specs.{Refusals.nothing_asked, Calls.{act_on, act, step_lent}, Lists.zeroed}
use Rattle.model.specs.Calls.{opened, OpenDone, open_as, Acted, decide, push_start, push_pooled_start, pop_start, back}
use Rattle.model.specs.Mirror.{mirror_side, mirror_status, mirror_word, mirror_control, mirror_tables, mirror_record}
use Rattle.model.specs.Mirror.{mirror_task, mirror_queue, mirror_op, mirror_acted, mirror_opened, mirror_done, Mirrored}
use Rattle.model.proofs.Laws.Mirror.{Packed.mirror_pack, Twice.mirror_twice, Steps.{decide_mirror, step_mirror}}
use Rattle.model.proofs.Laws.Mirror.Sound.{rows_fit_mirror, start_refusal_mirror}

-- A start or step of one record.
abbrev starts : Tables → Record → ℕ → Call → Acted
starts q r first call = record { tables = q; task = with_call r call; outcome = Moved (Running first) }

-- A start that is carried out leaves the mirror, where its call is the mirror.
start_mirror : (q t : Tables) (p : Lent) (r : Record) (side first : ℕ) (a : Asked) (call mirrored : Call) → mirrored ≡ mirror_record call
    → decide (start_refusal (mirror_control q.control) (fits (mirror_tables q)) p (mirror_record r.call) (mirror_side side) a)
    (mirror_tables q) (mirror_task r) (starts (mirror_tables t) r first mirrored)
    ≡ mirror_acted (decide (start_refusal q.control (fits q) p r.call side a) q r (starts t r first call))
start_mirror q t p r side first a call mirrored e =
    let done = starts (mirror_tables t) r first in
    ap (λ (why : ℕ). decide why (mirror_tables q) (mirror_task r) (done mirrored)) (start_refusal_mirror q p r.call side a)
    ∙ decide_mirror (start_refusal q.control (fits q) p r.call side a) q r (starts t r first call) (done mirrored) (λ _. ap done e)

act_on_mirror : (q : Tables) (p : Lent) (r : Record) (o : Op) → act_on (mirror_tables q) p (mirror_task r) (mirror_op o) ≡ mirror_acted (act_on q p r o)
unfolding act_on push_start push_pooled_start pop_start mirror_record mirror_word mirror_status
act_on_mirror q p r (Push side slot label) =
    start_mirror q (with_taken q slot label) p r side 1 (named_push q slot) (started 0 side slot label) (started 0 (mirror_side side) slot label) refl
act_on_mirror q p r (Pop side) = start_mirror q q p r side 1 nothing_asked (started 1 side 0 0) (started 1 (mirror_side side) 0 0) refl
act_on_mirror q p r (PushPooled side label) = start_mirror q q p r side 12 (pooled_push q) (asking side label) (asking (mirror_side side) label) refl
act_on_mirror q p r Step = step_mirror q p r

pub lent_mirror : (q : Tables) (r : Record) → step_lent (mirror_tables q) (mirror_task r) ≡ mirror_acted (step_lent q r)
unfolding step_lent
lent_mirror q r = step_mirror q alone r

-- Records: each is mirrored where it lies.
map-set : {A B : Type 0} (f : A → B) (l : List A) (i : ℕ) (x : A) → set (map f l) i (f x) ≡ map f (set l i x)
map-set f [] i x = refl
map-set f (a ∷ l) zero x = refl
map-set f (a ∷ l) (suc i) x = ap (λ (m : List _). f a ∷ m) (map-set f l i x)

record_at_mirror : (q : Queue) (t : ℕ) → task_at (mirror_queue q) t ≡ mirror_task (task_at q t)
unfolding mirror_record
record_at_mirror q t = get_or-map mirror_task q.records t unused

among_mirror : (q : Queue) (t : ℕ) → among (mirror_queue q) t ≡ among q t
among_mirror q t = λ i. record {
  enough = leb q.tables.control.tasks (length-map q.records mirror_task i);
  known = ltb t q.tables.control.tasks;
}

back_mirror : (q : Queue) (t : ℕ) (a : Acted) → back (mirror_queue q) t (mirror_acted a) ≡ mirror_done (back q t a)
back_mirror q t a = λ i. record
    { queue = record { tables = mirror_tables a.tables; records = map-set mirror_task q.records t a.task i }; outcome = a.outcome }

-- The law.
pub act_mirror : (q : Queue) (t : ℕ) (o : Op) → act (mirror_queue q) t (mirror_op o) ≡ mirror_done (act q t o)
unfolding act
act_mirror q t o =
    ap₂ (λ (p : Lent) (r : Record). back (mirror_queue q) t (act_on (mirror_tables q.tables) p r (mirror_op o))) (among_mirror q t)
    (record_at_mirror q t)
    ∙ ap (back (mirror_queue q) t) (act_on_mirror q.tables (among q t) (task_at q t) o)
    ∙ back_mirror q t (act_on q.tables (among q t) (task_at q t) o)

-- Opening.
map_drop : {A B : Type 0} (f : A → B) (n : ℕ) (l : List A) → drop n (map f l) ≡ map f (drop n l)
map_drop f zero l = refl
map_drop f (suc n) [] = refl
map_drop f (suc n) (a ∷ l) = map_drop f n l

map_zeroed : {A B : Type 0} (f : A → B) (n : ℕ) (z : A) (l : List A) → zeroed n (f z) (map f l) ≡ map f (zeroed n z l)
map_zeroed f n z l = ap (λ (m : List _). replicate n (f z) ++ m) (map_drop f n l) ∙ go n
  where
    go : (k : ℕ) → replicate k (f z) ++ map f (drop n l) ≡ map f (replicate k z ++ drop n l)
    go zero = refl
    go (suc k) = ap (λ (m : List _). f z ∷ m) (go k)

open_refusal_mirror : (pooled : Bool) (q : Queue) (tasks slots : ℕ)
    → open_refusal pooled (mirror_queue q) tasks slots ≡ open_refusal pooled q tasks slots
unfolding open_refusal
open_refusal_mirror pooled q tasks slots = rw (rows_fit_mirror pooled slots q.tables, length-map q.records mirror_task) refl

opened_mirror : (pooled : Bool) (q : Queue) (tasks slots tag : ℕ)
    → opened pooled (mirror_queue q) tasks slots tag ≡ mirror_queue (opened pooled q tasks slots tag)
unfolding opened mirror_record mirror_status
opened_mirror pooled q tasks slots tag = λ i. record {
  tables = with_anchor (mirror_tables (opened pooled q tasks slots tag).tables) (mirror_pack (empty_anchor tag) (omega arith) i);
  records = map_zeroed mirror_task tasks unused q.records i;
}

pub open_mirror : (pooled : Bool) (q : Queue) (tasks slots tag : ℕ)
    → open_as pooled (mirror_queue q) tasks slots tag ≡ mirror_opened (open_as pooled q tasks slots tag)
unfolding open_as
open_mirror pooled q tasks slots tag =
    ap₂ (settled (mirror_queue q)) (open_refusal_mirror pooled q tasks slots) (opened_mirror pooled q tasks slots tag)
    ∙ go (eqb (open_refusal pooled q tasks slots) 0) (open_refusal pooled q tasks slots)
  where
    settled : Queue → ℕ → Queue → OpenDone
    settled q why new = cond (eqb why 0) (record { queue = new; outcome = Opened }) (record { queue = q; outcome = Refused why })

    go : (b : Bool) (why : ℕ) → cond b (record { queue = mirror_queue (opened pooled q tasks slots tag); outcome = Opened })
        (record { queue = mirror_queue q; outcome = Refused why })
        ≡ mirror_opened (cond b (record { queue = opened pooled q tasks slots tag; outcome = Opened })
        (record { queue = q; outcome = Refused why }))
    go true why = refl
    go false why = refl

pub mirrored : Mirrored
mirrored = record { opening = open_mirror; operation = act_mirror; lent = lent_mirror; twice = mirror_twice }
