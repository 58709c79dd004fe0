-- No call changes the length of a table.
use mathlib.Core.{Path.{◌≡◌, refl}, Bool.{Bool, true, false, ◌||◌, not, cond}, List.List}
use Prim.Native.Nat.{ℕ, ◌+◌, ◌/◌, ◌≤◌}
use native.Mathlib.Omega.{arith}
use lib.{Dec.{eqb, leb, ltb}, ListN.{length, set, length-set, length-append, length-replicate, length-drop}}
use borrow.Author.Tests.{leb-true, ltb-true, not-false}
use Rattle.model.specs.declared.{Record.Record, Op.{Op, TheVariants.{Push, Pop, PushPooled, Step}}}
use Rattle.model.specs.{Tables.{tables_of, Tables, Queue, unused, task_at}, Sound.{row_tests, rows_fit}, Lists.zeroed}
use Rattle.model.specs.Places.{Touch, nothing, set_anchor, set_link, clear_mark, take_slot, set_next, set_head, move}
use Rattle.model.specs.{Places.{word_found, apply}, Refusals.pop_refusal}
use Rattle.model.specs.Refusals.{Lent, among, alone, open_rules, step_refusal, push_refusal, push_pooled_refusal}
use Rattle.model.specs.Calls.{stacked, opened, OpenDone, open_as, Acted, decide, push_start, push_pooled_start, step}
use Rattle.model.specs.Calls.{pop_start, finish, act_on, act, step_lent}
use Rattle.model.proofs.{Lists.Range.length_climb, Tests.{Truth.{either, and-true}, Rules.tests}}
use Rattle.model.proofs.Laws.Refusals.{OpenDecided, accepted-opening, refused-opening, open_decided}

pub record Lengths : Type 0 where
  pub lefts : ℕ
  pub rights : ℕ
  pub labels : ℕ
  pub marks : ℕ
  pub next : ℕ

abbrev pub lengths : Tables → Lengths
lengths q = record { lefts = length q.lefts; rights = length q.rights; labels = length q.labels; marks = length q.marks; next = length q.next }

pub record SameLengths (before after : Queue) : Type 0 where
  pub tables : lengths after.tables ≡ lengths before.tables
  pub records : length after.records ≡ length before.records

-- A touch stores into a table or leaves it.
touched : (x : Touch) (q : Tables) → lengths (apply x q) ≡ lengths q
touched nothing q = refl
touched (set_anchor w) q = refl
touched (set_link side x w) q = go (eqb side 1)
  where
    go : (right : Bool) → lengths (tables_of q.control
        (cond right q.lefts (set q.lefts x w))
        (cond right (set q.rights x w) q.rights)
        q.labels
        q.marks
        q.next) ≡ lengths q
    go true = rw length-set
    go false = rw length-set
touched (clear_mark x) q = simp length-set
touched (take_slot w x l) q = simp length-set
touched (set_next x v) q = simp length-set
touched (set_head w) q = refl

-- Refused or carried out.
settled : (why : ℕ) (q : Tables) (r : Record) (done : Acted) → lengths done.tables ≡ lengths q → lengths (decide why q r done).tables ≡ lengths q
settled why q r done e = either (λ (a : Acted). lengths a.tables ≡ lengths q) (eqb why 0) e refl

act-on : (q : Tables) (p : Lent) (r : Record) (o : Op) → lengths (act_on q p r o).tables ≡ lengths q
unfolding act_on push_start push_pooled_start pop_start step finish
act-on q p r (Push side slot label) = settled (push_refusal q p r.call side slot) q r _ (simp length-set)
act-on q p r (Pop side) = settled (pop_refusal q p r.call side) q r _ refl
act-on q p r (PushPooled side label) = settled (push_pooled_refusal q p r.call side) q r _ refl
act-on q p r Step = settled (step_refusal q p r.call) q r _ (touched (move q.control r.call (word_found q r.call)).touch _)

-- The laws.
pub lent_lengths : (q : Tables) (r : Record) → lengths (step_lent q r).tables ≡ lengths q
unfolding step_lent act_on
lent_lengths q r = act-on q alone r Step

pub act_lengths : (q : Queue) (t : ℕ) (o : Op) → SameLengths q (act q t o).queue
unfolding act
act_lengths q t o = record { tables = act-on q.tables (among q t) (task_at q t) o; records = length-set q.records t _ }

-- Zeroed within its length, a table keeps it.
length_zeroed : {A : Type 0} (n : ℕ) (z : A) (l : List A) → n ≤ length l → length (zeroed n z l) ≡ length l
length_zeroed n z l h = simp (length-append, length-replicate, length-drop) (omega arith)

row-zeroed : (n : ℕ) (l : List ℕ) → ltb n (length l) ≡ true → length (zeroed (n + 1) 0 l) ≡ length l
row-zeroed n l h = length_zeroed (n + 1) 0 l (omega (arith, ltb-true n (length l) h))

-- All slots stacked.
next_length : (pooled : Bool) (n : ℕ) (l : List ℕ) → not pooled || ltb n (length l) ≡ true → length (cond pooled (stacked n l) l) ≡ length l
next_length false n l e = refl
next_length true n l e = let h = ltb-true n (length l) e in simp (length-append, length_climb, length-drop) (omega arith)

pub open_lengths : (pooled : Bool) (q : Queue) (tasks slots tag : ℕ) → SameLengths q (open_as pooled q tasks slots tag).queue
unfolding opened rows_fit
open_lengths pooled q tasks slots tag = go (open_decided pooled q tasks slots tag)
  where
    go : {done : OpenDone} → OpenDecided (open_rules pooled q tasks slots) q (opened pooled q tasks slots tag) done → SameLengths q done.queue
    go (refused-opening n f) = record { tables = refl; records = refl }
    go (accepted-opening f) =
        let long = and-true (rows_fit pooled slots q.tables) (leb tasks (length q.records)) (not-false _ f.1.1.0) in
        let rows = tests (row_tests pooled slots q.tables) long.0 in
        record {
          tables = λ i. record {
            lefts = row-zeroed slots q.tables.lefts rows.0 i;
            rights = row-zeroed slots q.tables.rights rows.1.0 i;
            labels = row-zeroed slots q.tables.labels rows.1.1.0 i;
            marks = row-zeroed (slots / 64) q.tables.marks rows.1.1.1.0 i;
            next = next_length pooled slots q.tables.next rows.1.1.1.1.0 i;
          };
          records = length_zeroed tasks unused q.records (leb-true _ _ long.1);
        }
