-- Refused, nothing to lay, or laid: what the joining leaves is what the definition says.
use mathlib.Core.{Path.{◌≡◌, refl, sym, ap, ap₂, ◌∙◌}, Bool.{true, false, ◌&&◌}, Logic.◌≢◌}
use mathlib.Core.List.{List, [], ◌∷◌, reverse}
use Prim.Native.Nat.{ℕ, zero, suc, ◌+◌, ◌-◌, ◌<◌, ◌≤◌}
use native.Mathlib.Omega.{arith}
use lib.{Dec.eqb, ListN.{length, get_or, set, length-map, length-reverse}}
use borrow.Author.Tests.{eqb-false, ne_eqb, ltb-true}
use Rattle.word.specs.Anchor.{anchor_of}
use Rattle.model.specs.{declared.{Control.Control, Entry.Entry, Record.Record}, Sound.{row_tests, rows_fit}}
use Rattle.model.specs.{Tables.{Tables, Queue, queue_of, idle, with_call, task_at, tables_of}, Sides.is_empty}
use Rattle.model.specs.Walk.{Walk, entries, broken, along, contents, is_broken, met, walk_from}
use Rattle.model.proofs.Tests.{Rules.tests, Truth.{split, not_both}}
use Rattle.join_model.specs.{Merge.merge, Join.{anchor_in, lanes, join_refusal, Joined, join, laid}, Closed.join_closed}
use Rattle.join_model.specs.Closed.{filled, left_of, label_of, marked_to, held, holding, late_for, closed_refusal}
use Rattle.join_model.proofs.{Merged.{interleaved, length_merged}, Filling.filled_at, Laws.tag-room}
use Rattle.join_model.proofs.Closed.{Rests, same-refusal, accepted, closed_join}
use Rattle.stock_model.specs.Accounts.{waiting_labels}
use Rattle.std.specs.Prelude.{Some, None, Ok}
use Rattle.model.specs.Outcomes.{Refused}
use Rattle.join.specs.{Scratch.{InRows, trail, walked_to, label_via, rows_down, right_to}}
use Rattle.join.specs.Anchored.{anchored, Joins}
use Rattle.join.proofs.Filled.{Trod, overwritten, linked, names, stays, trod, turned}

-- At rest, the walk begins at the right end.
module _ (q : Tables) where
  empty : is_empty (anchor_of q.control.anchor) ≡ true → contents q ≡ entries []
  unfolding contents
  empty e = rw e

  from_right : is_empty (anchor_of q.control.anchor) ≡ false → eqb (anchor_of q.control.anchor).status 2 ≡ false
      → contents q ≡ walk_from 1 (along q.control.slots q.lefts q.labels (anchor_of q.control.anchor).left q.control.slots
      (anchor_of q.control.anchor).right)
  unfolding contents
  from_right e f = rw (e, f)

-- Of a source in which so many labels wait: nothing waits, or some entries from the right end on.
module _ (q : Queue) (rests : Rests q) (n : ℕ) (all : n ≡ length (waiting_labels q.tables)) where
  abbrev t : Tables
  t = q.tables

  abbrev end : ℕ
  end = (anchor_in q).right

  abbrev Path : List Entry → Type 0
  Path = Trod t.control.slots t.lefts t.labels end

  lane : (P : Type 0) → (contents t ≡ entries [] → P) → ((l : List Entry) → Path l → contents t ≡ walk_from 1 (entries l) → n ≡ length l → P) → P
  lane P none some =
      split (is_empty (anchor_in q)) (λ e. none (empty t e)) (λ e. go _ refl (from_right t e (ap (λ (s : ℕ). eqb s 2) rests.stable)))
    where
      go : (w : Walk) → along t.control.slots t.lefts t.labels (anchor_in q).left t.control.slots end ≡ w → contents t ≡ walk_from 1 w → P
      go broken e c = absurd (not_both (ap is_broken c) rests.walks)
      go (entries l) e c =
          some l (trod t.control.slots t.lefts t.labels (anchor_in q).left t.control.slots end l e) c
          (all ∙ ap (λ (z : Walk). length (names (met z))) c ∙ length-map (reverse l) (λ (e : Entry). e.label) ∙ length-reverse l)

  -- Its slots have rows among the links.
  pub lane_in_rows : InRows t.lefts end n
  lane_in_rows k h =
      lane (trail t.lefts end k < length t.lefts) (λ e. absurd (let z = all ∙ ap (λ (z : Walk). length (names (met z))) e in omega (arith, h, z)))
      (λ l path c size. let low = stays t.control.slots t.lefts t.labels (anchor_in q).left end l path k (omega (arith, h, size)) in
      omega (arith, low, rests.rows))

  module _ (slots : List ℕ) where
    abbrev f : ℕ → ℕ
    f = label_via t.labels slots

    -- The labels waiting are what the rows lead to, from the last one down.
    pub lane_rows : ((i : ℕ) → 1 ≤ i → i ≤ n → get_or slots i 0 ≡ walked_to t.lefts end i) → rows_down f n ≡ waiting_labels q.tables
    lane_rows at = lane (rows_down f n ≡ names (met (contents t))) none some
      where
        none : contents t ≡ entries [] → rows_down f n ≡ names (met (contents t))
        none e =
            let w = ap (λ (z : Walk). names (met z)) e in
            ap (rows_down f) (all ∙ ap length w) ∙ sym w

        walked_at : (j : ℕ) → suc j - 1 ≡ j → walked_to t.lefts end (suc j) ≡ trail t.lefts end j
        walked_at j p = ap (trail t.lefts end) p

        some : (l : List Entry) → Path l → contents t ≡ walk_from 1 (entries l) → n ≡ length l → rows_down f n ≡ names (met (contents t))
        some l path c size =
            let w = ap (λ (z : Walk). names (met z)) c in
            let rows : 0 + length l ≡ n = omega (arith, size) in
            ap (rows_down f) (sym rows)
            ∙ sym (turned t.control.slots t.lefts t.labels f end l path 0 []
            (λ j h. let s : suc (0 + j) ≡ suc j = omega arith in let p : suc j - 1 ≡ j = omega arith in
            ap f s ∙ ap (λ (x : ℕ). get_or t.labels x 0)
            (at (suc j) (omega arith) (omega (arith, size)) ∙ walked_at j p)) refl)
            ∙ sym w

module _ (a b q : Queue) where
  -- Refused: nothing changes.
  pub refuses : (code : ℕ) → code ≡ closed_refusal a b q → code ≢ 0
      → Joins a b q (Refused code) q.tables.lefts q.tables.rights q.tables.labels q.tables.marks
  unfolding laid join
  refuses code e h =
      let why = e ∙ sym (same-refusal a b q) in
      let no = ne_eqb (join_refusal a b q) 0 (λ z. h (why ∙ z)) in
      record { lays = rw no; leaves = rw no (ap (λ (n : ℕ). record { code = n; third = q }) why) }

  module _ (e : closed_refusal a b q ≡ 0) where
    none-refuses : join_refusal a b q ≡ 0
    none-refuses = same-refusal a b q ∙ e

    joined_is : join a b q ≡ record { code = 0; third = holding q (lanes a b) }
    unfolding join_closed
    joined_is = closed_join a b q ∙ rw e

    module _ (n m : ℕ) (in_first : n ≡ length (waiting_labels a.tables)) (in_second : m ≡ length (waiting_labels b.tables)) where
      size : n + m ≡ length (lanes a b)
      size = ap₂ (λ (x y : ℕ). x + y) in_first in_second ∙ sym (length_merged (interleaved (waiting_labels a.tables) (waiting_labels b.tables)))

      room : n + m ≤ q.tables.control.slots
      room = omega (arith, size, (accepted a b q e).0.room)

      pub few : n + m ≤ 1023
      few = omega (arith, room, (accepted a b q e).0.third.slots)

      pub low-tag : 1 ≤ n + m → (anchor_in q).tag ≤ 4294967264
      low-tag h = go (n + m) refl h
        where
          go : (k : ℕ) → n + m ≡ k → 1 ≤ k → (anchor_in q).tag ≤ 4294967264
          go zero z h = absurd (omega arith)
          go (suc k) z h =
              omega (arith, tag-room (anchor_in q).tag k (ap (late_for (anchor_in q).tag) (sym z ∙ size) ∙ (accepted a b q e).1))

      -- Nothing to lay: nothing changes.
      pub nothing : n ≡ 0 → m ≡ 0
          → Joins a b q (Ok None) q.tables.lefts q.tables.rights q.tables.labels
          q.tables.marks
      unfolding laid holding
      nothing zn zm = record {
        lays = rw (none-refuses, none);
        leaves = sym (joined_is ∙ ap (λ (l : List ℕ). record { code = 0; third = holding q l }) (nil (lanes a b) none));
      }
        where
          none : length (lanes a b) ≡ 0
          none = omega (arith, size)

          nil : (l : List ℕ) → length l ≡ 0 → l ≡ []
          nil [] z = refl
          nil (x ∷ l) z = absurd (omega arith)

      -- So have the slots of both.
      pub both_in_rows : InRows a.tables.lefts (anchor_in a).right n × InRows b.tables.lefts (anchor_in b).right m
      both_in_rows = let g = (accepted a b q e).0 in (lane_in_rows a g.first n in_first, lane_in_rows b g.second m in_second)

      -- The scratch, and the lanes that it leads to.
      abbrev scratch1 : List ℕ
      scratch1 = filled (walked_to a.tables.lefts (anchor_in a).right) n q.tables.lefts

      abbrev scratch2 : List ℕ
      scratch2 = filled (walked_to b.tables.lefts (anchor_in b).right) m q.tables.rights

      long : (slots : ℕ) → slots ≡ q.tables.control.slots → (slots < length q.tables.lefts) × (slots < length q.tables.rights)
      unfolding rows_fit
      long slots z =
          let rows = tests (row_tests false q.tables.control.slots q.tables) (accepted a b q e).0.third.rows in
          (rw z (ltb-true _ _ rows.0), rw z (ltb-true _ _ rows.1.0))

      lane1 : rows_down (label_via a.tables.labels scratch1) n ≡ waiting_labels a.tables
      lane1 =
          lane_rows a (accepted a b q e).0.first n in_first scratch1
          (λ i l h. filled_at (walked_to a.tables.lefts (anchor_in a).right) n q.tables.lefts i l h (omega (arith, room, (long q.tables.control.slots refl).0)))

      lane2 : rows_down (label_via b.tables.labels scratch2) m ≡ waiting_labels b.tables
      lane2 =
          lane_rows b (accepted a b q e).0.second m in_second scratch2
          (λ i l h. filled_at (walked_to b.tables.lefts (anchor_in b).right) m q.tables.rights i l h (omega (arith, room, (long q.tables.control.slots refl).1)))

      -- Laid.
      module _ (some : 1 ≤ n + m) (lefts rights labels marks : List ℕ) (c : Control)
          (left : lefts ≡ filled left_of (n + m) scratch1)
          (right : rights ≡ filled (right_to (n + m)) (n + m) scratch2)
          (label : labels ≡ filled
          (label_of (merge (rows_down (label_via a.tables.labels scratch1) n) (rows_down (label_via b.tables.labels scratch2) m))) (n + m)
          q.tables.labels)
          (mark : marks ≡ marked_to (n + m) q.tables.marks)
          (control : c ≡ anchored q.tables.control (n + m)) where
        laid_as : (l : List ℕ) → lanes a b ≡ l
            → queue_of c (set q.records 0 (with_call (task_at q 0) idle)) lefts rights labels marks q.tables.next ≡ holding q l
        unfolding holding held anchored
        laid_as [] z = absurd (let g = ap length z in omega (arith, size))
        laid_as (x ∷ l) z =
            let k = length l in
            let count : n + m ≡ suc k = size ∙ ap length z in
            let same = long q.tables.control.slots refl in
            let zero-last : get_or q.tables.rights (suc k) 0 ≡ 0 = (accepted a b q e).0.third.zeros.rights (suc k) (omega (arith, room, count)) in
            let left_rows =
            left ∙ overwritten left_of (walked_to a.tables.lefts (anchor_in a).right) (n + m) n q.tables.lefts (omega arith) (omega (arith, room, same.0)) ∙ ap
            (λ (j : ℕ). filled left_of j q.tables.lefts) count in
            let right_rows =
            right ∙ overwritten (right_to (n + m)) (walked_to b.tables.lefts (anchor_in b).right) (n + m) m q.tables.rights (omega arith) (omega (arith, room, same.1))
            ∙ ap (λ (j : ℕ). filled (right_to j) j q.tables.rights) count ∙ linked k q.tables.rights (omega (arith, room, same.1, count)) zero-last in
            let label_rows =
            label ∙ (λ i. filled (label_of (merge (lane1 i) (lane2 i))) (count i) q.tables.labels) ∙ ap
            (λ (r : List ℕ). filled (label_of r) (suc k) q.tables.labels) z in
            let word = control ∙ ap (anchored q.tables.control) count in
            λ i. record {
              tables = tables_of (word i)
                  (left_rows i)
                  (right_rows i)
                  (label_rows i)
                  ((mark ∙ ap (λ (j : ℕ). marked_to j q.tables.marks) count) i)
                  q.tables.next;
              records = set q.records 0 (with_call (task_at q 0) idle);
            }

        pub lays : Joins a b q (Ok (Some c)) lefts rights labels marks
        unfolding laid
        lays = record {
          lays = rw (none-refuses, ne_eqb (length (lanes a b)) 0 (λ z. omega (arith, size)));
          leaves = ap (λ (z : Queue). record { code = 0; third = z }) (laid_as (lanes a b) refl) ∙ sym joined_is;
        }

-- Stored: the rows hold what the joining by value left.
module _ (a b q : Queue) (lefts rights labels marks : List ℕ) where
  pub stored : (after : Control) → Joins a b q (Ok (Some after)) lefts rights labels marks
      → (c : Control) (rs : List Record) → c ≡ after → rs ≡ set q.records 0 (with_call (task_at q 0) idle)
      → ◌≡◌ {A = Joined} (record { code = 0; third = queue_of c rs lefts rights labels marks q.tables.next }) (join a b q)
  stored after j c rs ec er = (λ i. record { code = 0; third = queue_of (ec i) (er i) lefts rights labels marks q.tables.next }) ∙ j.leaves

-- Not both are none.
pub one_left : (n m : ℕ) → eqb n 0 && eqb m 0 ≡ false → 1 ≤ n + m
one_left n m e =
    split (eqb n 0) (λ z. split (eqb m 0) (λ w. absurd (not_both (rw (z, w)) e)) (λ w. let g = eqb-false m 0 w in omega arith))
    (λ z. let g = eqb-false n 0 z in omega arith)
