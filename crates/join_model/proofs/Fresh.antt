-- A fresh queue, word by word.
use mathlib.Core.{Path.{◌≡◌, refl}, Bool.{Bool, true, false}, List.List}
use Prim.Native.Nat.{ℕ, zero, suc, ◌+◌, ◌/◌, ◌%◌, ◌^◌, ◌<◌, ◌≤◌}
use native.Mathlib.{Nat.zero-div, Omega.arith}
use lib.{Dec.eqb, ListN.get_or}
use borrow.Author.Tests.{eqb-true, eqb-false, not-true, not-false}
use Rattle.model.specs.{Tables.{Queue, is_pooled, marked, record_at}, Refusals.records_fit, Report.busy, Lists.count}
use Rattle.model.specs.Sound.{control_tests, control_sound, row_tests, rows_fit}
use Rattle.model.proofs.{Tests.{Rules.{◌and◌, tests, passes}, Truth.{and-true, split}}, Bridge.Facts.from1_true}
use Rattle.join_model.specs.Join.{anchor_in, at_rest, blank, fresh_tests, fresh, source_tests, source_fits, third_fits}
use Rattle.join_model.specs.Laws.{Zeros}

pub blank-at : (n : ℕ) (l : List ℕ) → blank n l ≡ true → (i : ℕ) → i < n → get_or l i 0 ≡ 0
blank-at zero l e i h = absurd (omega arith)
blank-at (suc n) l e i h =
    let z = and-true (blank n l) (eqb (get_or l n 0) 0) e in
    split (eqb i n) (λ g. rw (eqb-true i n g) (eqb-true _ _ z.1)) (λ g. blank-at n l z.0 i (below (eqb-false i n g)))
  where
    below : (i ≡ n → ⊥) → i < n
    below g = omega arith

-- None of the numbers below n passes.
pub none_pass : (p : ℕ → Bool) (n : ℕ) → count p n ≡ 0 → (i : ℕ) → i < n → p i ≡ false
unfolding count
none_pass p zero e i h = absurd (omega arith)
none_pass p (suc n) e i h =
    split (p n)
    (λ g. absurd (some g))
    (λ g. split (eqb i n) (λ z. rw (eqb-true i n z) g) (λ z. none_pass p n (fewer g) i (below (eqb-false i n z))))
  where
    below : (i ≡ n → ⊥) → i < n
    below g = omega arith

    some : p n ≡ true → ⊥
    some g = let z : count p n + 1 ≡ 0 = rw g at e in omega arith

    fewer : p n ≡ false → count p n ≡ 0
    fewer g = let z : count p n + 0 ≡ 0 = rw g at e in omega arith

-- What 34, 12 and 47 leave of the third queue.
pub record Fresh (q : Queue) : Type 0 where
  pub control : control_sound q.tables.control ≡ true
  pub named : is_pooled q.tables.control ≡ false
  pub rows : rows_fit false q.tables.control.slots q.tables ≡ true
  pub records : records_fit q.tables.control.tasks q ≡ true
  pub rests : (record_at q 0).place ≡ 0
  pub status : (anchor_in q).status ≡ 0
  pub left : (anchor_in q).left ≡ 0
  pub right : (anchor_in q).right ≡ 0
  pub slots : q.tables.control.slots ≤ 1023
  pub tasks : 0 < q.tables.control.tasks
  pub zeros : Zeros q.tables
  pub marks : (i : ℕ) → i ≤ q.tables.control.slots → marked q.tables.marks i ≡ false

pub is-fresh : (q : Queue) → control_sound q.tables.control ≡ true → third_fits q ≡ true → fresh q ≡ true → Fresh q
unfolding third_fits source_fits fresh at_rest busy rows_fit control_sound
is-fresh q c f e =
    let s = q.tables.control.slots in
    let third = and-true _ _ f in
    let long = tests (source_tests q) third.0 in
    let z = tests (fresh_tests q) e in
    let empty = and-true _ _ z.1.0 in
    let rest = and-true _ _ z.1.1.0 in
    let rows = z.1.1.1 in
    let sizes = tests (control_tests q.tables.control) c in
    let named = not-true _ z.0 in
    let t = from1_true 16 q.tables.control.tasks sizes.0 in
    record {
      control = c;
      named = named;
      rows = passes (row_tests false s q.tables) (long.0 and long.1.0 and long.1.1.0 and third.1 and refl and tt);
      records = long.1.1.1.0;
      rests = eqb-true _ _ (not-false _ (none_pass _ q.tables.control.tasks (eqb-true _ _ rest.0) 0 t.0));
      status = eqb-true _ _ rest.1;
      left = eqb-true _ _ empty.0;
      right = eqb-true _ _ empty.1;
      slots = (from1_true 1023 s sizes.1.0).1;
      tasks = t.0;
      zeros = record {
        lefts = λ i h. blank-at (s + 1) q.tables.lefts rows.0 i (omega arith);
        rights = λ i h. blank-at (s + 1) q.tables.rights rows.1.0 i (omega arith);
        labels = λ i h. blank-at (s + 1) q.tables.labels rows.1.1.0 i (omega arith);
        marks = λ i h. blank-at (s / 64 + 1) q.tables.marks rows.1.1.1.0 i (omega arith);
      };
      marks = λ i h. no-mark i (blank-at (s / 64 + 1) q.tables.marks rows.1.1.1.0 (i / 64) (omega arith));
    }
  where
    no-mark : (i : ℕ) → get_or q.tables.marks (i / 64) 0 ≡ 0 → marked q.tables.marks i ≡ false
    no-mark i g = rw (g, zero-div (2 ^ (i % 64)))
