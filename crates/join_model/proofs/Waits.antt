-- The labels wait in slots 1, 2 and so on.
use mathlib.Core.{Path.{◌≡◌, refl, sym, ap, ◌∙◌}, Bool.{false, cond}, List.{List, [], ◌∷◌, reverse, reverse_aux}}
use Prim.Native.Nat.{ℕ, zero, suc, ◌<◌, ◌≤◌, ◌%◌, ◌^◌}
use native.Mathlib.Omega.{arith}
use lib.{ListN.{length, get_or, drop}, Seq.{drop-cons, drop-length}}
use borrow.Author.Tests.{ne_eqb, le-leb, ltb-true}
use Rattle.word.specs.declared.Anchor.{Anchor}
use Rattle.model.specs.{declared.Entry.Entry, Tables.{Tables, Queue}, Sound.{row_tests, rows_fit}}
use Rattle.model.specs.Walk.{Walk, entries, along, contents, walk_from, whence}
use Rattle.model.specs.Sides.{is_empty, links, opposite, near, far}
use Rattle.model.proofs.{Tests.Rules.tests, Unsound.Tests.link-sound}
use Rattle.join_model.specs.{Join.anchor_in, Laws.numbered, Closed.{left_of, label_of, held, tag_after}}
use Rattle.join_model.proofs.{Fresh.Fresh, Filling.filled_at, Pushes.held_reads}

-- The entries of slots k down to 1.
abbrev down : (ℕ → ℕ) → ℕ → List Entry
down f zero = []
down f (suc k) = record { slot = suc k; label = f (suc k) } ∷ down f k

turned : (l : List ℕ) (k : ℕ) → k ≤ length l → reverse_aux (down (label_of l) k) (numbered (suc k) (drop k l)) ≡ numbered 1 l
turned l zero h = refl
turned l (suc k) h =
    ap (λ (r : List ℕ). reverse_aux (down (label_of l) k) (numbered (suc k) r)) (sym (drop-cons l k 0 h))
    ∙ turned l k (omega arith)

all-turned : (l : List ℕ) → reverse (down (label_of l) (length l)) ≡ numbered 1 l
all-turned l =
    ap (λ (r : List ℕ). reverse_aux (down (label_of l) (length l)) (numbered (suc (length l)) r)) (sym (drop-length l)) ∙ turned l (length l) (omega arith)

-- From slot k along Left links down to slot 1.
module _ (slots : ℕ) (lefts labels : List ℕ) (f : ℕ → ℕ) (n : ℕ) (small : slots ≤ 1023) (fits : n ≤ slots) where
  falls : ((i : ℕ) → 1 ≤ i → i ≤ n → get_or lefts i 0 ≡ left_of i) → ((i : ℕ) → 1 ≤ i → i ≤ n → get_or labels i 0 ≡ f i)
      → (k fuel : ℕ) → suc k ≤ n → k < fuel → along slots lefts labels 1 fuel (suc k) ≡ entries (down f (suc k))
  unfolding along
  falls l b k zero h g = absurd (omega arith)
  falls l b zero (suc fuel) h g = rw (le-leb 1 slots (omega arith), b 1 (omega arith) h)
  falls l b (suc k) (suc fuel) h g =
      let x = suc (suc k) in
      let back : left_of x ≡ suc k = omega arith in
      let same : suc k % 2 ^ 15 ≡ suc k = omega arith in
      rw (
        le-leb 1 x (omega arith),
        le-leb x slots (omega arith),
        ne_eqb x 1 (λ z. omega arith),
        l x (omega arith) h,
        back,
        link-sound slots (suc k)
            (omega arith) (omega arith),
        same,
        falls l b k fuel (omega arith) (omega arith),
        b x (omega arith) h,
      )

module _ (q : Queue) (fresh : Fresh q) (x : ℕ) (l : List ℕ) where
  abbrev n : ℕ
  n = suc (length l)

  abbrev slots : ℕ
  slots = q.tables.control.slots

  abbrev third : Tables
  third = (held q (length l) (label_of (x ∷ l))).tables

  -- The walk by Anchor's fields.
  abbrev look : Anchor → Walk
  look a =
      let side = whence a.status in
      cond (is_empty a) (entries []) (walk_from side (along slots (links third (opposite side)) third.labels (far side a) slots (near side a)))

  pub held-waits : n ≤ slots → tag_after (anchor_in q).tag n ≤ 4294967264 → contents third ≡ entries (numbered 1 (x ∷ l))
  unfolding contents held rows_fit
  held-waits h known =
      let long = tests (row_tests false slots q.tables) fresh.rows in
      let lefts = ltb-true slots (length q.tables.lefts) long.0 in
      let labels = ltb-true slots (length q.tables.labels) long.1.1.0 in
      ap look (held_reads q fresh (label_of (x ∷ l)) (length l) h known)
      ∙ ap (walk_from 1) (falls slots third.lefts third.labels (label_of (x ∷ l)) n fresh.slots h
      (λ i a b. filled_at left_of n q.tables.lefts i a b (omega arith))
      (λ i a b. filled_at (label_of (x ∷ l)) n q.tables.labels i a b (omega arith)) (length l) slots (omega arith) h)
      ∙ ap entries (all-turned (x ∷ l))
