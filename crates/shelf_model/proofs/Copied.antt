-- A queue copied over another: within the lengths it is the one that was copied; and so is what lies on a shelf.
use mathlib.Core.{Bool.{Bool, true, false, ◌||◌, cond, not}, List.{List, []}, Logic.◌≢◌, Path.{◌≡◌, ◌∙◌, refl}}
use Prim.Native.Nat.{ℕ, suc, ◌/◌, ◌<◌, ◌≤◌}
use native.Mathlib.Omega.{arith}
use lib.{Dec.ltb, ListN.{length, take}, Seq.{get_or-set_other, get_or-set_same}}
use borrow.Author.Tests.{leb-true, ltb-true}
use Rattle.model.specs.{declared.Control.Control, Tables.{Queue, is_pooled, tables_of}, Sound.{row_tests, rows_fit}}
use Rattle.model.{specs.Refusals.records_fit, proofs.Tests.{Rules.tests, Truth.and-true}}
use Rattle.shelf_model.specs.Cut.{cut}
use Rattle.shelf_model.specs.Shelves.{Shelves, copied, holds, over, part, share, shelf_at, unfilled, with_shelf}
use Rattle.shelf_model.proofs.Parts.{length_over, part_length, part_other, part_same, take_over}

-- What 12 has tested, as lengths.
pub record Long (c : Control) (q : Queue) : Type 0 where
  pub lefts : c.slots < length q.tables.lefts
  pub rights : c.slots < length q.tables.rights
  pub labels : c.slots < length q.tables.labels
  pub marks : c.slots / 64 < length q.tables.marks
  pub next : is_pooled c ≡ true → c.slots < length q.tables.next
  pub records : c.tasks ≤ length q.records

next-long : (b : Bool) (n k : ℕ) → not b || ltb n k ≡ true → b ≡ true → n < k
next-long true n k e p = ltb-true n k e
next-long false n k e p = absurd (let z : ◌≡◌ {A = ℕ} 0 1 = cc in omega arith)

pub long : (c : Control) (q : Queue) → holds c q ≡ true → Long c q
unfolding rows_fit
long c q e =
    let w = and-true (rows_fit (is_pooled c) c.slots q.tables) (records_fit c.tasks q) e in
    let z = tests (row_tests (is_pooled c) c.slots q.tables) w.0 in
    record {
      lefts = ltb-true _ _ z.0;
      rights = ltb-true _ _ z.1.0;
      labels = ltb-true _ _ z.1.1.0;
      marks = ltb-true _ _ z.1.1.1.0;
      next = next-long (is_pooled c) c.slots (length q.tables.next) z.1.1.1.1.0;
      records = leb-true _ _ w.1;
    }

cut-next : (b : Bool) (n : ℕ) (l m : List ℕ) → (b ≡ true → n < length l)
    → cond b (take (suc n) (cond b (over (suc n) l m) m)) [] ≡ cond b (take (suc n) l) []
cut-next true n l m h = take_over (suc n) l m (omega (arith, h refl))
cut-next false n l m h = refl

pub cut-copied : (from to : Queue) → Long from.tables.control from → cut (copied from to) ≡ cut from
unfolding copied
cut-copied from to h =
    let c = from.tables.control in
    let f = from.tables in
    let t = to.tables in
    λ i. record {
      tables = tables_of c
          (take_over (suc c.slots) f.lefts t.lefts h.lefts i)
          (take_over (suc c.slots) f.rights t.rights h.rights i)
          (take_over (suc c.slots) f.labels t.labels h.labels i)
          (take_over (suc (c.slots / 64)) f.marks t.marks h.marks i)
          (cut-next (is_pooled c) c.slots f.next t.next h.next i);
      records = take_over c.tasks from.records to.records h.records i;
    }

-- A shelf after a saving there, and any other.
next_length : (b : Bool) (n : ℕ) (l m : List ℕ) → (b ≡ true → n < length l)
    → (b ≡ true → n < length m) → length (cond b (over (suc n) l m) m) ≡ length m
next_length true n l m h g = length_over (suc n) l m (omega (arith, h refl)) (omega (arith, g refl))
next_length false n l m h g = refl

module _ (q : Queue) (s : Shelves) (n : ℕ) (h : n ≤ 7) (from : Long q.tables.control q)
    (to : Long q.tables.control (shelf_at s n)) (eight : 8 ≤ length s.controls) where
  abbrev c : Control
  c = q.tables.control

  abbrev new : Queue
  new = copied q (shelf_at s n)

  -- Each table is as long as its part.
  fit-lefts : length new.tables.lefts ≡ share s.lefts
  unfolding copied
  fit-lefts = length_over (suc c.slots) q.tables.lefts (part n s.lefts) from.lefts to.lefts ∙ part_length n s.lefts h

  fit-rights : length new.tables.rights ≡ share s.rights
  unfolding copied
  fit-rights = length_over (suc c.slots) q.tables.rights (part n s.rights) from.rights to.rights
      ∙ part_length n s.rights h

  fit-labels : length new.tables.labels ≡ share s.labels
  unfolding copied
  fit-labels = length_over (suc c.slots) q.tables.labels (part n s.labels) from.labels to.labels
      ∙ part_length n s.labels h

  fit-marks : length new.tables.marks ≡ share s.marks
  unfolding copied
  fit-marks = length_over (suc (c.slots / 64)) q.tables.marks (part n s.marks) from.marks to.marks
      ∙ part_length n s.marks h

  fit_next : length new.tables.next ≡ share s.next
  unfolding copied
  fit_next = next_length (is_pooled c) c.slots q.tables.next (part n s.next) from.next to.next ∙ part_length n s.next h

  fit-records : length new.records ≡ share s.records
  unfolding copied
  fit-records = length_over c.tasks q.records (part n s.records) from.records to.records ∙ part_length n s.records h

  pub shelf_same : shelf_at (with_shelf s n new) n ≡ new
  unfolding copied
  shelf_same = λ i. record {
    tables = tables_of (get_or-set_same s.controls n c unfilled (omega arith) i)
        (part_same n s.lefts new.tables.lefts h fit-lefts i)
        (part_same n s.rights new.tables.rights h fit-rights i)
        (part_same n s.labels new.tables.labels h fit-labels i)
        (part_same n s.marks new.tables.marks h fit-marks i)
        (part_same n s.next new.tables.next h fit_next i);
    records = part_same n s.records new.records h fit-records i;
  }

  pub shelf_other : (m : ℕ) → m ≤ 7 → m ≢ n → shelf_at (with_shelf s n new) m ≡ shelf_at s m
  unfolding copied
  shelf_other m g d = λ i. record {
    tables = tables_of (get_or-set_other s.controls n m c unfilled d i)
        (part_other n s.lefts new.tables.lefts h fit-lefts m g d i)
        (part_other n s.rights new.tables.rights h fit-rights m g d i)
        (part_other n s.labels new.tables.labels h fit-labels m g d i)
        (part_other n s.marks new.tables.marks h fit-marks m g d i)
        (part_other n s.next new.tables.next h fit_next m g d i);
    records = part_other n s.records new.records h fit-records m g d i;
  }
