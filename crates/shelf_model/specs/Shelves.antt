-- Saving a queue on a shelf and returning to it. (Document 02, #109.)
use mathlib.Core.{Bool.{Bool, ◌&&◌, cond, not}, List.{List, [], ◌∷◌, ◌++◌}}
use Rattle.std.specs.Prelude.{ℕ, suc, ◌+◌, ◌*◌, ◌/◌}
use lib.{Dec.{eqb, leb}, ListN.{get_or, length, set, take, drop}}
use Rattle.model.specs.{declared.{Control.Control, Record.Record}, Sound.{control_sound, rows_fit}}
use Rattle.model.specs.{Tables.{Queue, is_pooled, tables_of, queue_of, unopened}, Refusals.{Rule, first, records_fit, rule}}

-- Eight shelves, lent as flat tables; of controls there is one a shelf.
pub record Shelves : Type 0 where
  pub controls : List Control
  pub records : List Record
  pub lefts : List ℕ
  pub rights : List ℕ
  pub labels : List ℕ
  pub marks : List ℕ
  pub next : List ℕ

-- A flat table is cut into eight equal parts; shelf n has part n.
abbrev pub share : {A : Type 0} → List A → ℕ
share l = length l / 8

unfoldable pub part : {A : Type 0} → ℕ → List A → List A
part n l = take (share l) (drop (n * share l) l)

unfoldable pub with_part : {A : Type 0} → ℕ → List A → List A → List A
with_part n l p = take (n * share l) l ++ (p ++ drop (n * share l + share l) l)

-- A control that is not lent reads as zero, as one that was never filled.
abbrev pub unfilled : Control
unfilled = unopened

abbrev pub shelf_at : Shelves → ℕ → Queue
shelf_at s n =
    queue_of (get_or s.controls n unfilled) (part n s.records)
    (part n s.lefts) (part n s.rights) (part n s.labels) (part n s.marks) (part n s.next)

abbrev pub with_shelf : Shelves → ℕ → Queue → Shelves
with_shelf s n q = record {
  controls = set s.controls n q.tables.control;
  records = with_part n s.records q.records;
  lefts = with_part n s.lefts q.tables.lefts;
  rights = with_part n s.rights q.tables.rights;
  labels = with_part n s.labels q.tables.labels;
  marks = with_part n s.marks q.tables.marks;
  next = with_part n s.next q.tables.next;
}

-- The first k entries of one table put over another's; those beyond keep their values.
abbrev pub over : {A : Type 0} → ℕ → List A → List A → List A
over k from to = take k from ++ drop k to

-- A queue put over another: control whole, the records of its tasks, rows 0 to slots, their mark words; the next table of
-- a pooled queue alone.
unfoldable pub copied : Queue → Queue → Queue
copied from to =
    let c = from.tables.control in
    record {
      tables = tables_of c
          (over (suc c.slots) from.tables.lefts to.tables.lefts)
          (over (suc c.slots) from.tables.rights to.tables.rights)
          (over (suc c.slots) from.tables.labels to.tables.labels)
          (over (suc (c.slots / 64)) from.tables.marks to.tables.marks)
          (cond (is_pooled c) (over (suc c.slots) from.tables.next to.tables.next) to.tables.next);
      records = over c.tasks from.records to.records;
    }

-- 12, for one side, by the control that is copied.
abbrev pub holds : Control → Queue → Bool
holds c q = rows_fit (is_pooled c) c.slots q.tables && records_fit c.tasks q

abbrev pub both_hold : Control → Queue → Shelves → ℕ → Bool
both_hold c q s n = holds c q && holds c (shelf_at s n) && leb 8 (length s.controls)

-- A saving: 34 for the queue's control and Anchor, 43, 12.
abbrev pub save_tests : Control → ℕ → Bool → List Rule
save_tests c n fits = rule 34 (not (control_sound c)) ∷ rule 43 (not (leb n 7)) ∷ rule 12 (not fits) ∷ []

abbrev pub save_rules : Queue → Shelves → ℕ → List Rule
save_rules q s n = let c = q.tables.control in save_tests c n (both_hold c q s n)

unfoldable pub save_refusal : Queue → Shelves → ℕ → ℕ
save_refusal q s n = first (save_rules q s n)

-- A return: 43, 44 where the shelf was never filled, 34 for the shelf's control and Anchor, 12. It does not look at the
-- queue's own control.
abbrev pub return_tests : Control → ℕ → Bool → List Rule
return_tests c n fits = rule 43 (not (leb n 7)) ∷ rule 44 (eqb c.tasks 0) ∷ rule 34 (not (control_sound c)) ∷ rule 12 (not fits) ∷ []

abbrev pub return_rules : Queue → Shelves → ℕ → List Rule
return_rules q s n =
    let c = (shelf_at s n).tables.control in
    return_tests c n (both_hold c q s n)

unfoldable pub return_refusal : Queue → Shelves → ℕ → ℕ
return_refusal q s n = first (return_rules q s n)

-- The shelves after a saving, and the queue after a return; a refusal changes nothing.
unfoldable pub saved : Queue → Shelves → ℕ → Shelves
saved q s n = cond (eqb (save_refusal q s n) 0) (with_shelf s n (copied q (shelf_at s n))) s

unfoldable pub returned : Queue → Shelves → ℕ → Queue
returned q s n = cond (eqb (return_refusal q s n) 0) (copied (shelf_at s n) q) q
