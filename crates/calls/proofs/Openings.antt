-- An opening's parts make the opening: an accepted one finds every table long enough, a refused one zeroes nothing.
use mathlib.Core.{Path.{◌≡◌, refl, sym, ap, ◌∙◌}, Bool.{Bool, true, false, ◌&&◌, ◌||◌, not, cond}, List.List}
use Prim.Native.Nat.{ℕ, ◌+◌, ◌/◌, ◌≤◌}
use native.Mathlib.Omega.{arith}
use lib.{Dec.{eqb, ltb, leb}, ListN.{length, length-replicate}}
use borrow.Author.Tests.{ltb-true, leb-true, eqb-true, le-leb, eq-eqb, ne_eqb, not-false}
use Rattle.model.specs.{declared.Record.Record, Tables.{Tables, Queue, tables_of, opened_control, unused}, Sound.rows_fit}
use Rattle.model.specs.{Refusals.{opening_rules, open_refusal}, Calls.{stacked, opened, open_as, OpenDone}, Lists.zeroed}
use Rattle.model.proofs.Tests.{Rules.cleared, Truth.and-true}
use Rattle.model.specs.Outcomes.{Opened, Refused}
use Rattle.sound.specs.{declared.Lengths.Lengths, Lengths.{lengths_of, lengths_fit}}
use Rattle.table.specs.{Filling.filling, Stacking.stacking}
use Rattle.calls.specs.Opening.{opening_refusal, many_records, OpenedParts, open_tables}

-- The number found by the lengths is the first rule's.
pub found : (pooled : Bool) (q : Tables) (n tasks slots r : ℕ) (t : Lengths) → t ≡ lengths_of q n
    → r ≡ opening_refusal tasks slots (lengths_fit pooled slots t && leb tasks t.records)
    → r ≡ opening_refusal tasks slots (rows_fit pooled slots q && leb tasks n)
unfolding rows_fit lengths_fit
found pooled q n tasks slots r t m e = e ∙ ap (λ (l : Lengths). opening_refusal tasks slots (lengths_fit pooled slots l && leb tasks l.records)) m

-- No rule applies: the slots are few, and the tables fit.
pub record Accepted (slots : ℕ) (fits : Bool) : Type 0 where
  pub slots_most : slots ≤ 1023
  pub fit : fits ≡ true

pub accepted : (tasks slots : ℕ) (fits : Bool) → opening_refusal tasks slots fits ≡ 0 → Accepted slots fits
unfolding opening_refusal
accepted tasks slots fits e =
    let h = cleared (opening_rules tasks slots fits) refl e in
    record {
      slots_most = leb-true slots 1023 (and-true (leb 1 slots) (leb slots 1023) (not-false _ h.1.0)).1;
      fit = not-false _ h.1.1.0;
    }

-- A table with more than n entries has its first n + 1 zeroed.
zeroes : (n : ℕ) (l : List ℕ) → ltb n (length l) ≡ true → filling (n + 1) 0 l ≡ zeroed (n + 1) 0 l
unfolding filling
zeroes n l e = rw (le-leb (n + 1) (length l) (omega (arith, ltb-true n (length l) e)))

-- A pooled queue's next table that has a row for each slot is stacked, a named queue's kept.
stacks : (pooled : Bool) (slots : ℕ) (l : List ℕ) → not pooled || ltb slots (length l) ≡ true
    → stacking pooled slots l ≡ cond pooled (stacked slots l) l
unfolding stacking
stacks true slots l e = rw e
stacks false slots l e = refl

module _ (pooled : Bool) (q : Tables) (records tasks slots : ℕ) where
  abbrev fits : Bool
  fits = rows_fit pooled slots q && leb tasks records

  abbrev why : ℕ
  why = opening_refusal tasks slots fits

  counted : open_refusal pooled (many_records q records) tasks slots ≡ why
  unfolding open_refusal opening_refusal
  counted = rw (length-replicate records unused)

  pub refused_parts : (tag : ℕ) → (why ≡ 0 → ⊥)
      → ◌≡◌ {A = OpenedParts} (record { tables = q; clear = 0; outcome = Refused why }) (open_tables pooled q records tasks slots tag)
  unfolding open_tables open_as
  refused_parts tag h = rw (counted, ne_eqb why 0 h)

  abbrev opened_tables : ℕ → Tables
  opened_tables tag =
      tables_of (opened_control pooled tasks slots tag)
      (filling (slots + 1) 0 q.lefts) (filling (slots + 1) 0 q.rights) (filling (slots + 1) 0 q.labels)
      (filling (slots / 64 + 1) 0 q.marks) (stacking pooled slots q.next)

  pub opened_parts : (tag : ℕ) → why ≡ 0
      → ◌≡◌ {A = OpenedParts} (record { tables = opened_tables tag; clear = tasks; outcome = Opened })
      (open_tables pooled q records tasks slots tag)
  unfolding open_tables open_as opened rows_fit
  opened_parts tag h =
      let f = (and-true (rows_fit pooled slots q) (leb tasks records) (accepted tasks slots fits h).fit).0 in
      let l = and-true (ltb slots (length q.lefts)) _ f in
      let r = and-true (ltb slots (length q.rights)) _ l.1 in
      let b = and-true (ltb slots (length q.labels)) _ r.1 in
      let m = and-true (ltb (slots / 64) (length q.marks)) _ b.1 in
      rw (
        counted,
        eq-eqb why 0 h,
        zeroes slots q.lefts l.0,
        zeroes slots q.rights r.0,
        zeroes slots q.labels b.0,
        zeroes (slots / 64) q.marks m.0,
        stacks pooled slots q.next m.1,
      )

  at_most : (b : Bool) → (b ≡ true → tasks ≤ records) → cond b tasks 0 ≤ records
  at_most true h = h refl
  at_most false h = omega arith

  -- No more records are zeroed than are lent.
  pub clear-fits : (tag : ℕ) → (open_tables pooled q records tasks slots tag).clear ≤ records
  unfolding open_tables
  clear-fits tag =
      let enough : eqb why 0 ≡ true → leb tasks records ≡ true =
      λ e. (and-true (rows_fit pooled slots q) _ (accepted tasks slots fits (eqb-true why 0 e)).fit).1 in
      rw counted (at_most (eqb why 0) (λ e. leb-true tasks records (enough e)))

-- The parts with the lent records make the whole.
abbrev pub whole : List Record → OpenedParts → OpenDone
whole rs o = record { queue = record { tables = o.tables; records = zeroed o.clear unused rs }; outcome = o.outcome }

-- The opening of a queue is its parts.
module _ (pooled : Bool) (q : Queue) (tasks slots tag : ℕ) where
  abbrev few : Queue
  few = many_records q.tables (length q.records)

  same_why : open_refusal pooled few tasks slots ≡ open_refusal pooled q tasks slots
  unfolding open_refusal
  same_why = rw (length-replicate (length q.records) unused)

  abbrev done : Bool → ℕ → Queue → OpenDone
  done b n p = cond b (record { queue = opened pooled p tasks slots tag; outcome = Opened }) (record { queue = p; outcome = Refused n })

  abbrev parts : Bool → ℕ → OpenedParts
  parts b n = record { tables = (done b n few).queue.tables; clear = cond b tasks 0; outcome = (done b n few).outcome }

  joined : (b : Bool) (n : ℕ) → done b n q ≡ whole q.records (parts b n)
  unfolding opened
  joined true n = refl
  joined false n = refl

  pub open_parts : open_as pooled q tasks slots tag
      ≡ whole q.records (open_tables pooled q.tables (length q.records) tasks slots tag)
  unfolding open_tables open_as
  open_parts =
      let n = open_refusal pooled q tasks slots in
      joined (eqb n 0) n ∙ ap (λ (n : ℕ). whole q.records (parts (eqb n 0) n)) (sym same_why)
