-- The calls over rows: what their parts say comes to what the call means.
use mathlib.Core.{Path.{◌≡◌, refl, sym, ap, subst, ◌∙◌}, Bool.{Bool, true, false, cond}, List.List}
use Prim.Native.Nat.{ℕ, ◌≤◌, min}
use native.Mathlib.Omega.{arith}
use lib.{Dec.{eqb, leb}, ListN.{length, set}}
use Rattle.model.specs.Outcomes.{Opened, Outcome, Refused, Reported}
use Rattle.model.specs.declared.{Control.Control, Reply.Reply, Op.Op}
use Rattle.model.specs.{Tables.{Tables, Queue, tables_of, unused}, Sound.rows_fit, Refusals.open_refusal, Lists.zeroed}
use Rattle.model.{specs.Report.{report, retry_counts, tell}, proofs.Tests.Truth.split}
use Rattle.model.specs.Calls.{Done, OpenDone, opened as opened_queue, open_as, act, opening_code, reply_of}
use Rattle.calls.specs.{declared.opening.OpenedTables.OpenedTables, Opening.{many_records, OpenedParts, open_tables}}
use Rattle.calls.{specs.Telling.countable, proofs.{Openings.{clear-fits, open_parts, whole}, Counts.countable-fits}}
use Rattle.calls.proofs.Tells.{all_looked_at, report_parts}
use Rattle.layout.{specs.Rows.{control_of, records_of, uppers_of, queue_in}, proofs.Rows.{length_records, all-zeroed}}
use Rattle.capi.specs.Replies.{uppers_at, Coded, coded, Replied, replied, busy_in, counts_in, report_reply_of}

-- A start or step, its outcome in numbers. zeroes: after which outcomes the upper half of the label's word is zero.
pub answered : (zeroes : Outcome → Bool) (op : Op) (q q' : Queue) (task : ℕ) (us us' : List ℕ) (o : Outcome) (r : Reply)
    → ◌≡◌ {A = Done} (record { queue = q'; outcome = o }) (act q task op)
    → us' ≡ cond (zeroes o) (set us task 0) us → r ≡ reply_of o
    → ◌≡◌ {A = Replied} (record { queue = q'; uppers = us'; reply = r }) (replied zeroes task us (act q task op))
answered zeroes op q q' task us us' o r e eu er = rw (er, eu) (ap (replied zeroes task us) e)

-- A named opening neither looks at the next rows nor writes them.
abbrev nexts : List ℕ → OpenedParts → OpenedParts
nexts l o = record {
  tables = tables_of o.tables.control o.tables.lefts o.tables.rights o.tables.labels o.tables.marks l;
  clear = o.clear;
  outcome = o.outcome;
}

module _ (c : Control) (lefts rights labels marks none next : List ℕ) (n tasks slots tag : ℕ) where
  abbrev lending : List ℕ → Queue
  lending l = many_records (tables_of c lefts rights labels marks l) n

  abbrev done : Bool → ℕ → List ℕ → OpenDone
  done b why l =
      cond b
      (record { queue = opened_queue false (lending l) tasks slots tag; outcome = Opened })
      (record { queue = lending l; outcome = Refused why })

  abbrev opening_parts : Bool → ℕ → List ℕ → OpenedParts
  opening_parts b why l = record { tables = (done b why l).queue.tables; clear = cond b tasks 0; outcome = (done b why l).outcome }

  either_next : (b : Bool) (why : ℕ) → nexts next (opening_parts b why none) ≡ opening_parts b why next
  unfolding opened_queue
  either_next true why = refl
  either_next false why = refl

  pub any_next : {o : OpenedParts} → o ≡ open_tables false (lending none).tables n tasks slots tag
      → nexts next o ≡ open_tables false (lending next).tables n tasks slots tag
  unfolding open_tables open_as open_refusal rows_fit
  any_next e =
      let why = open_refusal false (lending next) tasks slots in
      ap (nexts next) e ∙ either_next (eqb why 0) why

-- An opening that is refused clears no records.
clear-uppers : (pooled : Bool) (q : Tables) (n tasks slots tag : ℕ) (us : List ℕ)
    → zeroed (open_tables pooled q n tasks slots tag).clear 0 us ≡ uppers_at tasks us (open_tables pooled q n tasks slots tag).outcome
unfolding open_tables open_as
clear-uppers pooled q n tasks slots tag us =
    split (eqb (open_refusal pooled (many_records q n) tasks slots) 0) (λ a. rw a) (λ a. rw a)

-- No more records are looked at than are lent, and 16 at the most.
pub few : (rows : List (List ℕ)) (c : Control) (n k : ℕ) → n ≡ length rows → k ≡ countable c n → (k ≤ length rows) × (k ≤ 16)
few rows c n k en ek = let h = countable-fits c n in (omega (arith, h.0), omega (arith, h.1))

module _ (ws : List ℕ) (rows : List (List ℕ)) (lefts rights labels marks next : List ℕ) where
  abbrev entry : Tables
  entry = tables_of (control_of ws) lefts rights labels marks next

  abbrev pub queue : Queue
  queue = queue_in ws rows lefts rights labels marks next

  -- ---- the opening
  module _ (pooled : Bool) (tasks slots tag : ℕ) (ws' : List ℕ) (rows' : List (List ℕ)) (lefts' rights' labels' marks' next' : List ℕ)
      (c : Control) (n : ℕ) (m : OpenedTables) where
    abbrev parts : OpenedParts
    parts = record { tables = tables_of m.control lefts' rights' labels' marks' next'; clear = m.clear; outcome = m.outcome }

    clears : n ≡ length rows → parts ≡ open_tables pooled (tables_of c lefts rights labels marks next) n tasks slots tag → m.clear ≤ length rows
    clears en e =
        subst (λ (k : ℕ). m.clear ≤ k) en
        (subst (λ (o : OpenedParts). o.clear ≤ n) (sym e) (clear-fits pooled (tables_of c lefts rights labels marks next) n tasks slots tag))

    pub opened : (code : ℕ) → c ≡ control_of ws → n ≡ length rows
        → parts ≡ open_tables pooled (tables_of c lefts rights labels marks next) n tasks slots tag
        → control_of ws' ≡ m.control → records_of rows' ≡ zeroed (min m.clear (length rows)) unused (records_of rows)
        → uppers_of rows' ≡ zeroed (min m.clear (length rows)) 0 (uppers_of rows) → code ≡ opening_code m.outcome
        → ◌≡◌ {A = Coded} (record { queue = queue_in ws' rows' lefts' rights' labels' marks' next'; uppers = uppers_of rows'; code = code })
        (coded tasks (uppers_of rows) (open_as pooled queue tasks slots tag))
    opened code ec en e e1 e2 e3 eo =
        let e' : parts ≡ open_tables pooled entry (length (records_of rows)) tasks slots tag =
        e
        ∙ ap (λ (d : Control). open_tables pooled (tables_of d lefts rights labels marks next) n tasks slots tag) ec
        ∙ ap (λ (k : ℕ). open_tables pooled entry k tasks slots tag) (en ∙ sym (length_records rows)) in
        let zeroes : zeroed m.clear 0 (uppers_of rows) ≡ uppers_at tasks (uppers_of rows) m.outcome =
        subst (λ (o : OpenedParts). zeroed o.clear 0 (uppers_of rows) ≡ uppers_at tasks (uppers_of rows) o.outcome) (sym e)
        (clear-uppers pooled (tables_of c lefts rights labels marks next) n tasks slots tag (uppers_of rows)) in
        let fits = clears en e in
        rw (eo, e1, e2 ∙ all-zeroed _ _ _ _ fits, e3 ∙ all-zeroed _ _ _ _ fits, zeroes)
        (ap (λ (o : OpenedParts). coded tasks (uppers_of rows) (whole (records_of rows) o)) e'
        ∙ ap (coded tasks (uppers_of rows)) (sym (open_parts pooled queue tasks slots tag)))

  -- ---- the report
  pub reported : (c : Control) (n k b : ℕ) (r : Reported) (l : List ℕ) → c ≡ control_of ws → n ≡ length rows
      → k ≡ countable c n → b ≡ busy_in k (records_of rows)
      → r ≡ tell (tables_of c lefts rights labels marks next) (leb c.tasks n) b → l ≡ counts_in k (records_of rows)
      → report_reply_of r l ≡ report_reply_of (report queue) (retry_counts queue)
  unfolding retry_counts
  reported c n k b r l ec en ek eb e el =
      let told : r ≡ report queue = e ∙ rw (eb, ek, en, ec, ← length_records rows) (sym (report_parts queue)) in
      let looked : k ≡ countable (control_of ws) (length (records_of rows)) = ek ∙ rw (ec, en, ← length_records rows) in
      ap (λ (x : Reported). report_reply_of x l) told
      ∙ ap (report_reply_of (report queue)) (el ∙ ap (λ (m : ℕ). counts_in m (records_of rows)) looked)
      ∙ all_looked_at queue (λ x m. report_reply_of x (counts_in m (records_of rows))) (λ w m o. refl)
