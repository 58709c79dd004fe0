-- After an opening the tables stay long enough, so no step of a busy task is refused.
use mathlib.Core.{Bool.{Bool, ◌&&◌, ◌||◌, cond, not, true}, Path.{◌∙◌, ◌≡◌, ap, refl, sym}}
use Prim.Native.Nat.{◌/◌, ◌≤◌, ℕ}
use native.Mathlib.Omega.{arith}
use lib.{Dec.{eqb, ltb}, ListN.length}
use borrow.Author.Tests.{eq-eqb, le-leb, leb-true, lt-ltb, ltb-true, ne_eqb, not-false}
use Rattle.model.specs.{Calls.{act, open_as, opened}, History.Ledger, Progress.Busy, Sound.{row_tests, rows_fit}}
use Rattle.model.specs.Refusals.{among, open_refusal, open_rules, records_fit, step_refusal}
use Rattle.model.specs.{Tables.{Queue, Tables, is_pooled, record_at}, declared.{Op.Op, Call.Call}}
use Rattle.model.proofs.{Tests.Rules.{◌and◌, cleared, passes, tests}, Ledger.{Matched.Matched, Opened.flag}}
use Rattle.model.proofs.Tests.Truth.{and_of, and-true, or_first, or_right, or_second, split}
use Rattle.model.proofs.Laws.Sizes.{act-pooled, act-slots, act-tasks}
use Rattle.model.proofs.Laws.Lengths.{Lengths, SameLengths, act_lengths, open_lengths}
use Rattle.model.proofs.Bridge.{Accepted.Lies, Facts.{RowsFine, from1_true}}
use Rattle.model.proofs.Unsound.{Safe.Safe, StepSound.{own_sound, step-sound}}

-- As many tasks and slots as were opened, in the way that was asked for, and tables long enough for them.
pub record Roomy (pooled : Bool) (tasks : ℕ) (q : Queue) : Type 0 where
  pub some : 1 ≤ tasks
  pub way : is_pooled q.tables.control ≡ pooled
  pub tasks_are : q.tables.control.tasks ≡ tasks
  pub rows : RowsFine q.tables
  pub records : tasks ≤ length q.records

pub act_roomy : (pooled : Bool) (n : ℕ) (q : Queue) (t : ℕ) (o : Op) → Roomy pooled n q → Roomy pooled n (act q t o).queue
act_roomy pooled n q t o y =
    let l = act_lengths q t o in
    let same = ap (λ (v : ℕ). eqb v 1) (act-pooled q t o) in
    record {
      some = y.some;
      way = same ∙ y.way;
      tasks_are = act-tasks q t o ∙ y.tasks_are;
      rows = record {
        lefts = omega (arith, act-slots q t o, y.rows.lefts, ap (λ (x : Lengths). x.lefts) l.tables);
        rights = omega (arith, act-slots q t o, y.rows.rights, ap (λ (x : Lengths). x.rights) l.tables);
        labels = omega (arith, act-slots q t o, y.rows.labels, ap (λ (x : Lengths). x.labels) l.tables);
        marks = omega (arith, act-slots q t o, y.rows.marks, ap (λ (x : Lengths). x.marks) l.tables);
        next = λ p. omega (arith, act-slots q t o, y.rows.next (sym same ∙ p), ap (λ (x : Lengths). x.next) l.tables);
      };
      records = omega (arith, y.records, l.records);
    }

module _ (pooled : Bool) (q : Queue) (tasks slots tag : ℕ) (e : open_refusal pooled q tasks slots ≡ 0) where
  opened_lengths : SameLengths q (opened pooled q tasks slots tag)
  unfolding open_as
  opened_lengths = rw (eq-eqb (open_refusal pooled q tasks slots) 0 e) at (open_lengths pooled q tasks slots tag)

  pub open_roomy : Roomy pooled tasks (opened pooled q tasks slots tag)
  unfolding open_refusal opened rows_fit
  open_roomy =
      let z = cleared (open_rules pooled q tasks slots) refl e in
      let w = and-true (rows_fit pooled slots q.tables) (records_fit tasks q) (not-false _ z.1.1.0) in
      let y = tests (row_tests pooled slots q.tables) w.0 in
      let l = opened_lengths in
      record {
        some = (from1_true 16 tasks (not-false _ z.0)).0;
        way = flag pooled q tasks slots tag;
        tasks_are = refl;
        rows = record {
          lefts = omega (arith, ltb-true slots (length q.tables.lefts) y.0, ap (λ (x : Lengths). x.lefts) l.tables);
          rights = omega (arith, ltb-true slots (length q.tables.rights) y.1.0, ap (λ (x : Lengths). x.rights) l.tables);
          labels = omega (arith, ltb-true slots (length q.tables.labels) y.1.1.0, ap (λ (x : Lengths). x.labels) l.tables);
          marks = omega (arith, ltb-true (slots / 64) (length q.tables.marks) y.1.1.1.0, ap (λ (x : Lengths). x.marks) l.tables);
          next = λ p. omega (
            arith,
            ltb-true slots (length q.tables.next) (or_right _ _ y.1.1.1.1.0 (ap not (sym (flag pooled q tasks slots tag) ∙ p))),
            ap (λ (x : Lengths). x.next) l.tables,
          );
        };
        records = omega (arith, leb-true tasks (length q.records) w.1, l.records);
      }

-- A busy task's step passes every rule.
module _ (n : ℕ) (q : Queue) (l : Ledger) (g : Matched n q l) (f : Safe q) (pooled : Bool) (tasks : ℕ) (y : Roomy pooled tasks q) (t : ℕ)
    (b : Busy q t) where
  abbrev r : Call
  r = record_at q t

  abbrev G : Tables
  G = q.tables

  pub lies : Lies q t
  lies = record { rows = y.rows; length = omega (arith, y.tasks_are, y.records); known = b.known }

  next_fits : not (is_pooled G.control) || ltb G.control.slots (length G.next) ≡ true
  next_fits = split (is_pooled G.control) (λ e. or_second (not (is_pooled G.control)) (lt-ltb _ _ (y.rows.next e))) (λ e. or_first _ (ap not e))

  fits : rows_fit (is_pooled G.control) G.control.slots G && (among q t).enough ≡ true
  unfolding rows_fit
  fits = and_of (passes (row_tests (is_pooled G.control) G.control.slots G)
      (lt-ltb _ _ y.rows.lefts and lt-ltb _ _ y.rows.rights and lt-ltb _ _ y.rows.labels and lt-ltb _ _ y.rows.marks
      and next_fits and tt))
      (le-leb _ _ lies.length)

  -- A rule that asks for the opposite of what holds.
  passed : {x : Bool} (w : ℕ) {z : ℕ} → x ≡ true → z ≡ 0 → cond (not x) w z ≡ 0
  passed w e h = rw e h

  pub not_refused : step_refusal G (among q t) r ≡ 0
  unfolding step_refusal
  not_refused = passed 34 f.control (passed 12 fits (passed 13 (lt-ltb _ _ b.known) (passed 34 (own_sound n q l g f t lies b.place)
      (rw (ne_eqb r.place 0 b.place) (passed 34 (step-sound n q l g f t lies b.place) refl)))))
