-- A start over rows: what its parts say comes to what the start means.
use mathlib.Core.{Path.{◌≡◌, refl, sym, ap, subst, ◌∙◌}, Bool.{Bool, true, false, cond}, List.{List, [], ◌∷◌}}
use Prim.Native.Nat.{ℕ, zero, suc}
use lib.{Dec.eqb, ListN.{length, set}, Seq.set-get_or}
use Rattle.model.specs.{declared.{Control.Control, Call.Call, Record.Record, Transition.Transition}, Route.counted}
use Rattle.model.specs.{declared.Op.{Op, TheVariants.{Push, Pop, PushPooled}}, Ends.is_moved}
use Rattle.model.{specs.Tables.{Tables, Queue, tables_of, queue_of, task_at, unused}, proofs.Tests.Truth.{split, not_both}}
use Rattle.model.specs.Refusals.{Lent, among, push_refusal, push_pooled_refusal, pop_refusal}
use Rattle.model.specs.Calls.{Acted, Done, push_start, push_pooled_start, pop_start, back, act, act_on}
use Rattle.sound.specs.{declared.Lengths.Lengths, Lengths.{lengths_of, among_many}}
use Rattle.table.specs.Lent.{with_tables}
use Rattle.layout.specs.Rows.{control_of, records_of, queue_in, with_call_at}
use Rattle.rows.proofs.OneStep.{lent-among}

set_twice : (l : List ℕ) (i : ℕ) → set (set l i 0) i 0 ≡ set l i 0
set_twice [] i = refl
set_twice (x ∷ l) zero = refl
set_twice (x ∷ l) (suc i) = ap (λ (m : List ℕ). x ∷ m) (set_twice l i)

-- A row's own upper half zeroed, whether or not it was before.
pub zeroed-once : (b : Bool) (us us' : List ℕ) (task : ℕ) → us' ≡ cond b (set us task 0) us → set us' task 0 ≡ set us task 0
zeroed-once b us us' task e = ap (λ (l : List ℕ). set l task 0) e ∙ go b
  where
    go : (b : Bool) → set (cond b (set us task 0) us) task 0 ≡ set us task 0
    go true = set_twice us task
    go false = refl

module _ (ws : List ℕ) (rows : List (List ℕ)) (lefts rights labels marks next : List ℕ) (task : ℕ) where
  abbrev entry : Tables
  entry = tables_of (control_of ws) lefts rights labels marks next

  abbrev queue : Queue
  queue = queue_in ws rows lefts rights labels marks next

  abbrev r₀ : Record
  r₀ = task_at queue task

  abbrev t : Lengths
  t = lengths_of entry (length rows)

  -- A start leaves control and the count as they are, and all where it is refused.
  abbrev Starts : Record → Acted → Type 0
  Starts r a = (a.tables.control ≡ control_of ws) × (is_moved a.outcome ≡ false → a.task ≡ r) × (a.task.retries ≡ r.retries)

  kept : (b : Bool) (r : Record) (x y : Acted) → Starts r x → Starts r y → Starts r (cond b x y)
  kept true r x y h _ = h
  kept false r x y _ h = h

  pub push_starts : (side slot label : ℕ) (p : Lent) (r : Record) → Starts r (act_on entry p r (Push side slot label))
  unfolding act_on push_start
  push_starts side slot label p r = kept (eqb (push_refusal entry p r.call side slot) 0) r _ _ (refl, λ h. absurd (not_both refl h), refl)
      (refl, λ _. refl, refl)

  pub push_pooled_starts : (side label : ℕ) (p : Lent) (r : Record) → Starts r (act_on entry p r (PushPooled side label))
  unfolding act_on push_pooled_start
  push_pooled_starts side label p r = kept (eqb (push_pooled_refusal entry p r.call side) 0) r _ _ (refl, λ h. absurd (not_both refl h), refl)
      (refl, λ _. refl, refl)

  pub pop_starts : (side : ℕ) (p : Lent) (r : Record) → Starts r (act_on entry p r (Pop side))
  unfolding act_on pop_start
  pop_starts side p r = kept (eqb (pop_refusal entry p r.call side) 0) r _ _ (refl, λ h. absurd (not_both refl h), refl) (refl, λ _. refl, refl)

  module _ (o : Op) (starts : (p : Lent) (r : Record) → Starts r (act_on entry p r o)) (rows' : List (List ℕ)) (labels' marks' : List ℕ) where
    abbrev leaving : Transition → Control → Done
    leaving m c = record {
      queue = queue_of c (set (records_of rows) task
          (record { call = m.task; retries = counted r₀.retries m.failed })) lefts rights labels' marks' next;
      outcome = m.outcome;
    }

    pub started : (c : Control) (l : Lengths) (r : Call) (m : Transition) → c ≡ control_of ws → l ≡ t → r ≡ r₀.call
        → ((k : ℕ) → with_tables m lefts rights labels' marks' next k
        ≡ act_on (tables_of c lefts rights labels marks next) (among_many c l task) (record { call = r; retries = k }) o)
        → records_of rows' ≡ cond (is_moved m.outcome) (with_call_at (records_of rows) task m.task) (records_of rows)
        → ◌≡◌ {A = Done} (record { queue = queue_in ws rows' lefts rights labels' marks' next; outcome = m.outcome }) (act queue task o)
    unfolding act
    started c l r m ec el er e e2 =
        let k = r₀.retries in
        let left : with_tables m lefts rights labels' marks' next k ≡ act_on entry (among queue task) r₀ o =
        e k
        ∙ ap (λ (l : Lengths). act_on (tables_of c lefts rights labels marks next) (among_many c l task) (record { call = r; retries = k }) o) el
        ∙ ap (λ (p : Lent). act_on (tables_of c lefts rights labels marks next) p (record { call = r; retries = k }) o)
        (lent-among ws rows lefts rights labels marks next task c ec)
        ∙ ap (λ (d : Control). act_on (tables_of d lefts rights labels marks next) (among queue task) (record { call = r; retries = k }) o) ec
        ∙ ap (λ (t : Call). act_on entry (among queue task) (record { call = t; retries = k }) o) er in
        let s = subst (Starts r₀) (sym left) (starts (among queue task) r₀) in
        let put : records_of rows' ≡ set (records_of rows) task (record { call = m.task; retries = counted k m.failed }) =
        split (is_moved m.outcome)
        (λ a. e2 ∙ rw a (ap (λ (n : ℕ). set (records_of rows) task (record { call = m.task; retries = n })) (sym s.2)))
        (λ a. e2 ∙ rw a (sym (set-get_or (records_of rows) task unused) ∙ ap (set (records_of rows) task) (sym (s.1 a)))) in
        rw put
        (ap (leaving m) (sym s.0) ∙ ap (back queue task) left)
