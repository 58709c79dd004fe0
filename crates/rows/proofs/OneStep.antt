-- A step over rows: what its parts say comes to what the step means.
use mathlib.Core.{Path.{◌≡◌, refl, sym, ap, ◌∙◌}, Bool.{Bool, true, false, cond}, List.{List, []}}
use Prim.Native.Nat.{ℕ, ◌<◌, ◌≤◌}
use native.Mathlib.Omega.{arith}
use lib.{ListN.{length, get_or, set}, Seq.set-get_or}
use borrow.Author.Tests.{leb-true, ltb-true}
use Rattle.model.specs.Outcomes.{Outcome, Refused}
use Rattle.model.specs.declared.{Control.Control, Record.Record}
use Rattle.model.specs.{declared.Op.TheVariants.Step, Tables.{Tables, Queue, is_pooled, tables_of, task_at, unused}}
use Rattle.model.specs.{Ends.ends_call, Sound.rows_fit, Refusals.{admission, among}, Calls.{Done, back, act, act_on}}
use Rattle.sound.specs.{declared.Lengths.Lengths, Lengths.{lengths_of, lengths_fit, among_many}}
use Rattle.sound.proofs.Measured.{lengths_fit_lem}
use Rattle.engine.{specs.StepAdmitted.step_admitted, proofs.InParts.{turned_away, admitted, task_there}}
use Rattle.layout.specs.Rows.{control_of, records_of, upper_of, uppers_of, queue_in}
use Rattle.rows.specs.Moved.{RowMoved}
use Rattle.layout.proofs.Rows.{length_records, record_read, upper_read, record_put, upper-put}

module _ (ws : List ℕ) (rows : List (List ℕ)) (lefts rights labels marks next : List ℕ) (task : ℕ) where
  abbrev entry : Tables
  entry = tables_of (control_of ws) lefts rights labels marks next

  abbrev queue : Queue
  queue = queue_in ws rows lefts rights labels marks next

  abbrev r₀ : Record
  r₀ = task_at queue task

  abbrev row₀ : List ℕ
  row₀ = get_or rows task []

  -- The lengths, and how the task's record is lent, seen from the rows.
  abbrev t : Lengths
  t = lengths_of entry (length rows)

  pub lent-among : (c : Control) → c ≡ control_of ws → among_many c t task ≡ among queue task
  lent-among c ec =
      ap (λ (d : Control). among_many d t task) ec
      ∙ ap (λ (n : ℕ). among_many (control_of ws) (lengths_of entry n) task) (sym (length_records rows))

  abbrev fit : Control → Bool
  fit c = lengths_fit (is_pooled c) c.slots t

  abbrev pub fault : ℕ
  fault = admission (control_of ws) (rows_fit (is_pooled (control_of ws)) (control_of ws).slots entry) (among queue task)

  pub asked : (c : Control) (why : ℕ) (l : Lengths) → c ≡ control_of ws → l ≡ t
      → why ≡ admission c (lengths_fit (is_pooled c) c.slots l) (among_many c l task) → why ≡ fault
  asked c why l ec el e =
      e
      ∙ ap (λ (l : Lengths). admission c (lengths_fit (is_pooled c) c.slots l) (among_many c l task)) el
      ∙ ap (admission c (fit c)) (lent-among c ec)
      ∙ ap (λ (d : Control). admission d (fit d) (among queue task)) ec
      ∙ ap (λ (b : Bool). admission (control_of ws) b (among queue task)) (lengths_fit_lem _ _ entry (length rows))

  -- Not admitted: the number alone.
  abbrev Steps : List ℕ → List (List ℕ) → List ℕ → List ℕ → List ℕ → List ℕ → List ℕ → Outcome → Type 0
  Steps ws' rows' lefts' rights' labels' marks' next' o =
      (◌≡◌ {A = Done} (record { queue = queue_in ws' rows' lefts' rights' labels' marks' next'; outcome = o }) (act queue task Step))
      × (uppers_of rows' ≡ cond (ends_call o) (set (uppers_of rows) task 0) (uppers_of rows))

  pub refused : (why : ℕ) (o : Outcome) → why ≡ fault → (why ≡ 0 → ⊥) → o ≡ Refused why → Steps ws rows lefts rights labels marks next o
  unfolding act act_on
  refused why o e h eo =
      let same : ◌≡◌ {A = Done} (record { queue = queue; outcome = o }) (act queue task Step) =
      ap (λ (u : Outcome). record { queue = queue; outcome = u }) eo
      ∙ ap (λ (l : List Record). record { queue = record { tables = entry; records = l }; outcome = Refused why })
      (sym (set-get_or (records_of rows) task unused))
      ∙ ap (back queue task) (turned_away entry (among queue task) r₀ why e h) in
      (same, rw eo)

  -- An admitted task has a record.
  pub there : fault ≡ 0 → task < length rows
  there e =
      let both = task_there entry (among queue task) r₀ e in
      let enough : (control_of ws).tasks ≤ length (records_of rows) = leb-true _ _ both.0 in
      let known : task < (control_of ws).tasks = ltb-true _ _ both.1 in
      omega (arith, enough, known, length_records rows)

  kept-upper : (b : Bool) → set (uppers_of rows) task (cond b 0 (upper_of row₀)) ≡ cond b (set (uppers_of rows) task 0) (uppers_of rows)
  kept-upper true = refl
  kept-upper false = ap (set (uppers_of rows) task) (upper_read rows task) ∙ set-get_or (uppers_of rows) task 0

  -- Admitted: the record is moved on in its row.
  pub stepped : (ws' row' lefts' rights' labels' marks' next' : List ℕ) (o : Outcome) → fault ≡ 0
      → RowMoved entry row₀ (tables_of (control_of ws') lefts' rights' labels' marks' next') row' o
      → Steps ws' (set rows task row') lefts' rights' labels' marks' next' o
  unfolding act act_on
  stepped ws' row' lefts' rights' labels' marks' next' o f moved =
      let left = moved.0 ∙ ap (step_admitted entry) (record_read rows task) ∙ admitted entry (among queue task) r₀ f in (
        rw (record_put rows task row') (ap (back queue task) left),
        upper-put rows task row' ∙ ap (set (uppers_of rows) task) moved.1
            ∙ kept-upper (ends_call o),
      )
