-- What is to be said of a step over lent records: refused, all is as it was; admitted, its task's record is moved on.
use mathlib.Core.{Path.{◌≡◌, sym, ap, ◌∙◌}, List.List}
use Prim.Native.Nat.{ℕ, ◌<◌, ◌≤◌}
use native.Mathlib.Omega.{arith}
use lib.{ListN.{length, set}, Seq.set-get_or}
use borrow.Author.Tests.{leb-true, ltb-true}
use Rattle.model.specs.Outcomes.{Refused}
use Rattle.model.specs.declared.{Control.Control, Record.Record}
use Rattle.model.specs.{declared.Op.TheVariants.Step, Tables.{Tables, Queue, tables_of, task_at, unused, is_pooled}, Sound.rows_fit}
use Rattle.model.specs.{Refusals.{among, admission}, Calls.{Acted, Done, back, act, act_on}}
use Rattle.sound.specs.{declared.Lengths.Lengths, Lengths.{lengths_of, lengths_fit, among_many}}
use Rattle.engine.{specs.StepAdmitted.step_admitted, proofs.InParts.{turned_away, admitted, task_there}}

module _ (c : Control) (rs : List Record) (task : ℕ) (lefts rights labels marks next : List ℕ) where
  abbrev pub entry : Tables
  entry = tables_of c lefts rights labels marks next

  abbrev pub queue : Queue
  queue = record { tables = entry; records = rs }

  abbrev pub r : Record
  r = task_at queue task

  -- The lengths, and why the step is not admitted, or 0.
  abbrev pub sizes : Lengths
  sizes = lengths_of entry (length rs)

  abbrev pub fault : ℕ
  fault = admission c (lengths_fit (is_pooled c) c.slots sizes) (among_many c sizes task)

  -- The number found is that of the tables as they measure.
  pub found : (why : ℕ) (l : Lengths) → l ≡ sizes → why ≡ admission c (lengths_fit (is_pooled c) c.slots l) (among_many c l task) → why ≡ fault
  found why l el e = e ∙ ap (λ (l : Lengths). admission c (lengths_fit (is_pooled c) c.slots l) (among_many c l task)) el

  pub refused : (why : ℕ) → why ≡ fault → (why ≡ 0 → ⊥) → ◌≡◌ {A = Done} (record { queue = queue; outcome = Refused why }) (act queue task Step)
  unfolding act act_on rows_fit lengths_fit
  refused why e h =
      ap (λ (l : List Record). record { queue = record { tables = entry; records = l }; outcome = Refused why }) (sym (set-get_or rs task unused))
      ∙ ap (back queue task) (turned_away entry (among queue task) r why e h)

  -- An admitted task has a record.
  pub there : fault ≡ 0 → task < length rs
  unfolding rows_fit lengths_fit
  there e =
      let both = task_there entry (among queue task) r e in
      let enough : c.tasks ≤ length rs = leb-true _ _ both.0 in
      let known : task < c.tasks = ltb-true _ _ both.1 in
      omega arith

  pub moved : (a : Acted) → fault ≡ 0 → a ≡ step_admitted entry r
      → ◌≡◌ {A = Done} (record { queue = record { tables = a.tables; records = set rs task a.task }; outcome = a.outcome }) (act queue task Step)
  unfolding act act_on rows_fit lengths_fit
  moved a h e = ap (back queue task) (e ∙ admitted entry (among queue task) r h)
