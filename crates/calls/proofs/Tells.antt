-- The report is told or refused: by control or lengths before the walk, by the walk, or not at all.
use Rattle.std.specs.Prelude.{Ok, Err}
use mathlib.Core.{Path.{◌≡◌, refl, sym, ap, ◌∙◌}, Bool.{Bool, true, false, ◌&&◌, not, cond}, List.{[], ◌∷◌}}
use Prim.Native.Nat.{ℕ}
use lib.{Dec.{eqb, leb}, ListN.length}
use borrow.Author.Tests.{eqb-true, ne_eqb, not-false}
use Rattle.model.specs.Outcomes.{Refused, Reported}
use Rattle.model.specs.{declared.Control.Control, Tables.{Tables, Queue, is_pooled, record_at}}
use Rattle.model.specs.{Sound.{control_sound, rows_fit}, Walk.{contents, is_broken}, Lists.count}
use Rattle.model.specs.Refusals.{rule, first, fits, table_rules, report_rules, report_refusal}
use Rattle.model.specs.Report.{busy, report, tell, told, waiting}
use Rattle.model.proofs.Tests.{Rules.{cleared, first-refused}, Truth.and-true}
use Rattle.sound.specs.{declared.Lengths.Lengths, Lengths.{lengths_of, lengths_fit, tables_fit}}
use Rattle.walk.specs.{declared.Unsound.Unsound, Counted.counted}
use Rattle.walk.proofs.Counting.{none-counted, all-counted}
use Rattle.calls.specs.Telling.{countable}

module _ (q : Tables) (enough : Bool) (busy : ℕ) where
  abbrev pub why : ℕ
  why = first (table_rules q.control (fits q && enough))

  -- The number found by the lengths is the first two rules'.
  pub found : (r n : ℕ) (t : Lengths) → t ≡ lengths_of q n → enough ≡ leb q.control.tasks n
      → r ≡ first (table_rules q.control (tables_fit q.control t)) → r ≡ why
  unfolding lengths_fit rows_fit
  found r n t m many e =
      e
      ∙ ap (λ (l : Lengths). first (table_rules q.control (tables_fit q.control l))) m
      ∙ ap (λ (b : Bool). first (table_rules q.control (fits q && b))) (sym many)

  pub refused : (n : ℕ) → n ≡ why → (n ≡ 0 → ⊥) → Refused n ≡ tell q enough busy
  unfolding tell report_refusal
  refused n e h =
      let r = first-refused (table_rules q.control (fits q && enough)) (rule 34 (is_broken (contents q)) ∷ []) (λ z. h (e ∙ z)) ∙ sym e in
      rw (r, ne_eqb n 0 h)

  module _ (n : ℕ) (e : n ≡ why) (z : n ≡ 0) where
    passed : (control_sound q.control ≡ true) × (fits q && enough ≡ true)
    passed =
        let c = cleared (table_rules q.control (fits q && enough)) refl (sym e ∙ z) in
        (not-false _ c.0, not-false _ c.1.0)

    pub astray : (u : Unsound) → Err u ≡ counted (contents q) → Refused 34 ≡ tell q enough busy
    unfolding tell report_refusal
    astray u f = rw (passed.0, passed.1, none-counted (contents q) u f)

    pub tells : (m : ℕ) → Ok m ≡ counted (contents q)
        → Ok (record {
          anchor = (told q busy).anchor;
          busy = busy;
          waiting = m;
          taken = (told q busy).taken;
        }) ≡ tell q enough busy
    unfolding tell report_refusal waiting
    tells m f = let g = all-counted (contents q) m f in rw (passed.0, passed.1, g.0, g.1)

-- What is told of a refused report does not depend on the count of busy tasks.
tell-same : (q : Tables) (enough : Bool) (m n : ℕ) → (report_refusal q enough ≡ 0 → m ≡ n) → tell q enough m ≡ tell q enough n
unfolding tell
tell-same q enough m n h = go (eqb (report_refusal q enough) 0) refl
  where
    told_by : Bool → ℕ → Reported
    told_by b k = cond b (Ok (told q k)) (Refused (report_refusal q enough))

    go : (b : Bool) → eqb (report_refusal q enough) 0 ≡ b → told_by b m ≡ told_by b n
    go true e = ap (told_by true) (h (eqb-true _ 0 e))
    go false e = refl

-- The report is its parts.
module _ (q : Queue) where
  abbrev control : Control
  control = q.tables.control

  abbrev lent : ℕ
  lent = length q.records

  all-tasks : report_refusal q.tables (leb control.tasks lent) ≡ 0 → countable control lent ≡ control.tasks
  unfolding countable control_sound report_refusal
  all-tasks e =
      let z = cleared (report_rules q.tables (leb control.tasks lent)) refl e in
      let tasks = (and-true (leb 1 control.tasks && leb control.tasks 16) _ (not-false _ z.0)).0 in
      let few = (and-true (leb 1 control.tasks) (leb control.tasks 16) tasks).1 in
      let enough = (and-true (rows_fit (is_pooled control) control.slots q.tables) (leb control.tasks lent) (not-false _ z.1.0)).1 in
      rw (few, enough)

  abbrev why_not : ℕ
  why_not = report_refusal q.tables (leb control.tasks lent)

  abbrev told_by : Bool → Reported
  told_by b = cond b (Ok (told q.tables (busy q))) (Refused why_not)

  -- What is told beside a report may rest on all tasks: a refused one looks at none.
  pub all_looked_at : {A : Type 0} (f : Reported → ℕ → A) → ((w k m : ℕ) → f (Refused w) k ≡ f (Refused w) m)
      → f (report q) (countable control lent) ≡ f (report q) control.tasks
  unfolding report tell
  all_looked_at f same = go (eqb why_not 0) refl
    where
      go : (b : Bool) → eqb why_not 0 ≡ b → f (told_by b) (countable control lent) ≡ f (told_by b) control.tasks
      go true e = ap (f (told_by true)) (all-tasks (eqb-true _ 0 e))
      go false e = same why_not _ _

  pub report_parts : report q ≡ tell q.tables (leb control.tasks lent) (count (λ t. not (eqb (record_at q t).place 0)) (countable control lent))
  unfolding report busy
  report_parts =
      tell-same q.tables (leb control.tasks lent) (busy q) _ (λ e. ap (count (λ t. not (eqb (record_at q t).place 0))) (sym (all-tasks e)))
