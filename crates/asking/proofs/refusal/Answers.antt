-- Each return is the first rule that applies, by the tests passed before it.
use mathlib.Core.{Bool.{Bool, true, false, not, cond}, List.{List, [], ◌∷◌, ◌++◌}, Path.{◌≡◌, refl, sym, ap, ◌∙◌}}
use Prim.Native.Nat.{ℕ}
use lib.Dec.{leb, ltb}
use Rattle.model.specs.{Tables.{Tables, is_pooled, tables_of}, Sound.rows_fit, Places.word_found}
use Rattle.model.specs.Refusals.{Lent, Rule, rule, first, fits, admission, admission_rules, record_rules, record_refusal}
use Rattle.model.{specs.Refusals.{step_sound, step_refusal}, proofs.Tests.Rules.{first_passed, first-refused}}
use Rattle.sound.specs.{declared.Lengths.Lengths, Lengths.{lengths_fit, among_many}}
use Rattle.asking.specs.WhyRefused.{touch_refusal}
use Rattle.asking.proofs.refusal.Goals as goal
use Rattle.asking.proofs.refusal.Goals.{After-admit_step-why}

-- A rule that applies where the test fails.
turned : (b : Bool) → ◌≡◌ {A = ℕ} (cond (not b) 34 0) (cond b 0 34)
turned true = refl
turned false = refl

-- The arguments in the model's terms, and the rules: those of admission, and those of the record and what it touches.
module _ (c : After-admit_step-why) where
  abbrev q : Tables
  q = tables_of c.args.c c.args.lefts.now c.args.rights.now c.args.labels.now c.args.marks.now c.args.next.now

  abbrev p : Lent
  p = record { enough = leb c.args.c.tasks c.args.records; known = ltb c.args.task c.args.c.tasks }

  abbrev before : List Rule
  before = admission_rules q.control (fits q) p

  abbrev touches : Bool
  touches = step_sound q.control c.args.r (word_found q c.args.r)

  abbrev records : List Rule
  records = record_rules (is_pooled q.control) q.control.slots c.args.r

  abbrev after : List Rule
  after = records ++ (rule 34 (not touches) ∷ [])

  -- The number found by the lengths is that of the first ones.
  found : c.admit_step-why.result ≡ first before
  unfolding admission lengths_fit rows_fit
  found =
      c.admit_step-why.ensures
      ∙ ap (λ (l : Lengths). admission c.args.c (lengths_fit (is_pooled c.args.c) c.args.c.slots l) (among_many c.args.c l c.args.task))
      (c.of-t.ensures c.args.c)

  -- Where the first ones pass, the others decide.
  passed : c.admit_step-why.result ≡ 0 → first (before ++ after) ≡ first after
  passed none = first_passed before after refl (sym found ∙ none)

  -- A busy and sound record: what it touches decides.
  decided : record_refusal (is_pooled q.control) q.control.slots c.args.r ≡ 0 → first after ≡ touch_refusal q c.args.r
  unfolding touch_refusal record_refusal
  decided none = first_passed records (rule 34 (not touches) ∷ []) refl none ∙ turned touches

pub returns-then-why-ne0 : goal.returns-then-why-ne0
unfolding step_refusal
returns-then-why-ne0 c =
    let r = (goal.at.returns-then-why-ne0 c).After-admit_step-why in
    found r ∙ sym (first-refused (before r) (after r) (λ z. c.if-why-ne0.true (found r ∙ z)))

pub returns-then-unfit-ne0 : goal.returns-then-unfit-ne0
unfolding step_refusal record_refusal
returns-then-unfit-ne0 c =
    let r = (goal.at.returns-then-unfit-ne0 c).After-admit_step-why in
    let why = c.record_refusal-unfit.ensures in
    rw (passed r c.if-why-ne0.false)
    (why ∙ sym (first-refused (records r) (rule 34 (not (touches r)) ∷ []) (λ z. c.if-unfit-ne0.true (why ∙ z))))

pub returns : goal.returns
unfolding step_refusal
returns c =
    let r = (goal.at.returns c).After-admit_step-why in
    rw (passed r c.if-why-ne0.false)
    (c.touch_refusal.ensures c.args.marks.now ∙ sym (decided r (sym c.record_refusal-unfit.ensures ∙ c.if-unfit-ne0.false)))
