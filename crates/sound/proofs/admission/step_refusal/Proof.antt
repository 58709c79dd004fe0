-- Each return is the first rule that applies, by the tests passed before it.
use mathlib.Core.{Path.{◌≡◌, sym, ◌∙◌}, Bool.{Bool, true, false, ◌&&◌}}
use lib.Dec.{leb}
use Rattle.model.specs.{Tables.is_pooled, Sound.control_sound}
use Rattle.sound.specs.Lengths.{lengths_fit}
use Rattle.sound.proofs.Asked.{by_tasks, by_anchor, by_slots, sound, by_next, by_rows}
use Rattle.sound.proofs.admission.step_refusal.Statement.{statement}
use Rattle.sound.proofs.admission.step_refusal.Tie as tie

-- Whether the tables are long enough.
abbrev fit : tie.Start → Bool
fit a = lengths_fit (is_pooled a.args.c) a.args.c.slots a.args.t && a.args.enough

returns : tie.Need-returns-then-not-from1
returns c = let a = c.before.before in by_tasks a.args.c (fit a) (sym c.before.from1.ensures ∙ c.if-not-from1.true)

returns-2 : tie.Need-returns-then-not-anchor_sound
returns-2 c =
    let a = c.before.before.before.before in
    by_anchor a.args.c (fit a) (sym c.before.anchor_sound.ensures ∙ c.if-not-anchor_sound.true)

returns-3 : tie.Need-returns-then-not-from1-2
returns-3 c =
    let a = c.before.before.before.before.before.before in
    by_slots a.args.c (fit a) (sym c.before.from1-2.ensures ∙ c.if-not-from1-2.true)

-- Control is sound but for the word for pooled.
module _ (slots : tie.Else-not-from1-2) where
  abbrev a : tie.Start
  a = slots.before.before.before.before.before.before

  tested : control_sound a.args.c ≡ leb a.args.c.pooled 1
  tested =
      let anchor = slots.before.before in
      let tasks = anchor.before.before in
      sound a.args.c (fit a)
      (sym tasks.before.from1.ensures ∙ tasks.if-not-from1.false)
      (sym anchor.before.anchor_sound.ensures ∙ anchor.if-not-anchor_sound.false)
      (sym slots.before.from1-2.ensures ∙ slots.if-not-from1-2.false)

returns-4 : tie.Need-returns-then-why-ne0
returns-4 c =
    let told = c.before in
    let s = (a told.before).args in
    by_next s.c s.t s.enough told.next_refusal-why.result told.next_refusal-why.ensures (tested told.before) c.if-why-ne0.true

returns-5 : tie.Need-returns-then-rows_fit-enough
returns-5 c =
    let rows = c.before in
    let none = rows.before in
    let told = none.before in
    let s = (a told.before).args in
    by_rows s.c s.t s.enough told.next_refusal-why.result told.next_refusal-why.ensures (tested told.before) true none.if-why-ne0.false
    (rw (← rows.rows_fit.ensures) c.if-rows_fit-enough.true)

returns-6 : tie.Need-returns-else-rows_fit-enough
returns-6 c =
    let rows = c.before in
    let none = rows.before in
    let told = none.before in
    let s = (a told.before).args in
    by_rows s.c s.t s.enough told.next_refusal-why.result told.next_refusal-why.ensures (tested told.before) false none.if-why-ne0.false
    (rw (← rows.rows_fit.ensures) c.if-rows_fit-enough.false)

pub step_refusal_spec : {M : Type 1} → statement M
step_refusal_spec = tie.close (tie.spec (λ _ _. tt) returns (λ _ _. tt) returns-2 (λ _ _. tt) returns-3 (λ _ _. tt) returns-4 (λ _ _. tt) returns-5 returns-6)
