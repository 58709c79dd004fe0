-- Refused by control or lengths, or by 13, or not at all.
use mathlib.Core.{Path.{◌≡◌, refl, sym, ◌∙◌}, List.{[], ◌∷◌, ◌++◌}, Bool.not}
use lib.Dec.{ltb}
use borrow.Author.Tests.{lt-ltb, le-ltb}
use Rattle.model.{specs.Refusals.{rule, first, table_rules, admission}, proofs.Tests.Rules.{first_passed, first-refused}}
use Rattle.sound.specs.Lengths.{tables_fit}
use Rattle.sound.proofs.admission.admit_step.Statement.{statement}
use Rattle.sound.proofs.admission.admit_step.Tie as tie

returns : tie.Need-returns-then-why-ne0
unfolding admission
returns c =
    let a = c.before.before.before.args in
    let e = c.before.step_refusal-why.ensures in
    e ∙ sym (first-refused (table_rules a.c (tables_fit a.c a.t)) (rule 13 (not (ltb a.task a.c.tasks)) ∷ []) (λ z. c.if-why-ne0.true (e ∙ z)))

-- Where the first two rules pass, 13 decides.
passed : (c : tie.Else-why-ne0) → (let a = c.before.before.before.args in
    first (table_rules a.c (tables_fit a.c a.t) ++ (rule 13 (not (ltb a.task a.c.tasks)) ∷ []))
    ≡ first (rule 13 (not (ltb a.task a.c.tasks)) ∷ []))
passed c =
    let a = c.before.before.before.args in
    first_passed (table_rules a.c (tables_fit a.c a.t)) (rule 13 (not (ltb a.task a.c.tasks)) ∷ []) refl
    (sym c.before.step_refusal-why.ensures ∙ c.if-why-ne0.false)

returns-2 : tie.Need-returns-then-c-task
unfolding admission
returns-2 c = rw (passed c.before.before, le-ltb _ _ c.if-c-task.true)

returns-3 : tie.Need-returns-else-c-task
unfolding admission
returns-3 c = rw (passed c.before.before, lt-ltb _ _ c.if-c-task.false)

pub admit_step_spec : {M : Type 1} → statement M
admit_step_spec = tie.close (tie.spec (λ _ _. tt) returns returns-2 returns-3)
