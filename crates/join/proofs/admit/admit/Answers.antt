-- Each stage of the rules, on the queues that the call was given.
use Rattle.std.proofs.Common.{[], ◌∙◌, ap, ℕ, Result, Err}
use Rattle.model.specs.declared.Refusal.{Refusal}
use Rattle.join.specs.declared.admit.Waiting.{Waiting}
use Rattle.std.proofs.lemmas.Result.{err_from_is_err_and}
use Rattle.join.proofs.Admitting.{tried, turned_away, small, lost, met_all, turned_away_late, let_in}
use Rattle.join.proofs.admit.admit.Goals as goal

pub returns-then-why-ne0 : goal.returns-then-why-ne0
returns-then-why-ne0 c m1 x1 m2 x2 x =
    let none = tried _ _ _ _ _ _ _ _ _ _ _ _ _ _ _ _ m1 x1 m2 x2 x
    c.lengths_fit-a.ensures c.lengths_fit-b.ensures c.lengths_fit-c.ensures c.table_rules-why.ensures in
    turned_away _ _ _ _ none c.if-why-ne0.true

pub final_rules-code-requires : goal.final_rules-code-requires
final_rules-code-requires c =
    let none = tried _ _ _ _ _ _ _ _ _ _ _ _ _ _ _ _ [] [] [] [] []
    c.lengths_fit-a.ensures c.lengths_fit-b.ensures c.lengths_fit-c.ensures c.table_rules-why.ensures in
    small _ _ _ _ none c.if-why-ne0.false

abbrev error : Refusal → Result Waiting Refusal
error e = Err e

pub returns-in_err-waiting : goal.returns-in_err-waiting
returns-in_err-waiting c m1 x1 m2 x2 x =
    let none = tried _ _ _ _ _ _ _ _ _ _ _ _ _ _ _ _ m1 x1 m2 x2 x
    c.lengths_fit-a.ensures c.lengths_fit-b.ensures c.lengths_fit-c.ensures c.table_rules-why.ensures in
    let a = c.args in
    let g = err_from_is_err_and c.from_residual.result c.from_residual.ensures.1 in
    rw g.1 (lost _ _ _ _ none c.if-why-ne0.false g.0 (ap error g.2 ∙ c.in_err-waiting.ensures a.labels1.now m1 x1 a.labels2.now m2 x2))

pub returns-then-code-ne0 : goal.returns-then-code-ne0
returns-then-code-ne0 c m1 x1 m2 x2 x =
    let a = c.args in
    let none = tried _ _ _ _ _ _ _ _ _ _ _ _ _ _ _ _ m1 x1 m2 x2 x
    c.lengths_fit-a.ensures c.lengths_fit-b.ensures c.lengths_fit-c.ensures c.table_rules-why.ensures in
    let met = met_all _ _ _ _ none c.if-why-ne0.false _ (c.in_ok-waiting.ensures a.labels1.now m1 x1 a.labels2.now m2 x2) in
    turned_away_late _ _ _ _ none c.if-why-ne0.false _ met.0 _ met.1 _
    (c.final_rules-code.ensures a.lefts1.now a.rights1.now a.labels1.now m1 x1 a.lefts2.now a.rights2.now a.labels2.now m2 x2 x)
    c.if-code-ne0.true

pub returns : goal.returns
returns c m1 x1 m2 x2 x =
    let a = c.args in
    let none = tried _ _ _ _ _ _ _ _ _ _ _ _ _ _ _ _ m1 x1 m2 x2 x
    c.lengths_fit-a.ensures c.lengths_fit-b.ensures c.lengths_fit-c.ensures c.table_rules-why.ensures in
    let met = met_all _ _ _ _ none c.if-why-ne0.false _ (c.in_ok-waiting.ensures a.labels1.now m1 x1 a.labels2.now m2 x2) in
    let_in _ _ _ _ none c.if-why-ne0.false _ met.0 _ met.1 _
    (c.final_rules-code.ensures a.lefts1.now a.rights1.now a.labels1.now m1 x1 a.lefts2.now a.rights2.now a.labels2.now m2 x2 x)
    c.if-code-ne0.false
