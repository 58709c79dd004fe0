-- Refused, nothing to lay, or laid: on the queues that the call was given.
use Rattle.std.proofs.Common.{[], ◌∙◌, ap, arith, eqb-true, sym, ℕ}
use lib.Dec.{eqb}
use Rattle.model.{specs.declared.Refusal.Refusal, proofs.Tests.Truth.and-true}
use Rattle.std.proofs.lemmas.Result.{err_from_is_err_and}
use Rattle.join.proofs.Joining.{refuses, nothing, few, both_in_rows, low-tag, lays, one_left}
use Rattle.join.proofs.join.Goals as goal

abbrev numbered : Refusal → ℕ
numbered refusal = refusal.number

pub returns-in_err-waiting : goal.returns-in_err-waiting
returns-in_err-waiting c m1 x1 m2 x2 x =
    let h = c.in_err-waiting.ensures m1 x1 m2 x2 x in
    let g = err_from_is_err_and c.from_residual.result c.from_residual.ensures.1 in
    rw g.1 (refuses _ _ _ g.0.number (ap numbered g.2 ∙ h.0) (λ z. h.1 (sym (ap numbered g.2) ∙ z)))

pub returns-then-waiting : goal.returns-then-waiting
returns-then-waiting c m1 x1 m2 x2 x =
    let h = c.in_ok-waiting.ensures m1 x1 m2 x2 x in
    let w = c.in_ok-waiting.waiting in
    let z = and-true (eqb w.first 0) (eqb w.second 0) c.if-waiting.true in
    nothing _ _ _ h.none _ _ h.first h.second (eqb-true _ _ z.0) (eqb-true _ _ z.1)

pub fill-requires : goal.fill-requires
fill-requires c =
    let h = c.in_ok-waiting.ensures [] [] [] [] [] in
    (few _ _ _ h.none _ _ h.first h.second, both_in_rows _ _ _ h.none _ _ h.first h.second)

pub anchored-requires : goal.anchored-requires
anchored-requires c =
    let h = c.in_ok-waiting.ensures [] [] [] [] [] in
    let w = c.in_ok-waiting.waiting in
    let some = one_left w.first w.second c.if-waiting.false in
    (some, (few _ _ _ h.none _ _ h.first h.second, low-tag _ _ _ h.none _ _ h.first h.second some))

pub returns : goal.returns
returns c m1 x1 m2 x2 x =
    let h = c.in_ok-waiting.ensures m1 x1 m2 x2 x in
    let w = c.in_ok-waiting.waiting in
    let laid = c.fill.ensures in
    lays _ _ _ h.none _ _ h.first h.second (one_left w.first w.second c.if-waiting.false) _ _ _ _ _
    laid.lefts_after laid.rights_after laid.labels_after laid.marks_after c.anchored.ensures

pub overflow_add-waiting : goal.overflow_add-waiting
overflow_add-waiting c = let h = c.in_ok-waiting.ensures [] [] [] [] [] in omega (arith, few _ _ _ h.none _ _ h.first h.second)
