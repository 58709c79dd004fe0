-- The tests are the definition's.
use Rattle.std.proofs.Common.{◌≡◌, refl, sym, ◌∙◌, ℕ, Bool, true, false, cond, eq-eqb, Some, Ok, Err}
use Rattle.std.proofs.lemmas.Result.{err_from_is_err_and}
use lib.Dec.{eqb}
use borrow.Author.Tests.{ne_eqb}
use Rattle.walk.specs.{declared.Unsound.Unsound, Ways.{unsound, leads_to, led_from}}
use Rattle.walk.proofs.leads.Goals as goal

pub returns-then-x-w : goal.returns-then-x-w
unfolding led_from
returns-then-x-w c = rw (eq-eqb _ _ c.if-x-w.true)

-- A slot that is named, or not, is led to.
nowhere : (b : Bool) (y : ℕ) (e : Unsound) → Err e ≡ cond b (Err unsound) (Ok y) → Err e ≡ cond b (Err unsound) (Ok (Some y))
nowhere true y e h = refl
nowhere false y e h = cc

somewhere : (b : Bool) (y z : ℕ) → Ok z ≡ cond b (Err unsound) (Ok y) → Ok (Some z) ≡ cond b (Err unsound) (Ok (Some y))
somewhere true y z h = cc
somewhere false y z h = cc

pub returns-in_err-target : goal.returns-in_err-target
unfolding led_from
returns-in_err-target c =
    let p = err_from_is_err_and c.from_residual.result c.from_residual.ensures.1 in
    let y = leads_to c.args.w c.args.lefts.now c.args.rights.now c.args.x in
    rw (p.1, ne_eqb _ _ c.if-x-w.false) (nowhere (eqb y 0) y p.0 (sym c.in_err-target.was ∙ c.target.ensures))

pub returns : goal.returns
unfolding led_from
returns c =
    let y = leads_to c.args.w c.args.lefts.now c.args.rights.now c.args.x in
    rw (ne_eqb _ _ c.if-x-w.false) (somewhere (eqb y 0) y _ (sym c.in_ok-target.was ∙ c.target.ensures))
