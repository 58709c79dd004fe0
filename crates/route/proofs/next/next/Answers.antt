-- The entry of the place's row, which the constant's are proved to be (`row`).
use mathlib.Core.{Path.{◌≡◌, refl, ap, ◌∙◌}, List.{List, []}}
use Prim.Native.Nat.{ℕ, zero, suc, ◌≤◌}
use native.Mathlib.Omega.{arith}
use lib.ListN.{get_or}
use borrow.Author.Tests.{ne_eqb}
use Rattle.model.specs.Route.{route}
use Rattle.route.specs.Constants.{branches_of}
use Rattle.route.proofs.Beyond.{many}
use Rattle.route.proofs.next.next.Goals as goal

entry : (place kind branch : ℕ) → branch ≤ 4 → get_or (branches_of place kind) branch 0 ≡ route place kind branch
entry place kind zero h = refl
entry place kind (suc zero) h = refl
entry place kind (suc (suc zero)) h = refl
entry place kind (suc (suc (suc zero))) h = refl
entry place kind (suc (suc (suc (suc zero)))) h = refl
entry place kind (suc (suc (suc (suc (suc n))))) h = absurd (omega (arith, h))

-- What is no push goes the way of a pop.
of_pop : (place kind branch : ℕ) → (kind ≡ 0 → ⊥) → route place 1 branch ≡ route place kind branch
unfolding route
of_pop place kind branch other = rw (ne_eqb kind 0 other)

pub returns-then-branch-gt4 : goal.returns-then-branch-gt4
returns-then-branch-gt4 c = many c.args.place c.args.kind c.args.branch c.if-branch-gt4.true

pub returns-else-kind-eq0 : goal.returns-else-kind-eq0
returns-else-kind-eq0 c =
    let a = c.args in
    ap (λ (kinds : List (List ℕ)). get_or (get_or kinds 1 []) a.branch 0) c.row.ensures
    ∙ entry a.place 1 a.branch c.if-branch-gt4.false
    ∙ of_pop a.place a.kind a.branch c.if-kind-eq0.false
