-- Beyond its places the constant has no row.
use mathlib.Core.{Bool.true, Path.{◌≡◌, sym}, List.{List, [], ◌∷◌}}
use Prim.Native.Nat.{ℕ, ◌<◌}
use native.Mathlib.Omega.{arith}
use lib.Dec.{eqb}
use borrow.Author.Tests.{eqb-true, eqb-false}
use Rattle.model.{specs.Route.{route, push_route, pop_route}, proofs.Tests.Truth.split}
use Rattle.route.specs.Constants.{row_of}
use Rattle.route.proofs.Beyond.{past}
use Rattle.route.proofs.next.row.Goals as goal

-- Five branches that lead nowhere, for a push and for a pop.
abbrev nowhere : List (List ℕ)
nowhere = (0 ∷ 0 ∷ 0 ∷ 0 ∷ 0 ∷ []) ∷ (0 ∷ 0 ∷ 0 ∷ 0 ∷ 0 ∷ []) ∷ []

none : (place : ℕ) → 17 < place → nowhere ≡ row_of place
none place h =
    let to : (kind branch : ℕ) → route place kind branch ≡ 0 = λ kind branch. sym (past place kind branch h) in
    rw (to 0 0, to 0 1, to 0 2, to 0 3, to 0 4, to 1 0, to 1 1, to 1 2, to 1 3, to 1 4)

first : (place : ℕ) → eqb place 0 ≡ true → nowhere ≡ row_of place
unfolding route push_route pop_route
first place e = rw (eqb-true place 0 e)

pub returns-in_default : goal.returns-in_default
returns-in_default c =
    let place = c.args.place in
    split (eqb place 0) (first place) (λ busy. none place (omega (arith, eqb-false place 0 busy)))
