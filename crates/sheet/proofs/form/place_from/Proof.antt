use Prim.Native.Nat.{ℕ, ◌≤◌, ◌-◌, ◌+◌, ◌<◌}
use mathlib.Core.{List.List, Path.{◌≡◌, refl, ap, ◌∙◌}}
use native.Mathlib.Omega.{arith}
use lib.ListN.{length, drop, get_or}
use borrow.Author.Rules.{rules}
use Rattle.sheet.specs.Extents.{place_of}
use Rattle.sheet.proofs.{Turns.{place_here, place-on, place_end}, form.place_from.Statement.statement}
use Rattle.sheet.proofs.form.place_from.Tie as tie

-- The place of x, counted from the list's start, by what is left from k on.
abbrev placed : ℕ → List ℕ → ℕ → ℕ
placed x l k = k + place_of x (drop k l)

abbrev invariant-loop : tie.invariant-loop-j
invariant-loop listed i x n j₀ j = (1 ≤ j) × (j ≤ length listed + 1) × (placed x listed (j - 1) ≡ placed x listed i)

abbrev decreases-loop : tie.decreases-loop-j
decreases-loop listed i x n j₀ j = (length listed + 2) - j

module _ (l : List ℕ) (x j : ℕ) (h : 1 ≤ j) where
  -- The first of two labels isn't x.
  on_one : j ≤ length l → (get_or l (j - 1) 0 ≡ x → ⊥) → placed x l j ≡ placed x l (j - 1)
  on_one m e =
      let z : j ≡ (j - 1) + 1 = omega arith in
      ap (placed x l) z ∙ place-on l (j - 1) x (omega arith) e

  -- Neither of them is.
  on_two : j < length l → (get_or l (j - 1) 0 ≡ x → ⊥) → (get_or l j 0 ≡ x → ⊥) → placed x l ((j + 2) - 1) ≡ placed x l (j - 1)
  on_two m e f =
      let z : (j + 2) - 1 ≡ j + 1 = omega arith in
      ap (placed x l) z ∙ place-on l j x m f ∙ on_one (omega arith) e

  -- The last label isn't x.
  on-last : (n : ℕ) → length l ≡ n → n ≡ j → (get_or l (j - 1) 0 ≡ x → ⊥) → n ≡ placed x l (j - 1)
  on-last n m z e = z ∙ place_end l j x (omega arith) ∙ on_one (omega arith) e

loop-holds : tie.Need-loop-j-init invariant-loop decreases-loop
loop-holds c =
    let a = c.args in
    let z : (a.i + 1) - 1 ≡ a.i = omega arith in
    (search rules, search rules, ap (placed a.x a.listed.now) z)

returns : tie.Need-returns-then-listed-j invariant-loop decreases-loop
returns c =
    let turn = c.before.before.before.loop-j in
    place_here _ (turn.j - 1) _ (search rules) c.if-listed-j.true ∙ turn.invariant.2

returns-2 : tie.Need-returns-then-listed-j-2 invariant-loop decreases-loop
returns-2 c =
    let other = c.before.before in
    let turn = other.before.before.before.loop-j in
    place_here _ turn.j _ (search rules) c.if-listed-j-2.true ∙ on_one _ _ turn.j (search rules) (search rules) other.if-listed-j.false ∙ turn.invariant.2

loop-again : tie.Need-loop-j-preserved invariant-loop decreases-loop
loop-again c =
    let other = c.before.before in
    let turn = other.before.before.before.loop-j in (
      search rules,
      search rules,
      on_two _ _ turn.j (search rules) (search rules) other.if-listed-j.false c.if-listed-j-2.false ∙ turn.invariant.2,
    )

returns-3 : tie.Need-returns-then-n-j invariant-loop decreases-loop
returns-3 c = let turn = c.before.before.loop-j in place_end _ (turn.j - 1) _ (search rules) ∙ turn.invariant.2

returns-4 : tie.Need-returns-then-listed-j-3 invariant-loop decreases-loop
returns-4 c =
    let turn = c.before.before.before.before.loop-j in
    place_here _ (turn.j - 1) _ (search rules) c.if-listed-j-3.true ∙ turn.invariant.2

returns-5 : tie.Need-returns invariant-loop decreases-loop
returns-5 c =
    let turn = c.before.before.before.before.loop-j in
    on-last _ _ turn.j (search rules) _ refl (search rules) c.if-listed-j-3.false ∙ turn.invariant.2

pub place_from_spec : {M : Type 1} → statement M
place_from_spec =
    tie.close
    (tie.spec
    invariant-loop
    decreases-loop
    (λ c. search rules)
    loop-holds
    (λ c. search rules)
    (λ c. search rules)
    (λ c. search rules)
    (λ c. search rules)
    returns
    (λ c. search rules)
    (λ c. search rules)
    returns-2
    (λ c. search rules)
    (λ c. search rules)
    loop-again
    (λ c. search rules)
    returns-3
    (λ c. search rules)
    (λ c. search rules)
    (λ c. search rules)
    (λ c. search rules)
    returns-4
    returns-5)
