-- Each return is one outcome of the model's `reading`: the tests that led there rewrite it, and its branch is the one picked.
use mathlib.Core.{Path.{◌≡◌, refl, sym, ap, ◌∙◌}, Bool.{Bool, true, false, ◌&&◌, and-false}}
use Prim.Native.Nat.{ℕ, ◌+◌}
use native.Mathlib.Omega.{arith}
use mir.Val.{bool_byte}
use lib.Dec.{eqb}
use borrow.Author.Tests.{eq-eqb, ne_eqb, eqb-true}
use Rattle.word.specs.declared.Anchor.{Anchor}
use Rattle.model.specs.{Places.reading, Sides.is_empty, Route.route}
use Rattle.route.specs.Constants.{branch_of}
use Rattle.route.proofs.next.after_reading.Goals as goal
use Rattle.route.proofs.next.after_reading.Goals.{then-a+else-a-eq0+else-kind-eq1, else-a}

-- A failed change is a branch behind.
step : (failed : Bool) (n : ℕ) → n + bool_byte failed ≡ branch_of failed n
step true n = refl
step false n = omega arith

-- The branch n, so many behind, is that of the reading r.
led : (place kind next behind n r : ℕ) (failed : Bool) → next ≡ route place kind (n + behind) → behind ≡ bool_byte failed → n ≡ r
    → next ≡ route place kind (branch_of failed r)
led place kind next behind n r failed to e same =
    to ∙ ap (λ (b : ℕ). route place kind (n + b)) e ∙ ap (route place kind) (step failed n) ∙ ap (λ (b : ℕ). route place kind (branch_of failed b)) same

-- Neither empty, nor a pop's only label: of equal ends, or of different ones.
no_label : (kind : ℕ) (a : Anchor) → (a.left ≡ 0 → ⊥) → (kind ≡ 1 → ⊥) → (is_empty a ≡ false) × ((eqb kind 1 && eqb a.left a.right) ≡ false)
no_label kind a some push = (rw (ne_eqb _ _ some), rw (ne_eqb _ _ push))

apart : (kind : ℕ) (a : Anchor) → (a.left ≡ a.right → ⊥) → (is_empty a ≡ false) × ((eqb kind 1 && eqb a.left a.right) ≡ false)
apart kind a other = (go (eqb a.left 0) (eqb a.right 0) refl refl, rw (ne_eqb _ _ other) (and-false (eqb kind 1)))
  where
    go : (s t : Bool) → eqb a.left 0 ≡ s → eqb a.right 0 ≡ t → (s && t) ≡ false
    go true true e f = absurd (other (eqb-true _ _ e ∙ sym (eqb-true _ _ f)))
    go true false e f = refl
    go false t e f = refl

pub returns-then-a-eq0 : goal.returns-then-a-eq0
unfolding reading
returns-then-a-eq0 c =
    let empty = c.if-a-eq0.true in
    led _ _ _ _ 0 _ _ c.next.ensures c.from-behind.ensures (simp (eq-eqb _ _ empty, eq-eqb _ _ (sym c.if-a.true ∙ empty)) refl)

pub returns-then-kind-eq1 : goal.returns-then-kind-eq1
unfolding reading
returns-then-kind-eq1 c =
    led _ _ _ _ 1 _ _ c.next-then-kind-eq1.ensures c.from-behind.ensures
    (simp (ne_eqb _ _ c.if-a-eq0.false, eq-eqb _ _ c.if-kind-eq1.true, eq-eqb _ _ c.if-a.true) refl)

pub returns-then-a-eq0-2 : goal.returns-then-a-eq0-2
unfolding reading
returns-then-a-eq0-2 c =
    let n : (is_empty c.args.a ≡ false) × ((eqb c.args.kind 1 && eqb c.args.a.left c.args.a.right) ≡ false) =
    elim c.if-a.branch [
      | then-a+else-a-eq0+else-kind-eq1 w ↦ no_label c.args.kind c.args.a w.if-a-eq0.false w.if-kind-eq1.false
      | else-a w ↦ apart c.args.kind c.args.a w.if-a.false
    ] in
    led _ _ _ _ 2 _ _ c.next-then-a-eq0-2.ensures c.from-behind.ensures (simp (n.0, n.1, eq-eqb _ _ c.if-a-eq0-2.true) refl)

pub returns-else-a-eq0-2 : goal.returns-else-a-eq0-2
unfolding reading
returns-else-a-eq0-2 c =
    let n : (is_empty c.args.a ≡ false) × ((eqb c.args.kind 1 && eqb c.args.a.left c.args.a.right) ≡ false) =
    elim c.if-a.branch [
      | then-a+else-a-eq0+else-kind-eq1 w ↦ no_label c.args.kind c.args.a w.if-a-eq0.false w.if-kind-eq1.false
      | else-a w ↦ apart c.args.kind c.args.a w.if-a.false
    ] in
    led _ _ _ _ 3 _ _ c.next-else-a-eq0-2.ensures c.from-behind.ensures (simp (n.0, n.1, ne_eqb _ _ c.if-a-eq0-2.false) refl)
