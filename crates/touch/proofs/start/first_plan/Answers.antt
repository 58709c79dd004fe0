-- The first step by the operation.
use mathlib.Core.{Path.{◌≡◌, refl, sym, ap, ◌∙◌}, Bool.false}
use Prim.Native.Nat.{ℕ}
use native.Mathlib.Omega.{arith}
use lib.Dec.{eqb, leb}
use borrow.Author.Tests.{eq-eqb, ne_eqb, le-leb, lt-leb}
use Rattle.model.{specs.{declared.Call.Call, Tables.{started, asking}}, proofs.Tests.Truth.either}
use Rattle.threads_model.specs.{declared.Start.Start, Split.{refuses, plan}, Starts.first_call}
use Rattle.touch.proofs.Starting as by
use Rattle.touch.proofs.start.first_plan.Goals as goal

-- The call by the operation.
push : (s : Start) → s.operation ≡ 0 → first_call s ≡ started 0 s.side s.slot s.label
push s e = rw (eq-eqb s.operation 0 e)

pop : (s : Start) → s.operation ≡ 1 → first_call s ≡ started 1 s.side 0 0
pop s e = rw (ne_eqb s.operation 0 (λ z. omega (arith, e, z)), eq-eqb s.operation 1 e)

draw : (s : Start) → (s.operation ≡ 0 → ⊥) → (s.operation ≡ 1 → ⊥) → first_call s ≡ asking s.side s.label
draw s h k = rw (ne_eqb s.operation 0 h, ne_eqb s.operation 1 k)

-- Whatever the operation, the call is busy, and its side the start's.
bad : (pooled slots : ℕ) (s : Start) → leb s.side 1 ≡ false → refuses 34 ≡ plan pooled slots (first_call s)
bad pooled slots s a =
    let P : Call → Type 0 = λ r. refuses 34 ≡ plan pooled slots r in
    either P (eqb s.operation 0) (by.bad_side pooled slots (started 0 s.side s.slot s.label) refl a)
    (either P (eqb s.operation 1) (by.bad_side pooled slots (started 1 s.side 0 0) refl a)
    (by.bad_side pooled slots (asking s.side s.label) refl a))

pub returns-then-s-gt1 : goal.returns-then-s-gt1
returns-then-s-gt1 c = let a = c.args in c.into.ensures ∙ bad a.pooled a.slots a.s (lt-leb _ _ c.if-s-gt1.true)

pub returns-in-0 : goal.returns-in-0
returns-in-0 c =
    let a = c.args in
    c.into-in-0.ensures
    ∙ by.push_plan a.pooled a.slots a.s.side a.s.slot a.s.label (le-leb _ _ c.if-s-gt1.false) (sym c.from1.ensures ∙ c.if-from1.true)
    ∙ ap (plan a.pooled a.slots) (sym (push a.s c.in-0.is))

pub returns-in-1 : goal.returns-in-1
returns-in-1 c =
    let a = c.args in
    c.into-in-1.ensures
    ∙ by.pop_plan a.pooled a.slots a.s.side (le-leb _ _ c.if-s-gt1.false)
    ∙ ap (plan a.pooled a.slots) (sym (pop a.s c.in-1.is))

pub returns-in-0-2 : goal.returns-in-0-2
returns-in-0-2 c =
    let a = c.args in
    c.into-in-0-2.ensures
    ∙ by.bad_slot a.pooled a.slots a.s.side a.s.slot a.s.label (sym c.from1.ensures ∙ c.if-from1.false)
    ∙ ap (plan a.pooled a.slots) (sym (push a.s c.in-0.is))

pub returns-in_default : goal.returns-in_default
returns-in_default c =
    let a = c.args in
    c.into-in_default.ensures
    ∙ by.push_pooled_plan a.pooled a.slots a.s.side a.s.label (le-leb _ _ c.if-s-gt1.false) (eq-eqb _ _ c.if-pooled-eq1.true)
    ∙ ap (plan a.pooled a.slots) (sym (draw a.s (λ e. omega (arith, e)) (λ e. omega (arith, e))))

pub returns-in_default-2 : goal.returns-in_default-2
returns-in_default-2 c =
    let a = c.args in
    c.into-in_default-2.ensures
    ∙ by.not_pooled a.pooled a.slots a.s.side a.s.label (ne_eqb _ _ c.if-pooled-eq1.false)
    ∙ ap (plan a.pooled a.slots) (sym (draw a.s (λ e. omega (arith, e)) (λ e. omega (arith, e))))
