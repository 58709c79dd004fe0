-- The tests as they stand.
use mathlib.Core.{Bool.not, List.{[], ◌∷◌}}
use Rattle.std.proofs.Common.{◌≡◌, ℕ, bit_or, ◌∙◌, ◌+◌, ◌/◌}
use Rattle.model.specs.{Tables.is_pooled, Sides.is_empty, Lists.every}
use Rattle.join_model.specs.Join.{fresh}
use Rattle.join.specs.Numbers.{AreNumbers}
use Rattle.join.proofs.Tested.{as_numbers, seven}
use Rattle.join.proofs.rest.is_fresh.Goals as goal

-- Words and labels are numbers already.
abbrev plain : AreNumbers (λ (x : ℕ). x ≡ 0) (λ (x y r : ℕ). r ≡ bit_or x y) (λ (x n : ℕ). n ≡ x) (λ (x : ℕ). x)
plain = record { zero = λ x e. e; either = λ x y r e. e; whole = λ x n e. e }

pub returns : goal.returns
unfolding fresh
returns c next =
    let a = c.args in
    seven (not (is_pooled a.c)) (is_empty c.unpack-a.result) c.at_rest-rest.result c.blank-left.result c.blank-right.result
    c.blank-label.result c.blank-mark.result
    ∙ (λ i. every
    (not (is_pooled a.c)
    ∷ is_empty (c.unpack-a.ensures i)
    ∷ c.at_rest-rest.ensures a.lefts.now a.rights.now a.labels.now a.marks.now next i
    ∷ as_numbers _ (a.c.slots + 1) a.lefts.now (c.blank-left.ensures (λ x. x) plain) i
    ∷ as_numbers _ (a.c.slots + 1) a.rights.now (c.blank-right.ensures (λ x. x) plain) i
    ∷ as_numbers _ (a.c.slots + 1) a.labels.now (c.blank-label.ensures (λ x. x) plain) i
    ∷ as_numbers _ (a.c.slots / 64 + 1) a.marks.now (c.blank-mark.ensures (λ x. x) plain) i
    ∷ []))
