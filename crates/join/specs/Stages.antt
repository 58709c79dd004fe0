-- The rules of the joining by stages, over tests already made.
use mathlib.Core.{Bool.{Bool, not}, List.{[], ◌∷◌}}
use Rattle.std.specs.Prelude.{ℕ, ltb, leb}
use Rattle.model.specs.{declared.Control.Control, Refusals.{rule, first}, Lists.every}
use Rattle.sound.specs.declared.Lengths.{Lengths}

-- Which tables of a source are long enough, by their lengths.
unfoldable pub lengths_fit : Control → Lengths → Bool
lengths_fit c t = every (ltb c.slots t.lefts ∷ ltb c.slots t.rights ∷ ltb c.slots t.labels ∷ leb c.tasks t.records ∷ [])

-- Before the walks: 34 for all controls and Anchors, and 12.
unfoldable pub tests_refusal : Bool → Bool → Bool → Bool → ℕ
tests_refusal a b q fits = first (rule 34 (not a) ∷ rule 34 (not b) ∷ rule 34 (not q) ∷ rule 12 (not fits) ∷ [])

-- After them: 47, 48, 33.
unfoldable pub later_refusal : Bool → Bool → Bool → ℕ
later_refusal rest crowded late = first (rule 47 (not rest) ∷ rule 48 crowded ∷ rule 33 late ∷ [])
