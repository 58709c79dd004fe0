-- A table whose first i entries are overwritten, and one entry more.
use mathlib.Core.{Path.{◌≡◌, refl, ap, ◌∙◌}, List.{List, [], ◌∷◌}}
use Prim.Native.Nat.{ℕ, zero, suc, ◌+◌, ◌<◌}
use native.Mathlib.{Nat.{not-suc-le-zero, le_of_suc-le-suc}, Numerals.add-one}
use lib.ListN.{length, set, length-set}
use Rattle.model.specs.Lists.{zeroed}

module _ {A : Type 0} (v : A) where
  fill_suc : (i : ℕ) (t : List A) → i < length t → set (zeroed i v t) i v ≡ zeroed (suc i) v t
  fill_suc i [] l = absurd (not-suc-le-zero l)
  fill_suc zero (x ∷ t) l = refl
  fill_suc (suc i) (x ∷ t) l = ap (λ (r : List A). v ∷ r) (fill_suc i t (le_of_suc-le-suc l))

  fill_more : (i : ℕ) (t : List A) → i < length t → set (zeroed i v t) i v ≡ zeroed (i + 1) v t
  fill_more i t l = rw (add-one i) (fill_suc i t l)

  -- Of table t₀ the first i entries are v in t.
  abbrev pub Filled : List A → List A → ℕ → Type 0
  Filled t₀ t i = (length t ≡ length t₀) × (t ≡ zeroed i v t₀)

  pub filled_next : (t₀ t : List A) (i : ℕ) → i < length t₀ → Filled t₀ t i → Filled t₀ (set t i v) (i + 1)
  filled_next t₀ t i l h = (simp length-set h.0, ap (λ (x : List A). set x i v) h.1 ∙ fill_more i t₀ l)
