-- The tags of links after a store: kept, or grown at one link.
use mathlib.Core.{Bool.{Bool, false, true}, Logic.{◌≢◌, ◌⊎◌, inl, inr}, Path.{◌∙◌, ◌≡◌, ap, subst, sym}}
use Prim.Native.Nat.{◌<◌, ◌≤◌, ℕ}
use native.Mathlib.Omega.{arith}
use Rattle.model.proofs.Tests.Truth.{decide_eq}
use Rattle.model.proofs.Machine.{Laws.{relink_across, relink_other, relink_same}, Machine.{Link, relink}}

-- The tags of a link table after a store.
pub relink_keeps : (k : Bool → ℕ → Link) (d : Bool) (x : ℕ) (v : Link) → v.tag ≡ (k d x).tag → (e : Bool) (y : ℕ) → (relink k d x v e y).tag ≡ (k e y).tag
relink_keeps k d x v g e y = go (decide_eq y x)
  where
    same_slot : (d e : Bool) → v.tag ≡ (k d x).tag → (relink k d x v e x).tag ≡ (k e x).tag
    same_slot false false g = ap (λ (w : Link). w.tag) (relink_same k false x v) ∙ g
    same_slot false true g = ap (λ (w : Link). w.tag) (relink_across k false x v x)
    same_slot true false g = ap (λ (w : Link). w.tag) (relink_across k true x v x)
    same_slot true true g = ap (λ (w : Link). w.tag) (relink_same k true x v) ∙ g

    go : (y ≡ x) ⊎ (y ≢ x) → (relink k d x v e y).tag ≡ (k e y).tag
    go (inl z) = subst (λ y. (relink k d x v e y).tag ≡ (k e y).tag) (sym z) (same_slot d e g)
    go (inr z) = ap (λ (w : Link). w.tag) (relink_other k d x v e y z)

pub relink_grows : (k : Bool → ℕ → Link) (d : Bool) (x : ℕ) (v : Link) → (k d x).tag < v.tag → (e : Bool) (y : ℕ)
    → (relink k d x v e y ≡ k e y) ⊎ ((k e y).tag < (relink k d x v e y).tag)
relink_grows k d x v g e y = go (decide_eq y x)
  where
    same_slot : (d e : Bool) → (k d x).tag < v.tag → (relink k d x v e x ≡ k e x) ⊎ ((k e x).tag < (relink k d x v e x).tag)
    same_slot false false g = inr (subst (λ (w : Link). (k false x).tag < w.tag) (sym (relink_same k false x v)) g)
    same_slot false true g = inl (relink_across k false x v x)
    same_slot true false g = inl (relink_across k true x v x)
    same_slot true true g = inr (subst (λ (w : Link). (k true x).tag < w.tag) (sym (relink_same k true x v)) g)

    go : (y ≡ x) ⊎ (y ≢ x) → (relink k d x v e y ≡ k e y) ⊎ ((k e y).tag < (relink k d x v e y).tag)
    go (inl z) = subst (λ y. (relink k d x v e y ≡ k e y) ⊎ ((k e y).tag < (relink k d x v e y).tag)) (sym z) (same_slot d e g)
    go (inr z) = inl (relink_other k d x v e y z)

pub grows_le : {w v : Link} → (w ≡ v) ⊎ (v.tag < w.tag) → v.tag ≤ w.tag
grows_le (inl e) = let g = ap (λ (w : Link). w.tag) e in omega arith
grows_le (inr g) = omega arith
