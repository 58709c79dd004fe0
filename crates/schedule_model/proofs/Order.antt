-- Dictionary order is strict.
use mathlib.Core.{Path.{◌≡◌, refl, sym, ◌∙◌}, Logic.{◌⊎◌, inl, inr}, Bool.{Bool, true, false, ◌&&◌, ◌||◌}}
use mathlib.Core.List.{List, [], ◌∷◌}
use Prim.Native.Nat.{ℕ, ◌<◌}
use native.Mathlib.Omega.{arith}
use lib.Dec.{ltb, eqb}
use borrow.Author.Tests.{ltb-true, lt-ltb, le-ltb, eqb-true, eq-eqb}
use Rattle.schedule_model.specs.Next.{precedes}

pub not_both : {b : Bool} → b ≡ true → b ≡ false → ⊥
not_both h k = let z : true ≡ false = sym h ∙ k in let w : ◌≡◌ {A = ℕ} 0 1 = cc in omega arith

pub refused : (b : Bool) → (b ≡ true → ⊥) → b ≡ false
refused true h = absurd (h refl)
refused false h = refl

-- The first numbers differ, or the rest decides.
abbrev Less : ℕ → ℕ → List ℕ → List ℕ → Type 0
Less u t g s = (u < t) ⊎ ((u ≡ t) × (precedes g s ≡ true))

less : (u t : ℕ) (g s : List ℕ) → precedes (u ∷ g) (t ∷ s) ≡ true → Less u t g s
unfolding precedes
less u t g s e = go (ltb u t) (eqb u t) refl refl e
  where
    go : (a b : Bool) → ltb u t ≡ a → eqb u t ≡ b → (a || (b && precedes g s)) ≡ true → (u < t) ⊎ ((u ≡ t) × (precedes g s ≡ true))
    go true b h k e = inl (ltb-true u t h)
    go false true h k e = inr (eqb-true u t k, e)
    go false false h k e = absurd (not_both e refl)

precedes_of : (u t : ℕ) (g s : List ℕ) → Less u t g s → precedes (u ∷ g) (t ∷ s) ≡ true
unfolding precedes
precedes_of u t g s (inl h) = rw (lt-ltb u t h) refl
precedes_of u t g s (inr (e, h)) = rw (le-ltb u t (omega (arith, e)), eq-eqb u t e, h) refl

pub never_self : (g : List ℕ) → precedes g g ≡ false
unfolding precedes
never_self [] = refl
never_self (u ∷ g) = rw (le-ltb u u (omega arith), eq-eqb u u refl) (never_self g)

pub precedes_trans : (a b c : List ℕ) → precedes a b ≡ true → precedes b c ≡ true → precedes a c ≡ true
unfolding precedes
precedes_trans a [] c h k = absurd (not_both h refl)
precedes_trans a (v ∷ b) [] h k = absurd (not_both k refl)
precedes_trans [] (v ∷ b) (w ∷ c) h k = refl
precedes_trans (u ∷ a) (v ∷ b) (w ∷ c) h k = precedes_of u w a c (go (less u v a b h) (less v w b c k) (precedes_trans a b c))
  where
    go : Less u v a b → Less v w b c → (precedes a b ≡ true → precedes b c ≡ true → precedes a c ≡ true) → Less u w a c
    go (inl x) (inl y) f = inl (omega (arith, x, y))
    go (inl x) (inr (e, y)) f = inl (omega (arith, x, e))
    go (inr (d, x)) (inl y) f = inl (omega (arith, d, y))
    go (inr (d, x)) (inr (e, y)) f = inr (d ∙ e, f x y)

pub not_back : (a b : List ℕ) → precedes a b ≡ true → precedes b a ≡ false
not_back a b h = refused (precedes b a) (λ k. not_both (precedes_trans a b a h k) (never_self a))
