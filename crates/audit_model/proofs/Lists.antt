-- Tests of all elements and of all pairs of a list, as truth values and as facts.
use mathlib.Core.{Bool.{Bool, true}, List.{List, [], ◌∷◌, ◌++◌, map}, Path.{◌≡◌, refl}}
use Rattle.model.{proofs.Tests.Truth.and_of, specs.Lists.All}
use Rattle.audit_model.specs.Audit.{all_of, pairwise}

-- A fact of each element and every later one.
abbrev pub Pairs : {A : Type 0} → (A → A → Type 0) → List A → Type 0
Pairs R [] = Unit {0}
Pairs R (x ∷ l) = All (R x) l × Pairs R l

module _ {A : Type 0} where
  pub all_map : {P R : A → Type 0} → ((a : A) → P a → R a) → (l : List A) → All P l → All R l
  all_map f [] h = tt
  all_map f (x ∷ l) h = (f x h.0, all_map f l h.1)

  pub all_append : (P : A → Type 0) (p q : List A) → All P p → All P q → All P (p ++ q)
  all_append P [] q c d = d
  all_append P (x ∷ p) q c d = (c.0, all_append P p q c.1 d)

  pub all_both : {P R S : A → Type 0} → ((a : A) → P a → R a → S a) → (l : List A) → All P l → All R l → All S l
  all_both f [] c d = tt
  all_both f (x ∷ l) c d = (f x c.0 d.0, all_both f l c.1 d.1)

  pub all_of_lem : {P : A → Type 0} (p : A → Bool) → ((a : A) → P a → p a ≡ true) → (l : List A) → All P l → all_of p l ≡ true
  all_of_lem p f [] h = refl
  all_of_lem p f (x ∷ l) h = and_of (f x h.0) (all_of_lem p f l h.1)

  pub pairs_of : {R : A → A → Type 0} (r : A → A → Bool) → ((a b : A) → R a b → r a b ≡ true)
      → (l : List A) → Pairs R l → pairwise r l ≡ true
  pairs_of r f [] h = refl
  pairs_of r f (x ∷ l) h = and_of (all_of_lem (r x) (f x) l h.0) (pairs_of r f l h.1)

  pub pairs-snoc : (R : A → A → Type 0) (l : List A) (x : A) → Pairs R l → All (λ y. R y x) l → Pairs R (l ++ (x ∷ []))
  pairs-snoc R [] x p a = (tt, tt)
  pairs-snoc R (y ∷ l) x p a = (all_append (R y) l (x ∷ []) p.0 (a.0, tt), pairs-snoc R l x p.1 a.1)

module _ {A B : Type 0} where
  pub all_mapped : (P : B → Type 0) (f : A → B) (l : List A) → All (λ a. P (f a)) l → All P (map f l)
  all_mapped P f [] h = tt
  all_mapped P f (x ∷ l) h = (h.0, all_mapped P f l h.1)

  pub pairs-mapped : (R : B → B → Type 0) (f : A → B) (l : List A) → Pairs (λ a b. R (f a) (f b)) l → Pairs R (map f l)
  pairs-mapped R f [] h = tt
  pairs-mapped R f (x ∷ l) h = (all_mapped (R (f x)) f l h.0, pairs-mapped R f l h.1)
