-- Chains of entries: turned round, mapped, without repetition.
use mathlib.Core.{Bool.{Bool, false, true}, List.{List, [], ◌++◌, ◌∷◌, reverse, reverse-cons}, Logic.◌≢◌, Path.sym}
use Rattle.model.proofs.Lists.{All.{all_append, all_reverse}, Deque.{Chain, Distinct, From, seen}}
use Rattle.model.specs.Lists.{All}

module _ {A : Type 0} where
  distinct_snoc : (q : List A) (x : A) → Distinct q → All (λ y. y ≢ x) q → Distinct (q ++ (x ∷ []))
  distinct_snoc [] x c d = (tt, tt)
  distinct_snoc (y ∷ q) x c d = (all_append (λ z. z ≢ y) q (x ∷ []) c.0 ((λ e. d.0 (sym e)), tt), distinct_snoc q x c.1 d.1)

  distinct_reverse : (q : List A) → Distinct q → Distinct (reverse q)
  distinct_reverse [] c = tt
  distinct_reverse (x ∷ q) c = rw reverse-cons (distinct_snoc (reverse q) x (distinct_reverse q c.1) (all_reverse (λ y. y ≢ x) q c.0))

  pub distinct_seen : (d : Bool) (q : List A) → Distinct q → Distinct (seen d q)
  distinct_seen false q c = c
  distinct_seen true q c = distinct_reverse q c

  -- The chain of a relation that holds wherever another did, at entries that a predicate holds of.
  pub from_map : (P R : A → A → Type 0) (S : A → Type 0) → ((a b : A) → S a → S b → P a b → R a b) → (x : A) (q : List A) → S x → All S q
      → From P x q → From R x q
  from_map P R S f x [] s m c = tt
  from_map P R S f x (y ∷ q) s m c = (f x y s m.0 c.0, from_map P R S f y q m.0 m.1 c.1)

  pub chain_map : (P R : A → A → Type 0) (S : A → Type 0) → ((a b : A) → S a → S b → P a b → R a b) → (q : List A) → All S q → Chain P q → Chain R q
  chain_map P R S f [] m c = tt
  chain_map P R S f (x ∷ q) m c = from_map P R S f x q m.0 m.1 c

  chain_snoc : (P : A → A → Type 0) (p : List A) (x y : A) → Chain P (p ++ (x ∷ [])) → P x y → Chain P ((p ++ (x ∷ [])) ++ (y ∷ []))
  chain_snoc P [] x y c h = (h, tt)
  chain_snoc P (z ∷ []) x y c h = (c.0, (h, tt))
  chain_snoc P (z ∷ w ∷ p) x y c h = (c.0, chain_snoc P (w ∷ p) x y c.1 h)

  pub chain_reverse : (P R : A → A → Type 0) → ((a b : A) → P a b → R b a) → (q : List A) → Chain P q → Chain R (reverse q)
  chain_reverse P R f [] c = tt
  chain_reverse P R f (x ∷ []) c = tt
  chain_reverse P R f (x ∷ y ∷ q) c =
      let h : Chain R (reverse q ++ (y ∷ [])) = rw reverse-cons at (chain_reverse P R f (y ∷ q) c.1) in
      rw (reverse-cons x (y ∷ q), reverse-cons y q) (chain_snoc R (reverse q) y x h (f x y c.0))

  -- The same where only the later entry of each pair is asked.
  pub from_next : (P R : A → A → Type 0) (S : A → Type 0) → ((a b : A) → S b → P a b → R a b) → (x : A) (q : List A) → All S q
      → From P x q → From R x q
  from_next P R S f x [] m c = tt
  from_next P R S f x (y ∷ q) m c = (f x y m.0 c.0, from_next P R S f y q m.1 c.1)
