-- What holds of all entries of a deque, seen from a side.
use mathlib.Core.{Bool.{Bool, false, true}, List.{List, [], ◌++◌, ◌∷◌, reverse, reverse-cons}}
use Rattle.model.proofs.Lists.Deque.{front, rest, seen}
use Rattle.model.specs.Lists.{All}

module _ {A : Type 0} where
  pub all_map : (P R : A → Type 0) → ((a : A) → P a → R a) → (q : List A) → All P q → All R q
  all_map P R f [] c = tt
  all_map P R f (x ∷ q) c = (f x c.0, all_map P R f q c.1)

  pub all_both : (P R S : A → Type 0) → ((a : A) → P a → R a → S a) → (q : List A) → All P q → All R q → All S q
  all_both P R S f [] c d = tt
  all_both P R S f (x ∷ q) c d = (f x c.0 d.0, all_both P R S f q c.1 d.1)

  pub all_append : (P : A → Type 0) (p q : List A) → All P p → All P q → All P (p ++ q)
  all_append P [] q c d = d
  all_append P (x ∷ p) q c d = (c.0, all_append P p q c.1 d)

  pub all_reverse : (P : A → Type 0) (q : List A) → All P q → All P (reverse q)
  all_reverse P [] c = tt
  all_reverse P (x ∷ q) c = rw reverse-cons (all_append P (reverse q) (x ∷ []) (all_reverse P q c.1) (c.0, tt))

  pub all_seen : (P : A → Type 0) (d : Bool) (q : List A) → All P q → All P (seen d q)
  all_seen P false q c = c
  all_seen P true q c = all_reverse P q c

  pub all_rest : (P : A → Type 0) (q : List A) → All P q → All P (rest q)
  all_rest P [] c = tt
  all_rest P (x ∷ q) c = c.1

  front_append : (P : A → Type 0) (p : List A) (x z : A) → All P p → P x → P (front (p ++ (x ∷ [])) z)
  front_append P [] x z c h = h
  front_append P (y ∷ p) x z c h = c.0

  -- What holds of all entries holds of the far end.
  pub all-far : (P : A → Type 0) (y : A) (q : List A) (z : A) → All P (y ∷ q) → P (front (reverse (y ∷ q)) z)
  all-far P y q z c = rw reverse-cons (front_append P (reverse q) y z (all_reverse P q c.1) c.0)

  pub all_front : (P : A → Type 0) (q : List A) (z : A) → All P q → P z → P (front q z)
  all_front P [] z c h = h
  all_front P (x ∷ q) z c h = c.0
