-- A deque seen from its sides: twice, from the other side, empty, of one entry.
use mathlib.Core.{Bool.{Bool, false, not, true}, List.{List, [], ◌++◌, ◌∷◌, reverse, reverse-cons, reverse-reverse}}
use mathlib.Core.Path.{◌≡◌, refl, sym}
use Rattle.model.proofs.Lists.Deque.{front, put, seen, took}

module _ {A : Type 0} where
  pub seen_seen : (d : Bool) (q : List A) → seen d (seen d q) ≡ q
  seen_seen false q = refl
  seen_seen true q = reverse-reverse q

  pub seen_not : (d : Bool) (q : List A) → seen (not d) q ≡ reverse (seen d q)
  seen_not false q = refl
  seen_not true q = sym (reverse-reverse q)

  -- The other end, seen from a side.
  front_snoc : (p : List A) (x y z : A) → front (p ++ (x ∷ []) ++ (y ∷ [])) z ≡ front (p ++ (x ∷ [])) z
  front_snoc [] x y z = refl
  front_snoc (w ∷ p) x y z = refl

  pub far_cons : (x y : A) (q : List A) (z : A) → front (reverse (x ∷ y ∷ q)) z ≡ front (reverse (y ∷ q)) z
  far_cons x y q z = rw (reverse-cons x (y ∷ q), reverse-cons y q) (front_snoc (reverse q) y x z)

pub took_nil : {A : Type 0} (d : Bool) → ◌≡◌ {A = List A} (took d []) []
unfolding took
took_nil false = refl
took_nil true = refl

pub seen_nil : {A : Type 0} (d : Bool) → ◌≡◌ {A = List A} (seen d []) []
seen_nil false = refl
seen_nil true = refl

pub took_one : {A : Type 0} (d : Bool) (x : A) → took d (x ∷ []) ≡ []
unfolding took
took_one false x = refl
took_one true x = refl

pub put_nil : {A : Type 0} (d : Bool) (x : A) → put d x [] ≡ x ∷ []
unfolding put
put_nil false x = refl
put_nil true x = refl
