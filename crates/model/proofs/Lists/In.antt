-- Being in a list, and in a deque seen from a side.
use mathlib.Core.{Bool.{Bool, false, true}, List.{List, [], ◌∷◌, reverse_aux}, Logic.{◌≢◌, ◌⊎◌, inl, inr}, Path.◌≡◌}
use Prim.Native.Nat.{ℕ}
use Rattle.model.proofs.Lists.Deque.{front, put, rest, seen, took}

abbrev pub In : ℕ → List ℕ → Type 0
In x [] = ⊥
In x (y ∷ l) = (x ≡ y) ⊎ In x l

in_reverse : (x : ℕ) (l r : List ℕ) → In x l ⊎ In x r → In x (reverse_aux l r)
in_reverse x [] r (inl i) = absurd i
in_reverse x [] r (inr i) = i
in_reverse x (y ∷ l) r (inl (inl e)) = in_reverse x l (y ∷ r) (inr (inl e))
in_reverse x (y ∷ l) r (inl (inr i)) = in_reverse x l (y ∷ r) (inl i)
in_reverse x (y ∷ l) r (inr i) = in_reverse x l (y ∷ r) (inr (inr i))

in_seen : (d : Bool) (x : ℕ) (l : List ℕ) → In x l → In x (seen d l)
in_seen false x l i = i
in_seen true x l i = in_reverse x l [] (inl i)

pub in_rest : (x : ℕ) (l : List ℕ) → x ≢ front l 0 → In x l → In x (rest l)
in_rest x [] n i = i
in_rest x (y ∷ l) n (inl e) = absurd (n e)
in_rest x (y ∷ l) n (inr i) = i

-- What was in a deque is in it still when an entry is put, which is in it too; or taken, unless it is the one.
pub in_put : (d : Bool) (y x : ℕ) (l : List ℕ) → (x ≡ y) ⊎ In x l → In x (put d y l)
unfolding put
in_put d y x l (inl e) = in_seen d x (y ∷ seen d l) (inl e)
in_put d y x l (inr i) = in_seen d x (y ∷ seen d l) (inr (in_seen d x l i))

pub in_took : (d : Bool) (x : ℕ) (l : List ℕ) → x ≢ front (seen d l) 0 → In x l → In x (took d l)
unfolding took
in_took d x l n i = in_seen d x (rest (seen d l)) (in_rest x (seen d l) n (in_seen d x l i))
