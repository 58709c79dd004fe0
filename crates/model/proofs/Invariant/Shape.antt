-- The linked queue. Q is the list of its slots from left to right; k is the link table, k d x the link of slot x that leads to side d.
use mathlib.Core.{Bool.{Bool, false, not}, List.{List, [], ◌∷◌}, Logic.◌≢◌, Path.◌≡◌}
use Prim.Native.Nat.{ℕ}
use Rattle.model.proofs.Lists.Deque.{Chain, Distinct, From, front, seen}
use Rattle.model.proofs.Machine.Machine.{Anchor, Link, Status, pushing, stable, tip}
use Rattle.model.specs.Lists.{All}

-- x stands next to y, nearer to side d: each names the other.
abbrev pub Joint : (Bool → ℕ → Link) → Bool → ℕ → ℕ → Type 0
Joint k d x y = ((k (not d) x).slot ≡ y) × ((k d y).slot ≡ x)

-- Two or more slots, seen from side d, where the last but one may not name the last yet.
abbrev pub Rough : (Bool → ℕ → Link) → Bool → List ℕ → Type 0
Rough k d [] = ⊥
Rough k d (x ∷ []) = ⊥
Rough k d (x ∷ y ∷ l) = ((k (not d) x).slot ≡ y) × From (Joint k d) y l

-- (2) Neighbours name each other in both directions, but for one link: under RPUSH the Right of the last but one, under LPUSH mirrored.
-- (1) Unstable only with two or more.
abbrev pub Linked : (Bool → ℕ → Link) → Status → List ℕ → Type 0
Linked k stable q = Chain (Joint k false) q
Linked k (pushing d) q = Rough k d (seen d q)

pub record Shape (k : Bool → ℕ → Link) (a : Anchor) (q : List ℕ) : Type 0 where
  pub linked : Linked k a.status q
  -- (1) The ends are Q's first and last; null where Q is empty.
  pub tips : (d : Bool) → tip a d ≡ front (seen d q) 0
  -- (1) Q has distinct slots, none of them null.
  pub distinct : Distinct q
  pub real : All (λ x. x ≢ 0) q

-- The link back to the end of side e is made: the end's neighbour names it.
abbrev pub Made : (Bool → ℕ → Link) → Anchor → Bool → Type 0
Made k a e = (k e (k (not e) (tip a e)).slot).slot ≡ tip a e
