-- The linked queue seen from a side: its ends, its chain, and a shape made from there.
use mathlib.Core.{Bool.{Bool, false, not, true}, List.{List, reverse, reverse-reverse}, Logic.◌≢◌, Path.◌≡◌}
use Prim.Native.Nat.{ℕ}
use Rattle.model.proofs.Lists.{All.all_seen, Ends.seen_not, Chain.{chain_reverse, distinct_seen}}
use Rattle.model.proofs.Lists.Deque.{Chain, Distinct, front, seen}
use Rattle.model.proofs.Machine.Machine.{Anchor, Link, Status, pushing, stable, tip}
use Rattle.model.proofs.Invariant.Shape.{Joint, Linked, Rough, Shape}
use Rattle.model.specs.Lists.{All}

pub turn : (k : Bool → ℕ → Link) (d : Bool) (q : List ℕ) → Chain (Joint k false) q → Chain (Joint k d) (seen d q)
turn k false q c = c
turn k true q c = chain_reverse (Joint k false) (Joint k true) (λ a b p. (p.1, p.0)) q c

pub unturn : (k : Bool → ℕ → Link) (d : Bool) (q : List ℕ) → Chain (Joint k d) (seen d q) → Chain (Joint k false) q
unturn k false q c = c
unturn k true q c = rw reverse-reverse at (chain_reverse (Joint k true) (Joint k false) (λ a b p. (p.1, p.0)) (reverse q) c)

-- (`rw st` would also rewrite the Anchor that st is a field of.)
pub under : (k : Bool → ℕ → Link) (q : List ℕ) {st st' : Status} → st ≡ st' → Linked k st' q → Linked k st q
under k q e h = rw e h

-- A shape is made from the list as it is seen from a side.
pub make : (k : Bool → ℕ → Link) (a : Anchor) (d : Bool) (l : List ℕ) → Linked k a.status (seen d l)
    → tip a d ≡ front l 0 → tip a (not d) ≡ front (reverse l) 0 → Distinct l → All (λ x. x ≢ 0) l → Shape k a (seen d l)
make k a false l c h g u v = record { linked = c; tips = elim [ false ↦ h | true ↦ g ]; distinct = u; real = v }
make k a true l c h g u v =
    record { linked = c; tips = elim [ false ↦ g | true ↦ rw reverse-reverse h ]; distinct = distinct_seen true l u; real = all_seen (λ x. x ≢ 0) true l v }

module _ (k : Bool → ℕ → Link) (a : Anchor) (q : List ℕ) (s : Shape k a q) (d : Bool) where
  -- The same facts from side d.
  pub near : (l : List ℕ) → seen d q ≡ l → tip a d ≡ front l 0
  near l e = rw e at (s.tips d)

  pub far : (l : List ℕ) → seen d q ≡ l → tip a (not d) ≡ front (reverse l) 0
  far l e = rw (seen_not d q, e) at (s.tips (not d))

  pub apart : (l : List ℕ) → seen d q ≡ l → Distinct l
  apart l e = rw e at (distinct_seen d q s.distinct)

  pub nonzero : (l : List ℕ) → seen d q ≡ l → All (λ x. x ≢ 0) l
  nonzero l e = rw e at (all_seen (λ x. x ≢ 0) d q s.real)

  pub chain : (l : List ℕ) → seen d q ≡ l → a.status ≡ stable → Chain (Joint k d) l
  chain l e st = rw e at (turn k d q (rw st at s.linked))

  pub rough : (l : List ℕ) → seen d q ≡ l → a.status ≡ pushing d → Rough k d l
  rough l e st = let h : Rough k d (seen d q) = rw st at s.linked in rw e at h
