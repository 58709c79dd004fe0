-- A push or a pop at an end keeps the shape: of two or more entries (place 4), of none or one (place 2).
use mathlib.Core.{Bool.{Bool, false, not, true}, List.{List, [], ◌∷◌}, Logic.◌≢◌, Path.{◌∙◌, ◌≡◌, ap, refl}}
use Prim.Native.Nat.{ℕ}
use Rattle.model.proofs.Lists.{All.all_seen, Deque.{put, rest, seen, took}, Ends.{far_cons, seen_seen}}
use Rattle.model.proofs.{Machine.Laws.{aimed_far, aimed_near, aimed_status, alike}, Invariant.Shape.Shape}
use Rattle.model.proofs.Machine.Machine.{Anchor, Link, aimed, both, pushing, stable, tip}
use Rattle.model.proofs.Chain.Ends.{no-entry, single, small}
use Rattle.model.proofs.Chain.Sides.{apart, chain, far, make, near, nonzero, under, unturn}
use Rattle.model.specs.Lists.{All}

module _ (k : Bool → ℕ → Link) (a : Anchor) (q : List ℕ) (s : Shape k a q) (d : Bool) where
  -- Place 4 of a push.
  pub push_shape : (n : ℕ) → a.status ≡ stable → tip a d ≢ 0 → n ≢ 0 → All (λ y. y ≢ n) q → (k (not d) n).slot ≡ tip a d
      → Shape k (aimed a d n (pushing d)) (put d n q)
  unfolding put
  push_shape n st ne nz fresh named = go (seen d q) refl
    where
      go : (l : List ℕ) → seen d q ≡ l → Shape k (aimed a d n (pushing d)) (put d n q)
      go [] e = absurd (ne (near k a q s d [] e))
      go (x ∷ l) e = rw e (make k (aimed a d n (pushing d)) d (n ∷ x ∷ l)
          (rw (aimed_status, seen_seen) (named ∙ near k a q s d (x ∷ l) e, chain k a q s d (x ∷ l) e st))
          (aimed_near a d n (pushing d))
          (rw (aimed_far, far_cons) (far k a q s d (x ∷ l) e))
          (rw e at (all_seen (λ y. y ≢ n) d q fresh), apart k a q s d (x ∷ l) e)
          (nz, nonzero k a q s d (x ∷ l) e))

  -- Place 4 of a pop.
  pub pop_shape : (n : ℕ) → a.status ≡ stable → a.left ≢ a.right → (k (not d) (tip a d)).slot ≡ n → Shape k (aimed a d n a.status) (took d q)
  unfolding took
  pop_shape n st ne named = go (seen d q) refl
    where
      go : (l : List ℕ) → seen d q ≡ l → Shape k (aimed a d n a.status) (took d q)
      go [] e = absurd (ne (alike a d (near k a q s d [] e) (far k a q s d [] e)))
      go (x ∷ []) e = absurd (ne (alike a d (near k a q s d (x ∷ []) e) (far k a q s d (x ∷ []) e)))
      go (x ∷ y ∷ l) e = rw e (make k (aimed a d n a.status) d (y ∷ l)
          (rw (aimed_status, st) (unturn k d (seen d (y ∷ l)) (rw seen_seen (chain k a q s d (x ∷ y ∷ l) e st).1)))
          (rw aimed_near (cc (near k a q s d (x ∷ y ∷ l) e, (chain k a q s d (x ∷ y ∷ l) e st).0.0)))
          (rw aimed_far (far k a q s d (x ∷ y ∷ l) e ∙ far_cons x y l 0))
          (apart k a q s d (x ∷ y ∷ l) e).1
          (nonzero k a q s d (x ∷ y ∷ l) e).1)

  -- The neighbour of an end is another slot.
  pub inner_apart : a.status ≡ stable → a.left ≢ a.right → (k (not d) (tip a d)).slot ≢ tip a d
  inner_apart st ne z = go (seen d q) refl
    where
      go : (l : List ℕ) → seen d q ≡ l → ⊥
      go [] e = ne (alike a d (near k a q s d [] e) (far k a q s d [] e))
      go (x ∷ []) e = ne (alike a d (near k a q s d (x ∷ []) e) (far k a q s d (x ∷ []) e))
      go (x ∷ y ∷ l) e = (apart k a q s d (x ∷ y ∷ l) e).0.0 (cc (near k a q s d (x ∷ y ∷ l) e, (chain k a q s d (x ∷ y ∷ l) e st).0.0))

module _ (k : Bool → ℕ → Link) (a : Anchor) (q : List ℕ) (s : Shape k a q) where
  pub first_shape : (n : ℕ) → a.left ≡ 0 → n ≢ 0 → Shape k (both a n) (n ∷ [])
  first_shape n h nz =
      record {
        linked = under k (n ∷ []) (small k a q s (ap rest (no-entry k a q s h))) tt;
        tips = elim [ false ↦ refl | true ↦ refl ];
        distinct = (tt, tt);
        real = (nz, tt);
      }

  pub last_shape : a.left ≡ a.right → a.left ≢ 0 → Shape k (both a 0) []
  last_shape h ne =
      record {
        linked = under k [] (small k a q s (ap rest (single k a q s h ne))) tt;
        tips = elim [ false ↦ refl | true ↦ refl ];
        distinct = tt;
        real = tt;
      }
