-- What the ends of Anchor tell: null, equal, and the status of a short queue.
use mathlib.Core.{Bool.{Bool, false, true}, List.{List, [], ◌∷◌}, Logic.{◌≢◌, ◌⊎◌, inl, inr}}
use mathlib.Core.Path.{◌∙◌, ◌≡◌, ap, refl, sym}
use Prim.Native.Nat.{ℕ}
use Rattle.model.proofs.{Tests.Truth.decide_eq, Machine.Machine.{Anchor, Link, Status, pushing, stable, tip}}
use Rattle.model.proofs.Lists.{All.all-far, Deque.{front, rest, seen}, Ends.{far_cons, seen_nil, seen_seen}}
use Rattle.model.proofs.{Invariant.Shape.{Linked, Shape}, Chain.Sides.{apart, far, near, nonzero}}

module _ (k : Bool → ℕ → Link) (a : Anchor) (q : List ℕ) (s : Shape k a q) where
  pub no-entry : a.left ≡ 0 → q ≡ []
  no-entry h = go q refl
    where
      go : (l : List ℕ) → q ≡ l → q ≡ []
      go [] e = e
      go (x ∷ l) e = absurd ((nonzero k a q s false (x ∷ l) e).0 (cc (near k a q s false (x ∷ l) e)))

  pub single : a.left ≡ a.right → a.left ≢ 0 → q ≡ a.left ∷ []
  single h ne = go q refl
    where
      go : (l : List ℕ) → q ≡ l → q ≡ a.left ∷ []
      go [] e = absurd (ne (near k a q s false [] e))
      go (x ∷ []) e = let n = near k a q s false (x ∷ []) e in cc
      go (x ∷ y ∷ l) e =
          let n = near k a q s false (x ∷ y ∷ l) e in
          let f = far k a q s false (x ∷ y ∷ l) e ∙ far_cons x y l 0 in
          absurd (all-far (λ z. z ≢ x) y l 0 (apart k a q s false (x ∷ y ∷ l) e).0 cc)

  -- A queue of fewer than two is stable.
  pub small : rest q ≡ [] → a.status ≡ stable
  small h = go a.status refl
    where
      short : (st : Status) (l : List ℕ) → rest l ≡ [] → Linked k st l → st ≡ stable
      short stable l e c = refl
      short (pushing false) [] e c = absurd c
      short (pushing false) (x ∷ []) e c = absurd c
      short (pushing false) (x ∷ y ∷ l) e c = cc
      short (pushing true) [] e c = absurd c
      short (pushing true) (x ∷ []) e c = absurd c
      short (pushing true) (x ∷ y ∷ l) e c = cc

      go : (st : Status) → a.status ≡ st → a.status ≡ stable
      go st e = short a.status q h s.linked

  -- An end is null only where the queue is empty, and then both are.
  end_null : (d : Bool) → tip a d ≡ 0 → q ≡ []
  end_null d z = go (seen d q) refl
    where
      go : (l : List ℕ) → seen d q ≡ l → q ≡ []
      go [] e = sym (seen_seen d q) ∙ ap (λ (l : List ℕ). seen d l) e ∙ seen_nil d
      go (x ∷ l) e = absurd ((nonzero k a q s d (x ∷ l) e).0 (sym (near k a q s d (x ∷ l) e) ∙ z))

  empty_end : (d : Bool) → q ≡ [] → tip a d ≡ 0
  empty_end d e = s.tips d ∙ ap (λ (l : List ℕ). front (seen d l) 0) e ∙ ap (λ (l : List ℕ). front l 0) (seen_nil d)

  pub both_null : (d e : Bool) → tip a d ≡ 0 → tip a e ≡ 0
  both_null d e z = empty_end e (end_null d z)

  pub ends_real : a.left ≢ a.right → (d : Bool) → tip a d ≢ 0
  ends_real n d z = n (both_null d false z ∙ sym (both_null d true z))

  pub alike_stable : a.left ≡ a.right → a.status ≡ stable
  alike_stable e = go (decide_eq a.left 0)
    where
      go : (a.left ≡ 0) ⊎ (a.left ≢ 0) → a.status ≡ stable
      go (inl z) = small (ap rest (no-entry z))
      go (inr z) = small (ap rest (single e z))
