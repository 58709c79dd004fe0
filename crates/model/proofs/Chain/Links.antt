-- A link made keeps the shape (place 9), with it the queue is stable (place 10), and a slot outside the queue is free to change (place 3).
use mathlib.Core.{Bool.{Bool, false, not, true}, List.{List, [], ◌∷◌}, Logic.◌≢◌, Path.{◌∙◌, ◌≡◌, ap, refl}}
use Prim.Native.Nat.{ℕ}
use Rattle.model.proofs.Lists.{All.all_seen, Chain.{chain_map, from_map, from_next}, Deque.{Chain, seen}}
use Rattle.model.proofs.Machine.Laws.{relink_across, relink_other}
use Rattle.model.proofs.Machine.Machine.{Anchor, Link, Status, pushing, relink, settled, stable, tip}
use Rattle.model.proofs.Invariant.Shape.{Joint, Linked, Rough, Shape}
use Rattle.model.proofs.Chain.Sides.{apart, near, rough, under, unturn}
use Rattle.model.specs.Lists.{All}

module _ (k : Bool → ℕ → Link) (a : Anchor) (q : List ℕ) (s : Shape k a q) (d : Bool) where
  -- Place 9: the link back is made.
  pub back_shape : (v : Link) → a.status ≡ pushing d → v.slot ≡ tip a d → Shape (relink k d (k (not d) (tip a d)).slot v) a q
  back_shape v st names = record { linked = under k' q st (go (seen d q) refl); tips = s.tips; distinct = s.distinct; real = s.real }
    where
      k' : Bool → ℕ → Link
      k' = relink k d (k (not d) (tip a d)).slot v

      go : (l : List ℕ) → seen d q ≡ l → Rough k' d (seen d q)
      go [] e = absurd (rough k a q s d [] e st)
      go (x ∷ []) e = absurd (rough k a q s d (x ∷ []) e st)
      go (x ∷ y ∷ l) e =
          let r = rough k a q s d (x ∷ y ∷ l) e st in
          let h : (k (not d) (tip a d)).slot ≡ y = cc (near k a q s d (x ∷ y ∷ l) e, r.0) in
          rw e (
            ap (λ (w : Link). w.slot) (relink_across k d _ v x) ∙ r.0,
            from_next (Joint k d) (Joint k' d) (λ b. b ≢ y)
                (λ b c m p. (
                  ap (λ (w : Link). w.slot) (relink_across k d _ v b) ∙ p.0,
                  ap (λ (w : Link). w.slot) (relink_other k d _ v d c (λ z. m (z ∙ h))) ∙ p.1,
                ))
                y l (apart k a q s d (x ∷ y ∷ l) e).1.0 r.1,
          )

  -- Place 10: with the link back the queue is stable.
  pub settled_shape : a.status ≡ pushing d → (k d (k (not d) (tip a d)).slot).slot ≡ tip a d → Shape k (settled a) q
  settled_shape st made = record {
    linked = unturn k d q (go (seen d q) refl);
    tips = elim [ false ↦ s.tips false | true ↦ s.tips true ];
    distinct = s.distinct;
    real = s.real;
  }
    where
      go : (l : List ℕ) → seen d q ≡ l → Chain (Joint k d) (seen d q)
      go [] e = absurd (rough k a q s d [] e st)
      go (x ∷ []) e = absurd (rough k a q s d (x ∷ []) e st)
      go (x ∷ y ∷ l) e =
          let r = rough k a q s d (x ∷ y ∷ l) e st in
          let r0 = r.0 in
          let n = near k a q s d (x ∷ y ∷ l) e in
          rw e ((r.0, cc), r.1)

  -- A link of a slot that is not in the queue.
  pub frame_shape : (k' : Bool → ℕ → Link) → All (λ y. (e : Bool) → k' e y ≡ k e y) q → Shape k' a q
  frame_shape k' f = record { linked = go a.status s.linked; tips = s.tips; distinct = s.distinct; real = s.real }
    where
      joint : (e : Bool) (b c : ℕ) → ((e : Bool) → k' e b ≡ k e b) → ((e : Bool) → k' e c ≡ k e c) → Joint k e b c → Joint k' e b c
      joint e b c g h p = (ap (λ (w : Link). w.slot) (g (not e)) ∙ p.0, ap (λ (w : Link). w.slot) (h e) ∙ p.1)

      rough' : (e : Bool) (l : List ℕ) → All (λ y. (e : Bool) → k' e y ≡ k e y) l → Rough k e l → Rough k' e l
      rough' e [] m r = r
      rough' e (x ∷ []) m r = r
      rough' e (x ∷ y ∷ l) m r = (
        ap (λ (w : Link). w.slot) (m.0 (not e)) ∙ r.0,
        from_map (Joint k e) (Joint k' e) _ (joint e) y l m.1.0 m.1.1 r.1,
      )

      go : (st : Status) → Linked k st q → Linked k' st q
      go stable c = chain_map (Joint k false) (Joint k' false) _ (joint false) q f c
      go (pushing e) c = rough' e (seen e q) (all_seen _ e q f) c

  -- The neighbour of the end, while the status names side d.
  pub inner_in : (P : ℕ → Type 0) → a.status ≡ pushing d → All P q → P (k (not d) (tip a d)).slot
  inner_in P st m = go (seen d q) refl
    where
      go : (l : List ℕ) → seen d q ≡ l → P (k (not d) (tip a d)).slot
      go [] e = absurd (rough k a q s d [] e st)
      go (x ∷ []) e = absurd (rough k a q s d (x ∷ []) e st)
      go (x ∷ y ∷ l) e =
          let r0 = (rough k a q s d (x ∷ y ∷ l) e st).0 in
          let n = near k a q s d (x ∷ y ∷ l) e in
          let h : (k (not d) (tip a d)).slot ≡ y = cc in
          let m' : All P (x ∷ y ∷ l) = rw e at (all_seen P d q m) in
          rw h m'.1.0
