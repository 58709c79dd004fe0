-- The labels waiting are the deque: the walk along the links meets the queue's slots, each once.
use mathlib.Core.{Bool.{Bool, cond, false, not, true}, List.{List, [], ◌∷◌, reverse}, Logic.◌≢◌}
use mathlib.Core.Path.{◌∙◌, ◌≡◌, ap, refl, subst, subst₂, sym}
use Prim.Native.Nat.{◌≤◌, suc, zero, ℕ}
use native.Mathlib.Omega.{arith}
use lib.{Dec.eqb, ListN.{get_or, length, length-map, length-reverse}}
use borrow.Author.Tests.{eq-eqb, eqb-false, eqb-true, le-leb, ne_eqb}
use Rattle.word.specs.{Anchor.anchor_of, Link.link_of}
use Rattle.model.specs.Walk.{Walk, along, and_then, broken, contents, entries, walk_from, whence as side-of}
use Rattle.model.specs.{Sound.{from1, link_sound}, Tables.Tables, Lists.All, declared.Entry.Entry}
use Rattle.model.specs.Sides.{far, is_empty, links, near, opposite}
use Rattle.model.proofs.{Tests.Truth.{and_of, and-true, by_test, not_both, split}, Places.Owned.queued_free}
use Rattle.model.proofs.Lists.{All.{all-far, all_map, all_seen}, Chain.{chain_map, distinct_seen, from_next}}
use Rattle.model.proofs.Lists.{Deque.{Chain, Distinct, From, front, seen}, Ends.{far_cons, seen_seen}}
use Rattle.model.proofs.{Lists.{Pigeonhole.pigeon, Slots.{map_seen, slots, slots_nil}}, Unsound.Tests.link-sound}
use Rattle.model.proofs.Machine.{Book.whence, Machine.{Anchor, Link, Status, pushing, stable, tip}}
use Rattle.model.proofs.Invariant.{Owners.{Owner, Intact, queued}, Shape.{Joint, Linked, Rough}}
use Rattle.model.proofs.Chain.{Ends.no-entry, Sides.{far as far-end, near as near-end, turn}}
use Rattle.model.proofs.Bridge.{Facts.LinksFine, View.{anchor_seen, link_at, status_of, view}}

abbrev Real : Tables → Entry → Type 0
Real q e = (e.slot ≢ 0) × (e.slot ≤ q.control.slots)

real_test : (n x : ℕ) → x ≢ 0 → x ≤ n → from1 n x ≡ true
real_test n x h g = rw (le-leb 1 x (omega arith), le-leb x n g)

module _ (q : Tables) (fine : LinksFine q) (b : Bool) where
  abbrev next : ℕ → ℕ
  next x = (link_of (link_at q b x)).slot

  sound : (x : ℕ) → x ≤ q.control.slots → link_sound q.control.slots (link_at q b x) ≡ true
  sound x h = link-sound q.control.slots (link_at q b x) (fine.spare b x h) (fine.slot b x h)

  -- From the near entry to the far one.
  along-is : (e : Entry) (l : List Entry) (n : ℕ) → From (λ x y. next x ≡ y) e.slot (slots l) → Distinct (slots (e ∷ l))
      → All (λ (z : Entry). get_or q.labels z.slot 0 ≡ z.label) (e ∷ l) → All (Real q) (e ∷ l) → length (e ∷ l) ≤ n
      → along q.control.slots (cond b q.rights q.lefts) q.labels (front (reverse (slots (e ∷ l))) 0) n e.slot ≡ entries (e ∷ l)
  unfolding along
  along-is e l zero c u v r h = absurd (omega arith)
  along-is e [] (suc n) c u v r h = rw (real_test _ _ r.0.0 r.0.1, eq-eqb e.slot e.slot refl)
      (λ i. entries (record { slot = e.slot; label = v.0 i } ∷ []))
  along-is e (f ∷ l) (suc n) c u v r h =
      let g = far_cons e.slot f.slot (slots l) 0 in
      let ih =
      subst
      (λ (y : ℕ). along q.control.slots (cond b q.rights q.lefts) q.labels y n f.slot ≡ entries (f ∷ l))
      (sym g)
      (along-is f l n c.1 u.1 v.1 r.1 (omega arith)) in
      rw (
        real_test _ _ r.0.0 r.0.1,
        g,
        ne_eqb e.slot (front (reverse (slots (f ∷ l))) 0) (λ z. all-far (λ y. y ≢ e.slot) f.slot (slots l) 0 u.0 (sym z)),
        sound e.slot
            r.0.1,
        c.0,
      )
      (λ i. and_then (record { slot = e.slot; label = v.0 i }) (ih i))

-- The walk as it is turned to run from left to right.
abbrev turned : Bool → Walk → Walk
turned d (entries l) = entries (seen d l)
turned d broken = broken

turned-is : (side : ℕ) (w : Walk) → walk_from side w ≡ turned (eqb side 1) w
turned-is side (entries l) = refl
turned-is side broken = refl

trivial : (l : List ℕ) → All (λ x. Unit {0}) l
trivial [] = tt
trivial (x ∷ l) = (tt, trivial l)

-- The inward links from the side that the walk begins at.
inward : (k : Bool → ℕ → Link) (st : Status) (q : List ℕ) → Linked k st q → Chain (λ x y. (k (not (whence st)) x).slot ≡ y) (seen (whence st) q)
inward k stable q c = chain_map (Joint k true) _ (λ x. Unit {0}) (λ a b m n j. j.0) (reverse q) (trivial (reverse q)) (turn k true q c)
inward k (pushing d) q c = go (seen d q) c
  where
    go : (l : List ℕ) → Rough k d l → Chain (λ x y. (k (not d) x).slot ≡ y) l
    go [] r = tt
    go (x ∷ []) r = tt
    go (x ∷ y ∷ l) r = (r.0, from_next (Joint k d) _ (λ x. Unit {0}) (λ a b m j. j.0) y l (trivial l) r.1)

length_seen : (d : Bool) (q : List Entry) → length (seen d q) ≡ length q
length_seen false q = refl
length_seen true q = length-reverse q

none : (d : Bool) → front (slots (seen d [])) 0 ≡ 0
none false = refl
none true = refl

whence-is : (n : ℕ) → eqb (cond (eqb n 2) 0 1) 1 ≡ whence (status_of n)
whence-is n = split (eqb n 2) (λ e. subst (λ n. eqb (cond (eqb n 2) 0 1) 1 ≡ whence (status_of n)) (sym (eqb-true n 2 e)) refl)
    (λ e. split (eqb n 1) (λ f. rw (e, f)) (λ f. rw (e, f)))

opposite-is : (d : Bool) → eqb (cond d 0 1) 1 ≡ not d
opposite-is false = refl
opposite-is true = refl

module _ (q : Tables) (fine : LinksFine q) (h : ℕ → Owner) (l : List Entry) (w : Intact (view q) h l) where
  abbrev A : Anchor
  A = anchor_seen q.control.anchor

  -- The walk that begins at a side, from y to x.
  abbrev from : Bool → ℕ → ℕ → Walk
  from d x y = along q.control.slots (links q (cond d 0 1)) q.labels x q.control.slots y

  low : All (λ x. x ≤ q.control.slots) (slots l)
  unfolding view
  low = all_map (λ x. h x ≡ queued) _ (λ x e. (w.bounds x (λ f. queued_free (sym e ∙ f))).1) (slots l) w.owned

  real : (m : List Entry) → All (λ x. x ≢ 0) (slots m) → All (λ x. x ≤ q.control.slots) (slots m) → All (Real q) m
  real [] a b = tt
  real (e ∷ m) a b = ((a.0, b.0), real m a.1 b.1)

  few : length l ≤ q.control.slots
  few = subst (λ k. k ≤ q.control.slots) (length-map l (λ (e : Entry). e.slot))
      (pigeon q.control.slots (slots l) w.shape.distinct w.shape.real low)

  from_side : (d : Bool) → whence A.status ≡ d → (m : List Entry) → seen d l ≡ m → eqb A.left 0 ≡ false
      → turned d (from d (tip A (not d)) (tip A d)) ≡ entries l
  unfolding view
  from_side d z [] g e =
      let y : l ≡ seen d [] = sym (seen_seen d l) ∙ ap (λ (l : List Entry). seen d l) g in
      absurd (eqb-false A.left 0 e (w.shape.tips false ∙ ap (λ (l : List Entry). front (slots l) 0) y ∙ none d))
  from_side d z (x ∷ m) g e =
      let k = (view q).link in
      let s : seen d (slots l) ≡ slots (x ∷ m) = sym (map_seen d l) ∙ ap (λ (l : List Entry). slots l) g in
      let c : Chain (λ y z. (k (not d) y).slot ≡ z) (slots (x ∷ m)) =
      subst (λ (l : List ℕ). Chain (λ y z. (k (not d) y).slot ≡ z) l) s
      (subst (λ (d : Bool). Chain (λ y z. (k (not d) y).slot ≡ z) (seen d (slots l))) z (inward k A.status (slots l) w.shape.linked)) in
      let u : Distinct (slots (x ∷ m)) = rw s at (distinct_seen d (slots l) w.shape.distinct) in
      let v : All (λ (z : Entry). get_or q.labels z.slot 0 ≡ z.label) (x ∷ m) = rw g at
      (all_seen (λ (z : Entry). get_or q.labels z.slot 0 ≡ z.label) d l w.labels) in
      let r : All (Real q) (x ∷ m) = real (x ∷ m) (subst (λ (l : List ℕ). All (λ x. x ≢ 0) l) s (all_seen (λ x. x ≢ 0) d (slots l) w.shape.real))
      (subst (λ (l : List ℕ). All (λ x. x ≤ q.control.slots) l) s (all_seen (λ x. x ≤ q.control.slots) d (slots l) low)) in
      let b : length (x ∷ m) ≤ q.control.slots = let y = ap (λ (l : List Entry). length l) g in omega (arith, length_seen d l, few) in
      rw (opposite-is d, near-end k A (slots l) w.shape d (slots (x ∷ m)) s, far-end k A (slots l) w.shape d (slots (x ∷ m)) s)
      (ap (turned d) (along-is q fine (not d) x m q.control.slots c u v r b)
      ∙ ap entries (ap (λ (l : List Entry). seen d l) (sym g) ∙ seen_seen d l))

  -- Null ends: the queue is empty, and then both are null.
  no-left : eqb A.left 0 ≡ true → slots l ≡ []
  unfolding view
  no-left e = no-entry (view q).link A (slots l) w.shape (eqb-true A.left 0 e)

  some_left : is_empty (anchor_of q.control.anchor) ≡ false → eqb A.left 0 ≡ false
  unfolding view
  some_left e = split (eqb A.left 0)
      (λ z. absurd (not_both (and_of z
      (eq-eqb A.right 0 (w.shape.tips true ∙ ap (λ (m : List ℕ). front (seen true m) 0) (no-left z)))) e)) (λ z. z)

  pub waits : contents q ≡ entries l
  unfolding contents view
  waits =
      let a = anchor_of q.control.anchor in
      let side = side-of a.status in
      by_test (λ z. z ≡ entries l) (is_empty a)
      (λ e. ap entries (sym (slots_nil l (no-left (and-true _ _ e).0))))
      (λ e. turned-is side (along q.control.slots (links q (opposite side)) q.labels (far side a) q.control.slots (near side a))
      ∙ subst (λ (b : Bool). turned b (from b (cond b a.left a.right) (cond b a.right a.left)) ≡ entries l) (sym (whence-is a.status))
      (subst₂ (λ x y. turned (whence A.status) (from (whence A.status) x y) ≡ entries l)
      (tips_far (whence A.status)) (tip_cond (whence A.status))
      (from_side (whence A.status) refl (seen (whence A.status) l) refl (some_left e))))
    where
      tips_far : (d : Bool) → tip A (not d) ≡ cond d A.left A.right
      tips_far false = refl
      tips_far true = refl

      tip_cond : (d : Bool) → tip A d ≡ cond d A.right A.left
      tip_cond false = refl
      tip_cond true = refl
