-- What tasks owe together, and that no store of places 3, 9 and 10 lets it rise, and the one of place 14 by 3 at the most.
use mathlib.Core.{Bool.{Bool, cond, false, not, true}, Path.{◌≡◌, ap, refl, subst, subst₂, sym}}
use Prim.Native.Nat.{◌*◌, ◌+◌, ◌≤◌, ℕ}
use native.Mathlib.Omega.{arith}
use lib.Dec.{eqb, ltb}
use borrow.Author.Tests.{eq-eqb, eqb-true, ne_eqb}
use Rattle.model.proofs.{Tests.Truth.{by_test, not_both, either}, Invariant.Shape.Made}
use Rattle.model.proofs.Machine.{LinkTags.relink_keeps, Machine.with_link}
use Rattle.model.proofs.Machine.Machine.{Anchor, Link, Rec, Shared, Status, is_stable, pushing, same, same_link}
use Rattle.model.proofs.Machine.Machine.{settled, stable, tip, towards, with_anchor, with_head, with_label}
use Rattle.model.proofs.Progress.Measure.{due, outgrown, owed}
use Rattle.model.proofs.Progress.Others.{head_le, heads, made_le, scale_le, stable_le}

-- The scale: 9 while the link back is not made, else 3.
abbrev is_made : (Bool → ℕ → Link) → Anchor → Bool → Bool
is_made k a e = eqb (k e (k (not e) (tip a e)).slot).slot (tip a e)

abbrev scale_at : (Bool → ℕ → Link) → Anchor → Status → ℕ
scale_at k a stable = 3
scale_at k a (pushing e) = cond (is_made k a e) 3 9

abbrev pub scale : Shared → ℕ
scale s = scale_at s.link s.anchor s.anchor.status

-- What a task owes together with all others.
abbrev pub together : Shared → Rec → ℕ
together s r = owed 1 (scale s) s.pooled s r

pub scale_some : (s : Shared) → 3 ≤ scale s
scale_some s = go s.anchor.status
  where
    go : (st : Status) → 3 ≤ scale_at s.link s.anchor st
    go stable = omega arith
    go (pushing e) = either (λ z. 3 ≤ z) (is_made s.link s.anchor e) (omega arith) (omega arith)

pub scale_most : (s : Shared) → scale s ≤ 9
scale_most s = go s.anchor.status
  where
    go : (st : Status) → scale_at s.link s.anchor st ≤ 9
    go stable = omega arith
    go (pushing e) = either (λ z. z ≤ 9) (is_made s.link s.anchor e) (omega arith) (omega arith)

-- The link back is made, or not.
pub scale_made : (s : Shared) (e : Bool) → s.anchor.status ≡ pushing e → Made s.link s.anchor e → scale s ≡ 3
scale_made s e st m = subst (λ (z : Status). scale_at s.link s.anchor z ≡ 3) (sym st) (rw (eq-eqb _ _ m))

pub scale_unmade : (s : Shared) (e : Bool) → s.anchor.status ≡ pushing e → (Made s.link s.anchor e → ⊥) → scale s ≡ 9
scale_unmade s e st n = subst (λ (z : Status). scale_at s.link s.anchor z ≡ 9) (sym st) (rw (ne_eqb _ _ n))

-- A link is stored whose tag is kept, and the link back stays made (place 3): nobody owes more.
module _ (s : Shared) (d : Bool) (x : ℕ) (v : Link) (tag : v.tag ≡ (s.link d x).tag)
    (made : (e : Bool) → s.anchor.status ≡ pushing e → Made s.link s.anchor e → Made (with_link s d x v).link s.anchor e) where
  scale_link : scale (with_link s d x v) ≤ scale s
  scale_link = go s.anchor.status refl
    where
      k : Bool → ℕ → Link
      k = (with_link s d x v).link

      go : (st : Status) → s.anchor.status ≡ st → scale_at k s.anchor st ≤ scale_at s.link s.anchor st
      go stable e = omega arith
      go (pushing e) st = by_test (λ z. cond (is_made k s.anchor e) 3 9 ≤ z) (is_made s.link s.anchor e)
          (λ z. by_test (λ w. w ≤ 3) (is_made k s.anchor e) (λ _. omega arith) (λ n. absurd (not_both (eq-eqb _ _ (made e st (eqb-true _ _ z))) n)))
          (λ _. either (λ w. w ≤ 9) (is_made k s.anchor e) (omega arith) (omega arith))

  pub owed_scale : (u : Rec) → together (with_link s d x v) u ≤ owed 1 (scale s) s.pooled (with_link s d x v) u
  owed_scale u = scale_le 1 _ _ scale_link _ _ _ _ _ _ _ u.place

  pub link_le : (u : Rec) → together (with_link s d x v) u ≤ together s u
  link_le u =
      let e = ap (λ (n : ℕ). due 1 (scale s) s.pooled s.pooled u.finishing (is_stable s.anchor.status) (same u.read s.anchor)
      (ltb u.link.tag n) (same_link u.link s.head) u.place)
      (relink_keeps s.link d x v tag (towards u.read.status) u.near) in
      omega (arith, owed_scale u)

-- The link back is made (place 9).
pub back-le : (s : Shared) (d : Bool) (x : ℕ) (v : Link) → scale s ≡ 9 → scale (with_link s d x v) ≡ 3 → (u : Rec) → together (with_link s d x v) u ≤ together s u
back-le s d x v before after u =
    subst₂ (λ g' g. owed 1 g' s.pooled (with_link s d x v) u ≤ owed 1 g s.pooled s u) (sym after) (sym before)
    (made_le _ _ _ _ _ (outgrown s u) (outgrown (with_link s d x v) u) _ u.place)

-- Anchor is changed to STABLE (place 10).
pub settled_le : (s : Shared) (a : Anchor) → is_stable s.anchor.status ≡ false → (u : Rec) → together (with_anchor s (settled a)) u ≤ together s u
settled_le s a e u =
    let now = same u.read s.anchor in
    let now' = same u.read (settled a) in
    let grown = outgrown s u in
    let top = same_link u.link s.head in
    let p = stable_le s.pooled s.pooled u.finishing now now' grown top u.place in
    let o = scale_le 1 3 (scale s) (scale_some s) s.pooled s.pooled u.finishing false now grown top u.place in
    subst (λ b. due 1 3 s.pooled s.pooled u.finishing true now' grown top u.place
    ≤ due 1 (scale s) s.pooled s.pooled u.finishing b now grown top u.place) (sym e) (omega arith)

-- The head is changed (place 14).
pub drawn_le : (s : Shared) (w : Link) (x l : ℕ) (u : Rec) → together (with_label (with_head s w) x l) u ≤ together s u + 3 * heads u.place
drawn_le s w x l u = head_le (same_link u.link s.head) (same_link u.link w) 1 (scale s) _ _ _ _ _ _ u.place
