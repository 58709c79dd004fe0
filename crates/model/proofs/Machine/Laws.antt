-- Stores in the decoded tables, comparisons of Anchors and links, and the ends of a changed Anchor.
use mathlib.Core.{Bool.{Bool, false, not, true}, Logic.◌≢◌, Path.{◌≡◌, ap, refl, subst}}
use Prim.Native.Nat.{◌<◌, suc, ℕ}
use native.Mathlib.Omega.{arith}
use borrow.Author.Tests.{eq-eqb, eqb-true, ne_eqb}
use Rattle.model.proofs.Tests.Truth.{and-true, not_both}
use Rattle.model.proofs.Machine.Machine.{Anchor, Link, Status, aimed, both, code, pushing, relink, same, stable}
use Rattle.model.proofs.Machine.Machine.{same_link, tip, towards, upd, exhausted}

pub upd_same : {A : Type 0} (f : ℕ → A) (x : ℕ) (v : A) → upd f x v x ≡ v
unfolding upd
upd_same f x v = rw (eq-eqb x x refl)

pub upd_other : {A : Type 0} (f : ℕ → A) (x : ℕ) (v : A) (y : ℕ) → y ≢ x → upd f x v y ≡ f y
unfolding upd
upd_other f x v y h = rw (ne_eqb y x h)

pub relink_same : (k : Bool → ℕ → Link) (d : Bool) (x : ℕ) (v : Link) → relink k d x v d x ≡ v
unfolding relink
relink_same k false x v = upd_same (k false) x v
relink_same k true x v = upd_same (k true) x v

pub relink_other : (k : Bool → ℕ → Link) (d : Bool) (x : ℕ) (v : Link) (e : Bool) (y : ℕ) → y ≢ x → relink k d x v e y ≡ k e y
unfolding relink
relink_other k false x v false y h = upd_other (k false) x v y h
relink_other k false x v true y h = refl
relink_other k true x v false y h = refl
relink_other k true x v true y h = upd_other (k true) x v y h

pub relink_across : (k : Bool → ℕ → Link) (d : Bool) (x : ℕ) (v : Link) (y : ℕ) → relink k d x v (not d) y ≡ k (not d) y
unfolding relink
relink_across k false x v y = refl
relink_across k true x v y = refl

code_inj : (a b : Status) → code a ≡ code b → a ≡ b
code_inj stable stable e = refl
code_inj stable (pushing true) e = absurd (omega arith)
code_inj stable (pushing false) e = absurd (omega arith)
code_inj (pushing true) stable e = absurd (omega arith)
code_inj (pushing false) stable e = absurd (omega arith)
code_inj (pushing true) (pushing true) e = refl
code_inj (pushing true) (pushing false) e = absurd (omega arith)
code_inj (pushing false) (pushing true) e = absurd (omega arith)
code_inj (pushing false) (pushing false) e = refl

pub same_true : (a b : Anchor) → same a b ≡ true → a ≡ b
unfolding same
same_true a b e =
    let e3 = and-true _ _ e in
    let e2 = and-true _ _ e3.0 in
    let e1 = and-true _ _ e2.0 in
    let p = eqb-true _ _ e1.0 in
    let q = code_inj _ _ (eqb-true _ _ e1.1) in
    let r = eqb-true _ _ e2.1 in
    let s = eqb-true _ _ e3.1 in
    λ i. record { tag = p i; status = q i; left = r i; right = s i }

pub same_link_true : (a b : Link) → same_link a b ≡ true → a ≡ b
unfolding same_link
same_link_true a b e =
    let e1 = and-true _ _ e in
    let p = eqb-true _ _ e1.0 in
    let q = eqb-true _ _ e1.1 in
    λ i. record { tag = p i; slot = q i }

pub same_refl : (a : Anchor) → same a a ≡ true
unfolding same
same_refl a = rw (
  eq-eqb a.tag a.tag refl,
  eq-eqb (code a.status) (code a.status) refl,
  eq-eqb a.left a.left refl,
  eq-eqb a.right a.right refl,
)

pub same_link_refl : (a : Link) → same_link a a ≡ true
unfolding same_link
same_link_refl a = rw (eq-eqb a.tag a.tag refl, eq-eqb a.slot a.slot refl)

pub both_tip : (a : Anchor) (x : ℕ) (d : Bool) → tip (both a x) d ≡ x
both_tip a x false = refl
both_tip a x true = refl

pub aimed_near : (a : Anchor) (d : Bool) (x : ℕ) (st : Status) → tip (aimed a d x st) d ≡ x
aimed_near a false x st = refl
aimed_near a true x st = refl

pub aimed_far : (a : Anchor) (d : Bool) (x : ℕ) (st : Status) → tip (aimed a d x st) (not d) ≡ tip a (not d)
aimed_far a false x st = refl
aimed_far a true x st = refl

pub aimed_status : (a : Anchor) (d : Bool) (x : ℕ) (st : Status) → (aimed a d x st).status ≡ st
aimed_status a false x st = refl
aimed_status a true x st = refl

pub alike : (a : Anchor) (d : Bool) {x : ℕ} → tip a d ≡ x → tip a (not d) ≡ x → a.left ≡ a.right
alike a false p r = cc
alike a true p r = cc

pub aimed_tag : (a : Anchor) (d : Bool) (x : ℕ) (st : Status) → (aimed a d x st).tag ≡ suc a.tag
aimed_tag a false x st = refl
aimed_tag a true x st = refl

pub aimed_way : (a : Anchor) (d : Bool) (x : ℕ) → (aimed a d x (pushing d)).status ≡ pushing (towards (aimed a d x (pushing d)).status)
aimed_way a false x = refl
aimed_way a true x = refl

pub same-side : {d e : Bool} → pushing d ≡ pushing e → d ≡ e
same-side p = cc

pub stable_pushing : {e : Bool} → stable ≡ pushing e → ⊥
stable_pushing p = let z : ◌≡◌ {A = ℕ} 0 1 = cc in omega arith

-- A change raises the tag of the Anchor that it found current.
pub later : (a b : Anchor) → a ≡ b → b.tag < suc a.tag
later a b p = let e = ap (λ (z : Anchor). z.tag) p in omega arith

-- What the test of an empty stack tells. Only the sentence on *no slot* asks for the first.
pub exhausted_true : (head : Link) → exhausted head ≡ true → head.slot ≡ 0
exhausted_true head e = eqb-true head.slot 0 e

pub exhausted_false : (head : Link) → exhausted head ≡ false → head.slot ≢ 0
exhausted_false head e z = go head.tag head.slot e z
  where
    go : (tag slot : ℕ) → exhausted (record { tag = tag; slot = slot }) ≡ false → slot ≢ 0
    go tag slot f y = not_both refl (subst (λ (n : ℕ). exhausted (record { tag = tag; slot = n }) ≡ false) y f)
