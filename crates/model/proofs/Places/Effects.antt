-- Where effects fall, and what the book then notes.
use mathlib.Core.{Bool.{Bool, ◌&&◌, ◌||◌, false, not, true}, List.List, Logic.◌≢◌, Path.{◌∙◌, ◌≡◌, ap, refl, sym}}
use Prim.Native.Nat.{ℕ}
use lib.Dec.{eqb}
use borrow.Author.Tests.{eq-eqb, ne_eqb}
use Rattle.model.specs.declared.Entry.{Entry}
use Rattle.model.proofs.{Tests.Truth.or_second, Lists.Deque.{put, seen, took}, Machine.Machine.pushed}
use Rattle.model.proofs.Machine.Book.{BookCall, effect, given, is_no_free_slot, noted, served, told, unmoving}
use Rattle.model.proofs.Machine.Machine.{Anchor, Answer, Kind, Status, aimed, empty, no_free_slot, pop, push, tip}
use Rattle.model.proofs.Invariant.Tasks.{Agrees}

pub noted_false : (c : BookCall) (q : List Entry) (a b : Anchor) (w : Answer) → effect a b w ≡ false → noted c q a b w ≡ record { call = c; queue = q }
unfolding noted
noted_false c q a b w e = rw e

pub no-effect : (a b : Anchor) (w : Answer) → unmoving w ≡ false → a.left ≡ b.left → a.right ≡ b.right → effect a b w ≡ false
no-effect a b w e l r = rw (eq-eqb a.left b.left l, eq-eqb a.right b.right r, e)

pub left-effect : (a b : Anchor) (w : Answer) → a.left ≢ b.left → effect a b w ≡ true
left-effect a b w l = rw (ne_eqb a.left b.left l)

right-effect : (a b : Anchor) (w : Answer) → a.right ≢ b.right → effect a b w ≡ true
right-effect a b w r = rw (ne_eqb a.right b.right r) (go (eqb a.left b.left))
  where
    go : (y : Bool) → not (y && false) || unmoving w ≡ true
    go true = refl
    go false = refl

pub empty-effect : (a b : Anchor) → effect a b empty ≡ true
empty-effect a b = or_second (not (eqb a.left b.left && eqb a.right b.right)) refl

-- *No slot*: the sequential deque replies the same, and stays as it is.
pub noted-none : (c : BookCall) (q : List Entry) (a b : Anchor) → noted c q a b no_free_slot ≡ record { call = told c no_free_slot; queue = q }
unfolding noted
noted-none c q a b = rw (or_second (not (eqb a.left b.left && eqb a.right b.right)) refl)

pub aimed_effect : (a : Anchor) (d : Bool) (x : ℕ) (st : Status) (w : Answer) → x ≢ tip a d → effect a (aimed a d x st) w ≡ true
aimed_effect a false x st w h = left-effect a (aimed a false x st) w (λ e. h (sym e))
aimed_effect a true x st w h = right-effect a (aimed a true x st) w (λ e. h (sym e))

module _ {k : Kind} {d : Bool} {x l : ℕ} (c : BookCall) (g : Agrees k d x l c) (q : List Entry) (a b : Anchor) (w : Answer) (e : effect a b w ≡ true)
    (n : is_no_free_slot w ≡ false) where
  pub noted_push : k ≡ push → noted c q a b w ≡ record { call = told c pushed; queue = put d (record { slot = x; label = l }) q }
  unfolding noted
  noted_push p = rw (e, n) (ap (λ (z : Kind). served z c q) (g.kind ∙ p)
      ∙ (λ i. record { call = told c pushed; queue = put (g.side i) (record { slot = g.slot i; label = g.label i }) q }))

  pub noted_pop : k ≡ pop → noted c q a b w ≡ record { call = told c (given (seen d q)); queue = took d q }
  unfolding noted
  noted_pop p = rw (e, n) (ap (λ (z : Kind). served z c q) (g.kind ∙ p)
      ∙ (λ i. record { call = told c (given (seen (g.side i) q)); queue = took (g.side i) q }))
