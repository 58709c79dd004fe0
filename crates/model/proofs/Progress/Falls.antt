-- A step that answers running brings its own task nearer: what the task owes falls. Place by place; what a change of Anchor at 2 or 4
-- leaves is for the two bounds to say.
use mathlib.Core.{Bool.{Bool, ◌&&◌, cond, false, true}, List.List, Logic.{◌⊎◌, inl, inr}}
use mathlib.Core.Path.{◌∙◌, ◌≡◌, ap, refl, subst, sym}
use Prim.Native.Nat.{◌+◌, ◌<◌, ◌≤◌, ℕ}
use native.Mathlib.Omega.{arith}
use lib.Dec.{eqb, ltb}
use borrow.Author.Tests.{eqb-true, lt-ltb, ltb-true}
use Rattle.model.specs.declared.Entry.{Entry}
use Rattle.model.proofs.{Tests.Truth.{and_of, and-true, by_test, not_both}, Lists.Slots.slots}
use Rattle.model.proofs.Machine.{Laws.{same_refl, same_link_refl}, Machine.{tip, towards}}
use Rattle.model.proofs.Machine.Machine.{Anchor, Kind, Link, Move, Place, Rec, Shared, act, apply, at1, at10}
use Rattle.model.proofs.Machine.Machine.{at11, at12, at13, at14, at15, at16, at17, at2, at3, at4, at5, at6, at7}
use Rattle.model.proofs.Machine.Machine.{at8, at9, clear, draw, empty, exhausted, give, goes, is_stable, leave}
use Rattle.model.proofs.Machine.Machine.{no_free_slot, none, one, owns, pop, popped, push, pushed, put_anchor, runs}
use Rattle.model.proofs.Machine.Machine.{put_link, raised, reads, running, same, same_link, settled, take, three}
use Rattle.model.proofs.Invariant.{Owners.{Owner, Intact}, Tasks.{Fresh, Grown, Live, At9, way}}
use Rattle.model.proofs.{Chain.Ends.{alike_stable, both_null}, Progress.Measure.{home, outgrown, owed, owed_at}}

-- Two branches on one test, compared arm by arm.
pub drop : (b : Bool) {x' y' x y : ℕ} → (b ≡ true → x' < x) → (b ≡ false → y' < y) → cond b x' y' < cond b x y
drop true f g = f refl
drop false f g = g refl

pub pushed_running : pushed ≡ running → ⊥
pushed_running e = let z : ◌≡◌ {A = ℕ} 0 1 = cc in omega arith

pub empty_running : empty ≡ running → ⊥
empty_running e = let z : ◌≡◌ {A = ℕ} 0 1 = cc in omega arith

pub none_running : no_free_slot ≡ running → ⊥
none_running e = let z : ◌≡◌ {A = ℕ} 0 1 = cc in omega arith

pub popped_running : {x l : ℕ} → popped x l ≡ running → ⊥
popped_running e = let z : ◌≡◌ {A = ℕ} 0 1 = cc in omega arith

-- With c and g for its scale, what the task owes after a move is less than x.
pub record Falls (c g : ℕ) (draws : Bool) (x : ℕ) (s : Shared) (m : Move) : Type 0 where
  pub less : m.answer ≡ running → owed c g draws (apply s m.touch) m.rec < x

module _ (c g : ℕ) (draws : Bool) (gap : c + 2 ≤ g) (s : Shared) (r : Rec) where
  abbrev steady : Bool
  steady = is_stable s.anchor.status

  abbrev now : Bool
  now = same r.read s.anchor

  -- The head as read is the head.
  abbrev top : Bool
  top = same_link r.link s.head

  abbrev here : ℕ
  here = home c g steady

  abbrev At : Place → Move → Type 0
  At p m = Falls c g draws (owed_at c g draws p s r) s m

  -- A task that is not finishing.
  unfinished : (x : ℕ) {y z : ℕ} → r.finishing ≡ false → z < y → z < cond r.finishing x y
  unfinished x {y} {z} f lt = by_test (λ v. z < v) r.finishing (λ t. absurd (not_both t f)) (λ _. lt)

  -- Back to place 1.
  leaves : (x : ℕ) {y : ℕ} → here < y → Falls c g draws (cond r.finishing x y) s (leave none r)
  leaves x {y} lt = by_test (Falls c g draws (cond r.finishing x y) s) r.finishing (λ t. record { less = λ e. absurd (pushed_running e) })
      (λ f. record { less = λ _. unfinished x f lt })

  -- A change at 2 or 4 that fails.
  missed : now ≡ false → here < cond (steady && now) c (here + 1)
  missed e = by_test (λ v. here < v) (steady && now) (λ z. absurd (not_both (and-true steady now z).1 e)) (λ _. omega arith)

  -- A comparison at 6 or 8, a change at 10 that fails.
  stale : (x : ℕ) → now ≡ false → here < cond now x (here + 1)
  stale x e = by_test (λ v. here < v) now (λ z. absurd (not_both z e)) (λ _. omega arith)

  -- 3, 5: on the way.
  pub fall3 : (k : Kind) → At at3 (three k s r)
  fall3 push = record { less = λ _. drop (steady && now) (λ _. omega arith) (λ _. omega arith) }
  fall3 pop = record { less = λ _. drop (steady && now) (λ _. omega arith) (λ _. omega arith) }

  pub fall5 : At at5 (act at5 s r)
  fall5 = record { less = λ _. drop r.finishing (λ _. omega arith) (λ _. drop now (λ _. omega arith) (λ _. omega arith)) }

  pub fall6 : At at6 (act at6 s r)
  fall6 = by_test (At at6) now
      (λ e. record { less = λ _. drop r.finishing (λ _. omega arith) (λ _. drop now (λ _. omega arith) (λ n. absurd (not_both e n))) })
      (λ e. leaves 5 (stale _ e))

  -- 7: the link as read is the link now, so it is not outgrown.
  pub fall7 : At at7 (act at7 s r)
  fall7 =
      let e = towards r.read.status in
      let w = s.link e r.near in
      by_test (At at7) (eqb w.slot (tip r.read e))
      (λ _. record { less = λ _. drop r.finishing (λ _. omega arith) (λ _. drop now (λ _. omega arith) (λ _. omega arith)) })
      (λ _. record {
        less = λ _. drop r.finishing (λ _. omega arith)
            (λ _. drop now (λ _. by_test (λ v. v < g + 2) (ltb w.tag w.tag) (λ z. absurd (let l = ltb-true w.tag w.tag z in omega arith))
            (λ _. omega arith)) (λ _. omega arith));
      })

  pub fall8 : At at8 (act at8 s r)
  fall8 = by_test (At at8) now
      (λ e. record {
        less = λ _. drop r.finishing (λ _. omega arith)
            (λ _. by_test (λ v. cond (outgrown s r) (here + 1) g < v) now (λ _. drop (outgrown s r) (λ _. omega arith) (λ _. omega arith))
            (λ n. absurd (not_both e n)));
      })
      (λ e. leaves 3 (stale _ e))

  -- 9, failed: the link was outgrown.
  pub fall9_failed : At9 s r.read r.near r.link → same_link r.link (s.link (way r.read) r.near) ≡ false → At at9 (leave none r)
  fall9_failed n z = leaves 2 (by_test (λ v. here < v) (outgrown s r) (λ _. omega arith) (λ f. absurd (not_both grown f)))
    where
      fresh : Fresh s r.read r.near r.link → outgrown s r ≡ true
      fresh (inl e) = absurd (not_both (subst (λ (w : Link). same_link r.link w ≡ true) e (same_link_refl r.link)) z)
      fresh (inr y) = lt-ltb _ _ y

      go : Live s r.read r.near r.link ⊎ Grown s r.read r.near r.link → outgrown s r ≡ true
      go (inl l) = fresh l.fresh
      go (inr y) = lt-ltb _ _ y

      grown : outgrown s r ≡ true
      grown = go n.chance

  pub fall10_failed : now ≡ false → At at10 (leave none r)
  fall10_failed e = leaves 1 (stale _ e)

  -- 9, done: at 10 with Anchor as read. The scale may have changed to g'.
  pub fall9_done : (g' : ℕ) (v : Link) → c + 3 < g → r.read ≡ s.anchor → r.link ≡ s.link (way r.read) r.near
      → Falls c g' draws (owed_at c g draws at9 s r) s (runs (put_link (way r.read) r.near v) (goes r at10))
  fall9_done g' v lt p e = record {
    less = λ _. drop r.finishing (λ _. omega arith)
        (λ _. by_test (λ v. v < cond (outgrown s r) (here + 1) g) now
        (λ _. by_test (λ v. c + 3 < v) (outgrown s r)
        (λ y. absurd (let l = ltb-true r.link.tag (s.link (way r.read) r.near).tag y in let t = ap (λ (w : Link). w.tag) e in omega arith))
        (λ _. lt))
        (λ n. absurd (not_both (subst (λ (a : Anchor). same r.read a ≡ true) p (same_refl r.read)) n)));
  }

  -- 10, done: at 1 under STABLE.
  pub fall10_done : (g' : ℕ) → now ≡ true → r.finishing ≡ false
      → Falls c g' draws (owed_at c g draws at10 s r) s (runs (put_anchor (settled r.read)) (goes r at1))
  fall10_done g' e f = record { less = λ _. unfinished 1 f (by_test (λ v. c + 2 < v) now (λ _. omega arith) (λ n. absurd (not_both e n))) }

  -- 1: what is read is current. (With #106 a change that fails at 2 or 4 goes on so too: see `fall2_failed`.)
  module _ (h : ℕ → Owner) (q : List Entry) (all : Intact s h q) (f : r.finishing ≡ false) where
    -- A single end, or none, is STABLE.
    alone : s.anchor.left ≡ s.anchor.right → steady ≡ true
    alone e = ap is_stable (alike_stable s.link s.anchor (slots q) all.shape e)

    reads2 : s.anchor.left ≡ s.anchor.right → Falls c g draws here s (runs none (reads r s.anchor at2))
    reads2 e = record {
      less = λ _. by_test (λ v. v < here) (steady && same s.anchor s.anchor) (λ _. by_test (λ v. c < v) steady (λ _. omega arith) (λ _. omega arith))
          (λ z. absurd (not_both (and_of (alone e) (same_refl s.anchor)) z));
    }

    reads3 : steady ≡ true → Falls c g draws here s (runs none (reads r s.anchor at3))
    reads3 st = record {
      less = λ _. by_test (λ v. v < here) (steady && same s.anchor s.anchor)
          (λ _. by_test (λ v. c + 1 < v) steady (λ _. omega arith) (λ _. omega arith))
          (λ z. absurd (not_both (and_of st (same_refl s.anchor)) z));
    }

    reads5 : steady ≡ false → Falls c g draws here s (runs none (reads r s.anchor at5))
    reads5 st = record {
      less = λ _. by_test (λ v. v < here) r.finishing (λ t. absurd (not_both t f))
          (λ _. by_test (λ v. v < here) (same s.anchor s.anchor) (λ _. by_test (λ v. g + 4 < v) steady (λ z. absurd (not_both z st)) (λ _. omega arith))
          (λ z. absurd (not_both (same_refl s.anchor) z)));
    }

    null : eqb s.anchor.left 0 ≡ true → s.anchor.left ≡ s.anchor.right
    null e = let z = eqb-true s.anchor.left 0 e in z ∙ sym (both_null s.link s.anchor (slots q) all.shape false true z)

    pub reading_falls : (k : Kind) → Falls c g draws here s (one k s r)
    reading_falls push = by_test (Falls c g draws here s) (eqb s.anchor.left 0) (λ e. reads2 (null e))
        (λ e. by_test (Falls c g draws here s) steady reads3 reads5)
    reading_falls pop = by_test (Falls c g draws here s) (eqb s.anchor.left 0) (λ e. record { less = λ z. absurd (empty_running z) })
        (λ e. by_test (Falls c g draws here s) (eqb s.anchor.left s.anchor.right) (λ z. reads2 (eqb-true _ _ z))
        (λ z. by_test (Falls c g draws here s) steady reads3 reads5))

    pub fall1 : (k : Kind) → At at1 (one k s r)
    fall1 k = reading_falls k

    -- A failed change at 2 or 4 goes on as place 1 does.
    again : {x : ℕ} → here < x → (k : Kind) → Falls c g draws x s (one k s r)
    again lt k = record { less = λ z. omega (arith, lt, (reading_falls k).less z) }

    pub fall2_failed : now ≡ false → (k : Kind) → At at2 (one k s r)
    fall2_failed e k = again (missed e) k

    pub fall4_failed : now ≡ false → (k : Kind) → At at4 (one k s r)
    fall4_failed e k = again (missed e) k

  -- 11, in a pooled queue.
  pub fall11 : s.pooled ≡ true → let x = tip r.read r.side in At at11 (runs (clear x) (owns r x (s.label x) (give at15)))
  fall11 e = record { less = λ _. by_test (λ v. 3 < v) s.pooled (λ _. omega arith) (λ n. absurd (not_both e n)) }

  -- 12 and 15: the head as read is the head. 13 and 16: on the way. 14 and 17, failed: back to 12 or 15.
  read_now : cond (same_link s.head s.head) 2 5 < 3
  read_now = by_test (λ v. v < 3) (same_link s.head s.head) (λ _. omega arith) (λ n. absurd (not_both (same_link_refl s.head) n))

  on : cond top 1 4 < cond top 2 5
  on = drop top (λ _. omega arith) (λ _. omega arith)

  back : top ≡ false → 3 < cond top 1 4
  back n = by_test (λ v. 3 < v) top (λ y. absurd (not_both y n)) (λ _. omega arith)

  -- A push that draws its slot.
  module _ (asks : draws ≡ true) where
    nearer : {x y : ℕ} → x < y → here + cond draws x 0 < here + cond draws y 0
    nearer {x} {y} lt = let z : cond draws x 0 < cond draws y 0 = drop draws (λ _. lt) (λ n. absurd (not_both asks n)) in omega arith

    pub fall12 : At (draw at12) (act (draw at12) s r)
    fall12 = by_test (At (draw at12)) (exhausted s.head) (λ _. record { less = λ z. absurd (none_running z) })
        (λ _. record { less = λ _. nearer read_now })

    pub fall13 : At (draw at13) (act (draw at13) s r)
    fall13 = record { less = λ _. nearer on }

    -- 14, done: at 1.
    pub fall14_done : At (draw at14) (runs (take (raised r r.near) r.link.slot r.label) (owns r r.link.slot r.label at1))
    fall14_done = record {
      less = λ _. let z : 0 < cond draws (cond top 1 4) 0 =
          by_test (λ v. 0 < v) draws (λ _. by_test (λ v. 0 < v) top (λ _. omega arith) (λ _. omega arith)) (λ n. absurd (not_both asks n)) in omega arith;
    }

    pub fall14_failed : top ≡ false → At (draw at14) (runs none (goes r (draw at12)))
    fall14_failed n = record { less = λ _. nearer (back n) }

  pub fall15 : At (give at15) (act (give at15) s r)
  fall15 = record { less = λ _. read_now }

  pub fall16 : At (give at16) (act (give at16) s r)
  fall16 = record { less = λ _. on }

  pub fall17_failed : top ≡ false → At (give at17) (runs none (goes r (give at15)))
  fall17_failed n = record { less = λ _. back n }
