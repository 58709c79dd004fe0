-- A task stepped alone: what it owes falls at each of its steps, its effect among them, and is at most 18 for a push and 13 for a pop, in a
-- pooled queue 21 and 16.
use mathlib.Core.{Bool.{Bool, ◌&&◌, cond, false, true}, List.List, Logic.{◌⊎◌, inl, inr}}
use mathlib.Core.Path.{◌≡◌, ap, refl, subst, sym}
use Prim.Native.Nat.{◌+◌, ◌<◌, ◌≤◌, suc, ℕ}
use native.Mathlib.Omega.{arith}
use Rattle.model.specs.declared.Entry.{Entry}
use Rattle.model.proofs.{Tests.Truth.{by_test, not_both}, Progress.Measure.{home, owed, owed_at}}
use Rattle.model.proofs.Machine.{Book.BookCall, Laws.same_link_true, Machine.{same, same_link, two}}
use Rattle.model.proofs.Machine.Machine.{Kind, Link, Move, Place, Rec, Shared, act, at1, at10, at11, at12, at13}
use Rattle.model.proofs.Machine.Machine.{at14, at15, at16, at17, at2, at3, at4, at5, at6, at7, at8, at9, draw}
use Rattle.model.proofs.Machine.Machine.{four, give, goes, idle, is_idle, is_stable, pop, push, put_link, runs, tip}
use Rattle.model.proofs.Invariant.{Owners.{Owner, Intact}, Tasks.{Grown, Live, Task, way}}
use Rattle.model.proofs.Progress.{Bounds.owed-within, Falls.{fall9_failed, popped_running, pushed_running}}
use Rattle.model.proofs.Progress.Falls.{Falls, drop, fall1, fall10_done, fall10_failed, fall11, fall12, fall13}
use Rattle.model.proofs.Progress.Falls.{fall14_done, fall14_failed, fall15, fall16, fall17_failed, fall2_failed}
use Rattle.model.proofs.Progress.Falls.{fall3, fall4_failed, fall5, fall6, fall7, fall8, fall9_done}

-- From a change at 2 or 4 on: a push makes that one and, at 5 to 10, six more at the most; a pop that one and 11, in a pooled queue 15 to 17 too.
abbrev pub spend : Bool → Kind → ℕ
spend pooled push = 7
spend pooled pop = cond pooled 5 2

-- A push of a pooled queue draws its slot.
abbrev pub draws : Bool → Kind → Bool
draws pooled push = pooled
draws pooled pop = false

-- What a task stepped alone owes: 9 is four steps before a change at 2 or 4 (9, 10, 1, 3).
abbrev pub alone : Bool → Kind → Shared → Rec → ℕ
alone pooled k s r = owed (spend pooled k) (spend pooled k + 4) (draws pooled k) s r

module _ (s : Shared) (r : Rec) where
  abbrev c : Kind → ℕ
  c k = spend s.pooled k

  abbrev Own : Kind → Place → Move → Type 0
  Own k p m = Falls (c k) (c k + 4) (draws s.pooled k) (owed_at (c k) (c k + 4) (draws s.pooled k) p s r) s m

  abbrev now : Bool
  now = same r.read s.anchor

  abbrev steady : Bool
  steady = is_stable s.anchor.status

  -- The head as read is the head.
  abbrev top : Bool
  top = same_link r.link s.head

  gap : (k : Kind) → c k + 2 ≤ c k + 4
  gap k = omega arith

  -- More than x, done or failed.
  above : (c x : ℕ) → x < c → x < cond (steady && now) c (home c (c + 4) steady + 1)
  above c x lt = by_test (λ v. x < v) (steady && now) (λ _. lt) (λ _. by_test (λ v. x < v + 1) steady (λ _. omega arith) (λ _. omega arith))

  -- A push at 12 to 14 draws its slot.
  asks : s.pooled ≡ true → r.kind ≡ push → draws s.pooled r.kind ≡ true
  asks e k = subst (λ z. draws s.pooled z ≡ true) (sym k) e

  -- From the change of a pop to 11.
  pop_to_11 : cond s.pooled 4 1 < c pop
  pop_to_11 = drop s.pooled (λ _. omega arith) (λ _. omega arith)

  module _ (h : ℕ → Owner) (t : ℕ) (q : List Entry) (b : BookCall) (all : Intact s h q) where
    alone2 : (k : Kind) → r.finishing ≡ false → Own k at2 (two k s r)
    alone2 push f = by_test (Own push at2) now (λ e. record { less = λ z. absurd (pushed_running z) })
        (λ e. fall2_failed _ _ _ (gap push) s r h q all f e push)
    alone2 pop f = by_test (Own pop at2) now (λ e. record { less = λ _. above (c pop) _ pop_to_11 })
        (λ e. fall2_failed _ _ _ (gap pop) s r h q all f e pop)

    alone4 : (k : Kind) → r.finishing ≡ false → Own k at4 (four k s r)
    alone4 push f = by_test (Own push at4) now (λ e. record { less = λ _. above 7 6 (omega arith) })
        (λ e. fall4_failed _ _ _ (gap push) s r h q all f e push)
    alone4 pop f = by_test (Own pop at4) now (λ e. record { less = λ _. above (c pop) _ pop_to_11 })
        (λ e. fall4_failed _ _ _ (gap pop) s r h q all f e pop)

    alone9 : (k : Kind) → Task at9 s h t r b → Own k at9 (act at9 s r)
    alone9 k w = by_test (Own k at9) (same_link r.link (s.link (way r.read) r.near)) (λ z. done (same_link_true _ _ z) w.1.chance)
        (λ z. fall9_failed _ _ _ (gap k) s r w.1 z)
      where
        done : r.link ≡ s.link (way r.read) r.near → Live s r.read r.near r.link ⊎ Grown s r.read r.near r.link
            → Own k at9 (runs (put_link (way r.read) r.near (record { tag = suc r.link.tag; slot = tip r.read (way r.read) })) (goes r at10))
        done e (inl l) = fall9_done _ _ _ (gap k) s r (c k + 4) _ (omega arith) l.current e
        done e (inr y) = absurd (let t = ap (λ (w : Link). w.tag) e in omega (arith, y))

    -- A step of the task.
    pub alone_falls : (p : Place) → is_idle p ≡ false → Task p s h t r b → Own r.kind p (act p s r)
    alone_falls idle i w = absurd (not_both refl i)
    alone_falls at1 i w = fall1 _ _ _ (gap r.kind) s r h q all w.0 r.kind
    alone_falls at2 i w = alone2 r.kind w.0.unfinished
    alone_falls at3 i w = fall3 _ _ _ (gap r.kind) s r r.kind
    alone_falls at4 i w = alone4 r.kind w.0.unfinished
    alone_falls at5 i w = fall5 _ _ _ (gap r.kind) s r
    alone_falls at6 i w = fall6 _ _ _ (gap r.kind) s r
    alone_falls at7 i w = fall7 _ _ _ (gap r.kind) s r
    alone_falls at8 i w = fall8 _ _ _ (gap r.kind) s r
    alone_falls at9 i w = alone9 r.kind w
    alone_falls at10 i w = by_test (Own r.kind at10) now
        (λ e. by_test (Own r.kind at10) r.finishing (λ _. record { less = λ z. absurd (pushed_running z) })
        (λ f. fall10_done _ _ _ (gap r.kind) s r _ e f))
        (λ e. fall10_failed _ _ _ (gap r.kind) s r e)
    alone_falls at11 i w = by_test (Own r.kind at11) s.pooled (λ e. fall11 _ _ _ (gap r.kind) s r e)
        (λ _. record { less = λ z. absurd (popped_running z) })
    alone_falls (draw at12) i w = fall12 _ _ _ (gap r.kind) s r (asks w.0 w.1.kind)
    alone_falls (draw at13) i w = fall13 _ _ _ (gap r.kind) s r (asks w.0 w.1.kind)
    alone_falls (draw at14) i w = by_test (Own r.kind (draw at14)) top
        (λ _. fall14_done _ _ _ (gap r.kind) s r (asks w.0 w.1.kind))
        (λ n. fall14_failed _ _ _ (gap r.kind) s r (asks w.0 w.1.kind) n)
    alone_falls (give at15) i w = fall15 _ _ _ (gap r.kind) s r
    alone_falls (give at16) i w = fall16 _ _ _ (gap r.kind) s r
    alone_falls (give at17) i w = by_test (Own r.kind (give at17)) top (λ _. record { less = λ z. absurd (popped_running z) })
        (λ n. fall17_failed _ _ _ (gap r.kind) s r n)

-- One step at least, and at most 18 for a push and 13 for a pop, in a pooled queue 21 and 16.
pub alone-within : (pooled : Bool) (k : Kind) (s : Shared) (r : Rec)
    → (1 ≤ alone pooled k s r) × (alone pooled k s r ≤ spend pooled k + 11 + cond (draws pooled k) 3 0)
alone-within pooled push s r = owed-within 7 11 pooled (omega arith) (omega arith) s r
alone-within true pop s r = owed-within 5 9 false (omega arith) (omega arith) s r
alone-within false pop s r = owed-within 2 6 false (omega arith) (omega arith) s r
