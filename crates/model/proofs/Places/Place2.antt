-- Place 2: the first entry is put, the only entry is taken.
use mathlib.Core.{Bool.{false, true}, List.{List, [], ◌∷◌}, Logic.◌≢◌, Path.{◌∙◌, ◌≡◌, ap, refl, subst, sym}}
use Prim.Native.Nat.{suc, ℕ}
use Rattle.model.specs.declared.Entry.{Entry}
use Rattle.model.proofs.{Tests.Truth.by_test, Machine.{Book.BookCall, Laws.{both_tip, later, same_true}}}
use Rattle.model.proofs.Lists.{Deque.{put, rest, took}, Ends.{put_nil, took_one}, Slots.slots}
use Rattle.model.proofs.Machine.Machine.{Anchor, Kind, Rec, Shared, at11, at2, both, ends, goes, pop, push, runs}
use Rattle.model.proofs.Machine.Machine.{pushed, put_anchor, running, same, two}
use Rattle.model.proofs.Invariant.{Owners.{Owner, Intact}, Shape.Shape, Tasks.{Own, Task, Two}}
use Rattle.model.proofs.Chain.{Changes.{first_shape, last_shape}, Ends.{both_null, no-entry, single, small}}
use Rattle.model.proofs.Places.{Effects.left-effect, Place1.place1, Shown.Shown}
use Rattle.model.proofs.Places.Taking.{pop_good, push_good, put-bare}

module _ (t : ℕ) (s : Shared) (h : ℕ → Owner) (q : List Entry) (c : BookCall) (all : Intact s h q) (r : Rec) where
  pub place2 : (k : Kind) → r.kind ≡ k → Task at2 s h t r c → Shown t s h q c (two k s r)
  place2 push k w = by_test (Shown t s h q c) (same r.read s.anchor) ok (λ e. place1 t s h q c all r push k (w.0.unfinished, w.0.before))
    where
      ok : same r.read s.anchor ≡ true → Shown t s h q c (ends (put_anchor (both r.read r.own)) pushed)
      ok z =
          let p = same_true r.read s.anchor z in
          let o = subst (λ z. Own z s.label h t r.own r.label) k w.0.before.own in
          let e = ap (λ (z : Anchor). z.left) (sym p) ∙ subst (λ z. Two z r.read) k w.1 in
          let n = no-entry s.link s.anchor (slots q) all.shape e in
          push_good all r (ends (put_anchor (both r.read r.own)) pushed) k w.0.before
          (left-effect s.anchor (both r.read r.own) pushed (λ f. o.0 (sym f ∙ e))) refl
          (both r.read r.own) refl (both_tip r.read r.own r.side) (later r.read s.anchor p)
          (small s.link s.anchor (slots q) all.shape (ap (λ (z : List ℕ). rest z) n))
          (subst (λ z. Shape s.link (both r.read r.own) z)
          (sym (ap (λ (z : List ℕ). put r.side r.own z) n ∙ put_nil r.side r.own))
          (subst (λ b. Shape s.link (both b r.own) (r.own ∷ [])) (sym p)
          (first_shape s.link s.anchor (slots q) all.shape r.own e o.0)))
          (refl, record { once = ap suc w.0.before.none; agrees = refl }, put-bare h t r.own o.3) refl
  place2 pop k w = by_test (Shown t s h q c) (same r.read s.anchor) ok (λ e. place1 t s h q c all r pop k (w.0.unfinished, w.0.before))
    where
      ok : same r.read s.anchor ≡ true → Shown t s h q c (runs (put_anchor (both r.read 0)) (goes r at11))
      ok z =
          let p = same_true r.read s.anchor z in
          let g = subst (λ (a : Anchor). (a.left ≡ a.right) × (a.left ≢ 0)) p (subst (λ z. Two z r.read) k w.1) in
          let n = single s.link s.anchor (slots q) all.shape g.0 g.1 in
          pop_good all r (both r.read 0) k w.0.before p (left-effect s.anchor (both r.read 0) running g.1)
          (later r.read s.anchor p)
          (small s.link s.anchor (slots q) all.shape (ap (λ (z : List ℕ). rest z) n))
          (λ e. g.1 (both_null s.link s.anchor (slots q) all.shape r.side false e))
          (subst (λ z. Shape s.link (both r.read 0) z) (sym (ap (λ (z : List ℕ). took r.side z) n ∙ took_one r.side s.anchor.left))
          (subst (λ b. Shape s.link (both b 0) []) (sym p) (last_shape s.link s.anchor (slots q) all.shape g.0 g.1)))
