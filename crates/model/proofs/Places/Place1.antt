-- Place 1: Anchor is read. Empty is the effect of a pop on an empty queue.
use mathlib.Core.{Bool.{false, true}, List.{List, []}, Path.{◌∙◌, ◌≡◌, ap, refl, subst, sym}}
use Prim.Native.Nat.{suc, ℕ}
use lib.Dec.{eqb}
use borrow.Author.Tests.{eqb-false, eqb-true}
use Rattle.model.specs.declared.Entry.{Entry}
use Rattle.model.proofs.{Tests.Truth.by_test, Machine.Book.{BookCall, given, told}, Chain.Ends.no-entry}
use Rattle.model.proofs.Lists.{Deque.{seen, took}, Ends.{seen_nil, took_nil}, Slots.{slots, slots_nil}}
use Rattle.model.proofs.Machine.Machine.{Kind, Rec, Shared, Status, at1, at5, empty, ends, is_stable, none, one}
use Rattle.model.proofs.Machine.Machine.{pop, push, pushing, reads, runs, stable, towards}
use Rattle.model.proofs.Invariant.{Owners.{Owner, Intact}, Tasks.{Before, Own, Stage, Task, Three, Tries, Two}}
use Rattle.model.proofs.Places.{Effects.{empty-effect, noted_pop}, Marking.marked-kept, Owned.push_pop}
use Rattle.model.proofs.Places.Shown.{Shown, effective, read_now, rely_refl, still}

-- A status that is not stable.
unstable : (st : Status) → is_stable st ≡ false → st ≡ pushing (towards st)
unstable stable e = cc
unstable (pushing d) e = refl

steady : (st : Status) → is_stable st ≡ true → st ≡ stable
steady stable e = refl
steady (pushing d) e = cc

module _ (t : ℕ) (s : Shared) (h : ℕ → Owner) (q : List Entry) (c : BookCall) (all : Intact s h q) (r : Rec) where
  none_left : s.anchor.left ≡ 0 → q ≡ []
  none_left e = slots_nil q (no-entry s.link s.anchor (slots q) all.shape e)

  tries-now : r.finishing ≡ false → Before s.label h t r.kind r.side r.own r.label c
      → Tries s.label s.anchor h t r.finishing r.kind r.side r.own r.label s.anchor c
  tries-now e b = record { unfinished = e; before = b; read = read_now s.anchor }

  helps_now : r.finishing ≡ false → Before s.label h t r.kind r.side r.own r.label c → is_stable s.anchor.status ≡ false
      → Shown t s h q c (runs none (reads r s.anchor at5))
  helps_now e b st = still refl all (record {
    stage = subst (λ f. Stage f s.label h t r.kind r.side r.own r.label c) (sym e) b;
    read = read_now s.anchor;
    status = unstable s.anchor.status st;
  })

  pub place1 : (k : Kind) → r.kind ≡ k → Task at1 s h t r c → Shown t s h q c (one k s r)
  place1 push k w = by_test (Shown t s h q c) (eqb s.anchor.left 0)
      (λ e. still refl all (tries-now w.0 w.1, subst (λ z. Two z s.anchor) (sym k) (eqb-true s.anchor.left 0 e)))
      (λ e. by_test (Shown t s h q c) (is_stable s.anchor.status)
      (λ g. still refl all
      (tries-now w.0 w.1, subst (λ z. Three z s.anchor) (sym k) (steady s.anchor.status g, eqb-false s.anchor.left 0 e)))
      (λ g. helps_now w.0 w.1 g))
  place1 pop k w = by_test (Shown t s h q c) (eqb s.anchor.left 0)
      (λ e. let n = none_left (eqb-true s.anchor.left 0 e) in
      effective (ends none empty) h (told c (given (seen r.side q))) (took r.side q)
      (noted_pop c w.1.agrees q s.anchor s.anchor empty (empty-effect s.anchor s.anchor) refl k)
      (subst (λ z. Intact s h z) (sym (ap (λ (z : List Entry). took r.side z) n ∙ took_nil r.side ∙ sym n)) all) (λ u z. rely_refl u) (
        refl,
        record {
          once = ap suc w.1.none;
          agrees = sym (ap (λ (z : List Entry). given (seen r.side z)) n ∙ ap given (seen_nil r.side));
        },
        subst
            (λ z. Own z s.label h t r.own r.label) k w.1.own,
      ) (λ _ _ z. absurd (push_pop (sym z ∙ w.1.agrees.kind ∙ k))) (marked-kept (ends none empty) refl (λ x. refl)))
      (λ e. by_test (Shown t s h q c) (eqb s.anchor.left s.anchor.right)
      (λ f. still refl all (
        tries-now w.0 w.1,
        subst (λ z. Two z s.anchor) (sym k)
            (eqb-true s.anchor.left s.anchor.right f, eqb-false s.anchor.left 0 e),
      ))
      (λ f. by_test (Shown t s h q c) (is_stable s.anchor.status)
      (λ g. still refl all (
        tries-now w.0 w.1,
        subst (λ z. Three z s.anchor) (sym k)
            (steady s.anchor.status g, eqb-false s.anchor.left s.anchor.right f),
      ))
      (λ g. helps_now w.0 w.1 g)))
