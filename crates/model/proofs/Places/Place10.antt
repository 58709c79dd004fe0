-- Place 10: with the link back made the queue is STABLE.
use mathlib.Core.{Bool.true, List.List, Path.{◌∙◌, ◌≡◌, ap, refl, subst, sym}}
use Prim.Native.Nat.{ℕ}
use native.Mathlib.Omega.{arith}
use Rattle.model.specs.declared.Entry.{Entry}
use Rattle.model.proofs.{Tests.Truth.by_test, Lists.Slots.slots, Chain.Links.settled_shape}
use Rattle.model.proofs.Machine.{Book.BookCall, Laws.{same-side, same_true}, Machine.settled}
use Rattle.model.proofs.Machine.Machine.{Anchor, Rec, Shared, act, at10, leave, pushing, put_anchor, same}
use Rattle.model.proofs.Invariant.{Owners.{Owner, Intact}, Shape.{Made, Shape}, Tasks.{Task, way}}
use Rattle.model.proofs.Places.{Places5to8.away, Shown.{Shown, leaves, rely_turn}}

module _ (t : ℕ) (s : Shared) (h : ℕ → Owner) (q : List Entry) (c : BookCall) (all : Intact s h q) (r : Rec) where
  pub place10 : Task at10 s h t r c → Shown t s h q c (act at10 s r)
  place10 w = by_test (Shown t s h q c) (same r.read s.anchor) ok (λ e. away t s h q c all r w.0)
    where
      ok : same r.read s.anchor ≡ true → Shown t s h q c (leave (put_anchor (settled r.read)) r)
      ok z =
          let p = same_true r.read s.anchor z in
          let e = way r.read in
          let st : s.anchor.status ≡ pushing e = ap (λ (b : Anchor). b.status) (sym p) ∙ w.0.status in
          let made : Made s.link s.anchor e = subst (λ (b : Anchor). Made s.link b e) p (w.1 p) in
          leaves (put_anchor (settled r.read)) r (ap (λ (b : Anchor). b.left) (sym p)) (ap (λ (b : Anchor). b.right) (sym p)) (λ x. refl)
          (record {
            shape = subst (λ (b : Anchor). Shape s.link (settled b) (slots q)) (sym p)
                (settled_shape s.link s.anchor (slots q) all.shape e st made);
            owned = all.owned;
            listed = all.listed;
            labels = all.labels;
            bounds = all.bounds;
            spare = all.spare;
          })
          (rely_turn (settled r.read) h (let g = ap (λ (b : Anchor). b.tag) p in omega arith)
          (λ e' st'. subst (λ f. Made s.link s.anchor f) (same-side (sym st ∙ st')) made) (λ u x n f. f) (λ u x n f. f))
          w.0.stage
