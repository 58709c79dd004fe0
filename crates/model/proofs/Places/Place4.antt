-- Place 4: an entry is put at an end, the entry at an end is taken.
use mathlib.Core.{Bool.{false, true}, List.List, Logic.◌≢◌, Path.{◌∙◌, ◌≡◌, ap, refl, subst, sym}}
use Prim.Native.Nat.{◌<◌, suc, ℕ}
use Rattle.model.specs.declared.Entry.{Entry}
use Rattle.model.proofs.{Tests.Truth.by_test, Lists.{Deque.{put, took}, Slots.slots}}
use Rattle.model.proofs.Machine.Book.{BookCall, effect}
use Rattle.model.proofs.Machine.Laws.{aimed_near, aimed_tag, aimed_way, later, same_true}
use Rattle.model.proofs.Machine.Machine.{Anchor, Kind, Rec, Shared, aimed, at11, at4, finishes, four, goes, pop}
use Rattle.model.proofs.Machine.Machine.{inner, push, pushing, put_anchor, running, runs, same, stable, tip}
use Rattle.model.proofs.Invariant.{Owners.{Owner, Intact}, Shape.Shape, Tasks.{Four, Own, Task, Three}}
use Rattle.model.proofs.Chain.{Changes.{inner_apart, pop_shape, push_shape}, Ends.{both_null, ends_real}}
use Rattle.model.proofs.Places.{Effects.aimed_effect, Place1.place1, Owned.queued_held, Shown.{Shown, read_now}}
use Rattle.model.proofs.Places.Taking.{end_entry, not_in, pop_good, push_good, put-bare}

module _ (t : ℕ) (s : Shared) (h : ℕ → Owner) (q : List Entry) (c : BookCall) (all : Intact s h q) (r : Rec) where
  pub place4 : (k : Kind) → r.kind ≡ k → Task at4 s h t r c → Shown t s h q c (four k s r)
  place4 push k w = by_test (Shown t s h q c) (same r.read s.anchor) ok (λ e. place1 t s h q c all r push k (w.0.unfinished, w.0.before))
    where
      a : Anchor
      a = aimed r.read r.side r.own (pushing r.side)

      ok : same r.read s.anchor ≡ true → Shown t s h q c (runs (put_anchor a) (finishes r a))
      ok z =
          let p = same_true r.read s.anchor z in
          let o = subst (λ z. Own z s.label h t r.own r.label) k w.0.before.own in
          let g = subst (λ (b : Anchor). (b.status ≡ stable) × (b.left ≢ 0)) p (subst (λ z. Three z r.read) k w.1) in
          let f = subst (λ z. Four z s r.side r.own r.read r.near) k w.2 in
          let ne : tip s.anchor r.side ≢ 0 = λ e. g.1 (both_null s.link s.anchor (slots q) all.shape r.side false e) in
          push_good all r (runs (put_anchor a) (finishes r a)) k w.0.before
          (subst (λ b. effect s.anchor (aimed b r.side r.own (pushing r.side)) running ≡ true) (sym p)
          (aimed_effect s.anchor r.side r.own (pushing r.side) running
          (λ e. queued_held (sym (end_entry all r.side r.own e o.0).1 ∙ o.1))))
          refl a refl (aimed_near r.read r.side r.own (pushing r.side))
          (subst (λ n. s.anchor.tag < n) (sym (aimed_tag r.read r.side r.own (pushing r.side)))
          (later r.read s.anchor p)) g.0
          (subst (λ b. Shape s.link (aimed b r.side r.own (pushing r.side)) (put r.side r.own (slots q))) (sym p)
          (push_shape s.link s.anchor (slots q) all.shape r.side r.own g.0 ne o.0 (not_in all o.1)
          (f ∙ ap (λ (b : Anchor). tip b r.side) p)))
          (record {
            stage = (record { once = ap suc w.0.before.none; told = refl }, put-bare h t r.own o.3);
            read = read_now a;
            status = aimed_way r.read r.side r.own;
          }) refl
  place4 pop k w = by_test (Shown t s h q c) (same r.read s.anchor) ok (λ e. place1 t s h q c all r pop k (w.0.unfinished, w.0.before))
    where
      a : Anchor
      a = aimed r.read r.side r.near r.read.status

      ok : same r.read s.anchor ≡ true → Shown t s h q c (runs (put_anchor a) (goes r at11))
      ok z =
          let p = same_true r.read s.anchor z in
          let g = subst (λ (b : Anchor). (b.status ≡ stable) × (b.left ≢ b.right)) p (subst (λ z. Three z r.read) k w.1) in
          let f = subst (λ z. Four z s r.side r.own r.read r.near) k w.2 p in
          let f' = ap (λ (b : Anchor). inner s r.side (tip b r.side)) (sym p) ∙ f in
          pop_good all r a k w.0.before p
          (subst (λ b. effect s.anchor (aimed b r.side r.near b.status) running ≡ true) (sym p)
          (aimed_effect s.anchor r.side r.near s.anchor.status running
          (λ e. inner_apart s.link s.anchor (slots q) all.shape r.side g.0 g.1 (f' ∙ e))))
          (subst (λ n. s.anchor.tag < n) (sym (aimed_tag r.read r.side r.near r.read.status)) (later r.read s.anchor p)) g.0
          (ends_real s.link s.anchor (slots q) all.shape g.1 r.side)
          (subst (λ b. Shape s.link (aimed b r.side r.near b.status) (took r.side (slots q))) (sym p)
          (pop_shape s.link s.anchor (slots q) all.shape r.side r.near g.0 g.1 f'))
