-- Place 3: a push links its own slot, which is in no queue; a pop reads a neighbour.
use mathlib.Core.{Bool.{Bool, not}, List.List, Logic.{◌≢◌, inl}, Path.{◌∙◌, ◌≡◌, ap, refl, subst, sym}}
use Prim.Native.Nat.{ℕ}
use native.Mathlib.Omega.{arith}
use Rattle.model.specs.declared.Entry.{Entry}
use Rattle.model.proofs.Lists.{All.{all_front, all_map, all_seen}, Deque.seen, Slots.slots}
use Rattle.model.proofs.Machine.{Book.BookCall, LinkTags.relink_keeps, Laws.{relink_other, relink_same}}
use Rattle.model.proofs.Machine.Machine.{Kind, Link, Rec, Shared, at3, inner, own_link, pop, push, relink, three}
use Rattle.model.proofs.{Machine.Machine.{running, tip, with_link}, Chain.Links.{frame_shape, inner_in}}
use Rattle.model.proofs.Invariant.{Owners.{Owner, Intact, held, queued}, Rely.Rely, Tasks.{Four, Own, Task}}
use Rattle.model.proofs.Places.{Effects.no-effect, Marking.marked-kept, Owned.{held_inj, queued_held}}
use Rattle.model.proofs.Places.Shown.{Shown, plain, stack_same, still}

module _ (t : ℕ) (s : Shared) (h : ℕ → Owner) (q : List Entry) (c : BookCall) (all : Intact s h q) (r : Rec) where
  module _ (x : ℕ) (o : (x ≢ 0) × (h x ≡ held t)) (d : Bool) (v : Link) (g : v.tag ≡ (s.link d x).tag) where
    not_own : (y : ℕ) → h y ≡ queued → y ≢ x
    not_own y e z = queued_held (sym e ∙ ap h z ∙ o.1)

    own_tip : (e : Bool) → tip s.anchor e ≢ x
    own_tip e = subst (λ z. z ≢ x) (sym (all.shape.tips e)) (all_front (λ z. z ≢ x) (seen e (slots q)) 0
        (all_seen (λ z. z ≢ x) e (slots q) (all_map (λ z. h z ≡ queued) (λ z. z ≢ x) not_own (slots q) all.owned)) (λ z. o.0 (sym z)))

    own_whole : Intact (with_link s d x v) h q
    own_whole = record {
      shape = frame_shape s.link s.anchor (slots q) all.shape d (relink s.link d x v)
          (all_map (λ y. h y ≡ queued) _ (λ y n e. relink_other s.link d x v e y (not_own y n)) (slots q) all.owned);
      owned = all.owned;
      listed = all.listed;
      labels = all.labels;
      bounds = all.bounds;
      spare = all.spare;
    }

    pub own_rely : (u : ℕ) → u ≢ t → Rely u s h (with_link s d x v) h
    own_rely u n = record {
      spared = λ y e. record {
        owner = e;
        label = refl;
        links = λ b. relink_other s.link d x v b y (λ z. n (held_inj (sym e ∙ ap h z ∙ o.1)));
        next = refl;
      };
      back = λ y e. e;
      tags = λ e y. let z = relink_keeps s.link d x v g e y in omega arith;
      words = λ e y p. inl (relink_other s.link d x v e y (not_own y p));
      anchor = inl (record {
        kept = refl;
        inward = λ e f. relink_other s.link d x v (not e) (tip s.anchor e) (own_tip e);
        made = λ e st m.
            ap (λ (w : Link). (relink s.link d x v e w.slot).slot) (relink_other s.link d x v (not e) (tip s.anchor e) (own_tip e))
            ∙ ap (λ (w : Link). w.slot) (relink_other s.link d x v e (s.link (not e) (tip s.anchor e)).slot
            (not_own _ (inner_in s.link s.anchor (slots q) all.shape e (λ z. h z ≡ queued) st all.owned))) ∙ m;
      });
      stack = stack_same refl refl refl;
    }

  pub place3 : (k : Kind) → r.kind ≡ k → Task at3 s h t r c → Shown t s h q c (three k s r)
  place3 push k w =
      let o = subst (λ z. Own z s.label h t r.own r.label) k w.0.before.own in
      let v = own_link s r in
      let kept : v.tag ≡ (s.link (not r.side) r.own).tag = refl in
      plain (three push s r) h (no-effect s.anchor s.anchor running refl refl refl)
      (own_whole r.own (o.0, o.1) (not r.side) v kept) (own_rely r.own (o.0, o.1) (not r.side) v kept) (
        w.0,
        w.1,
        subst (λ z. Four z (with_link s (not r.side) r.own v) r.side r.own r.read r.near) (sym k)
            (ap (λ (w : Link). w.slot) (relink_same s.link (not r.side) r.own v)),
      ) (marked-kept (three push s r) refl (λ x. refl))
  place3 pop k w = still refl all (
    w.0,
    w.1,
    subst (λ z. Four z s r.side r.own r.read (inner s r.side (tip r.read r.side))) (sym k) (λ e. refl),
  )
