-- A step of one task keeps what holds of another's record. (Lines 5 to 13 and 18 to 20 survive; at 9 by `outrun`.)
use mathlib.Core.{Bool.{Bool, false, not, true}, List.List, Logic.{◌⊎◌, inl, inr}, Path.{◌∙◌, ◌≡◌, ap, subst, sym}}
use Prim.Native.Nat.{◌<◌, ℕ}
use native.Mathlib.Omega.{arith}
use Rattle.model.specs.declared.Entry.{Entry}
use Rattle.model.proofs.{Lists.Slots.slots, Invariant.Rely.{Faces, Quiet, Rely, Turned}, Chain.Links.inner_in}
use Rattle.model.proofs.Invariant.{Shape.Made, Tasks.Tries, Owners.{Owner, Intact, held, queued}}
use Rattle.model.proofs.Invariant.Tasks.{way, Bare, Before, Drawing, At8, Four, Fourteenth, Fresh, Giving, Grown}
use Rattle.model.proofs.Invariant.Tasks.{At9, Helps, Live, Near, Other, Own, Read, Stage, Task, At13, Three}
use Rattle.model.proofs.Machine.{Book.BookCall, Machine.{at15, at16, at17, at2, at3, at4, at5, at6, at7, at8}}
use Rattle.model.proofs.Machine.Machine.{at9, draw, give, idle, inner, pop, push, pushing, tip, Anchor, Draw}
use Rattle.model.proofs.Machine.Machine.{Give, Kind, Link, Place, Rec, Shared, at1, at10, at11, at12, at13, at14}

module _ (u : ℕ) (s : Shared) (h : ℕ → Owner) (s' : Shared) (h' : ℕ → Owner) (y : Rely u s h s' h') where
  keep_bare : Bare h u → Bare h' u
  keep_bare b z e = b z (y.back z e)

  keep_own : (k : Kind) (x l : ℕ) → Own k s.label h u x l → Own k s'.label h' u x l
  keep_own push x l o = (o.0, (y.spared x o.1).owner, (y.spared x o.1).label ∙ o.2, λ z e. o.3 z (y.back z e))
  keep_own pop x l o = keep_bare o

  keep_before : {k : Kind} {d : Bool} {x l : ℕ} {c : BookCall} → Before s.label h u k d x l c → Before s'.label h' u k d x l c
  keep_before {k} {x = x} {l} b = record { agrees = b.agrees; none = b.none; own = keep_own k x l b.own }

  keep_stage : (f : Bool) (k : Kind) (d : Bool) (x l : ℕ) (c : BookCall) → Stage f s.label h u k d x l c → Stage f s'.label h' u k d x l c
  keep_stage false k d x l c b = keep_before b
  keep_stage true k d x l c b = (b.0, keep_bare b.1)

  module _ (a : Anchor) where
    -- An Anchor that is read and stands now stood before, and nothing happened to it.
    quiet : Read s.anchor a → a ≡ s'.anchor → (a ≡ s.anchor) × Quiet s s'
    quiet v e = go y.anchor
      where
        go : Quiet s s' ⊎ Turned s s' → (a ≡ s.anchor) × Quiet s s'
        go (inl q) = (e ∙ q.kept, q)
        go (inr q) = absurd (omega (arith, v.past, q.later, ap (λ (a : Anchor). a.tag) e))

    keep_read : Read s.anchor a → Read s'.anchor a
    keep_read v = go y.anchor
      where
        go : Quiet s s' ⊎ Turned s s' → Read s'.anchor a
        go (inl q) = let e = ap (λ (a : Anchor). a.tag) q.kept in
            record { past = omega (arith, v.past); present = λ p. v.present (p ∙ e) ∙ sym q.kept }
        go (inr q) = record { past = omega (arith, v.past, q.later); present = λ p. absurd (omega (arith, v.past, q.later)) }

    keep_tries : {f : Bool} {k : Kind} {d : Bool} {x l : ℕ} {c : BookCall} → Tries s.label s.anchor h u f k d x l a c
        → Tries s'.label s'.anchor h' u f k d x l a c
    keep_tries w = record { unfinished = w.unfinished; before = keep_before w.before; read = keep_read w.read }

    keep_helps : {f : Bool} {k : Kind} {d : Bool} {x l : ℕ} {c : BookCall} → Helps s.label s.anchor h u f k d x l a c
        → Helps s'.label s'.anchor h' u f k d x l a c
    keep_helps {f} {k} {d} {x} {l} {c} w = record { stage = keep_stage f k d x l c w.stage; read = keep_read w.read; status = w.status }

    -- The inward link of an end that Anchor's status does not turn away from.
    inward : Quiet s s' → (e : Bool) → a ≡ s.anchor → Faces a.status e → inner s' e (tip a e) ≡ inner s e (tip a e)
    inward q e p f =
        ap (λ (w : Link). w.slot) (subst (λ (b : Anchor). Faces b.status e → s'.link (not e) (tip b e) ≡ s.link (not e) (tip b e)) (sym p)
        (q.inward e) f)

    keep_four : (k : Kind) (d : Bool) (x l n : ℕ) → Read s.anchor a → Three k a → Own k s.label h u x l → Four k s d x a n → Four k s' d x a n
    keep_four push d x l n v w o f = ap (λ (w : Link). w.slot) ((y.spared x o.1).links (not d)) ∙ f
    keep_four pop d x l n v w o f = λ e. let q = quiet v e in inward q.1 d q.0 (inl w.0) ∙ f q.0

    keep_made : Read s.anchor a → a.status ≡ pushing (way a) → (a ≡ s.anchor → Made s.link a (way a)) → a ≡ s'.anchor
        → Made s'.link a (way a)
    keep_made v st f e =
        let q = quiet v e in
        subst (λ (b : Anchor). b.status ≡ pushing (way a) → Made s.link b (way a) → Made s'.link b (way a)) (sym q.0)
        (q.1.made (way a)) st (f q.0)

    module _ (q : List Entry) (all : Intact s h q) (n : ℕ) where
      near_queued : a ≡ s.anchor → a.status ≡ pushing (way a) → Near s a n → h n ≡ queued
      near_queued p st e =
          let i = inner_in s.link s.anchor (slots q) all.shape (way a) (λ x. h x ≡ queued)
          (ap (λ (b : Anchor). b.status) (sym p) ∙ st) all.owned in
          let j = subst (λ (b : Anchor). h (inner s (way a) (tip b (way a))) ≡ queued) (sym p) i in
          rw e at j

      keep_near : Read s.anchor a → a.status ≡ pushing (way a) → (a ≡ s.anchor → Near s a n) → a ≡ s'.anchor → Near s' a n
      keep_near v st f e = let q = quiet v e in inward q.1 (way a) q.0 (inr st) ∙ f q.0

      module _ (w : Link) where
        keep_grown : Grown s a n w → Grown s' a n w
        keep_grown g = omega (arith, y.tags (way a) n)

        keep_fresh : h n ≡ queued → Fresh s a n w → Fresh s' a n w
        keep_fresh m (inr g) = inr (keep_grown g)
        keep_fresh m (inl e) = go (y.words (way a) n m)
          where
            go : (s'.link (way a) n ≡ s.link (way a) n) ⊎ ((s.link (way a) n).tag < (s'.link (way a) n).tag) → Fresh s' a n w
            go (inl f) = inl (e ∙ sym f)
            go (inr g) = inr (omega (arith, ap (λ (w : Link). w.tag) e))

        keep_at8 : Read s.anchor a → a.status ≡ pushing (way a) → At8 s a n w → At8 s' a n w
        keep_at8 v st z =
            record {
              other = z.other;
              near = keep_near v st z.near;
              fresh = λ e. let p = (quiet v e).0 in keep_fresh (near_queued p st (z.near p)) (z.fresh p);
            }

        -- Once Anchor has changed the link back was made, so the link as read is no longer there.
        outrun : Turned s s' → Other a w → Live s a n w → a.status ≡ pushing (way a) → Grown s' a n w
        outrun z o v st = go v.fresh
          where
            made : Made s.link a (way a)
            made = subst (λ (b : Anchor). Made s.link b (way a)) (sym v.current)
                (z.closed (way a) (ap (λ (b : Anchor). b.status) (sym v.current) ∙ st))

            named : (s.link (way a) n).slot ≡ tip a (way a)
            named = rw v.near at made

            go : Fresh s a n w → Grown s' a n w
            go (inl e) = absurd (o (ap (λ (w : Link). w.slot) e ∙ named))
            go (inr g) = keep_grown g

        keep_at9 : a.status ≡ pushing (way a) → At9 s a n w → At9 s' a n w
        keep_at9 st v = record { other = v.other; chance = go v.chance y.anchor }
          where
            go : Live s a n w ⊎ Grown s a n w → Quiet s s' ⊎ Turned s s' → Live s' a n w ⊎ Grown s' a n w
            go (inr g) z = inr (keep_grown g)
            go (inl l) (inl z) =
                inl (record {
                  current = l.current ∙ sym z.kept;
                  near = inward z (way a) l.current (inr st) ∙ l.near;
                  fresh = keep_fresh (near_queued l.current st l.near) l.fresh;
                })
            go (inl l) (inr z) = inr (outrun z v.other l st)

  -- A head as read that is the head was it before; one that is past stays past.
  keep_at13 : (a : Link) → At13 s.head a → At13 s'.head a
  keep_at13 a w = go w y.stack.head
    where
      go : At13 s.head a → ((s'.head ≡ s.head) × (s'.next s.head.slot ≡ s.next s.head.slot)) ⊎ (s.head.tag < s'.head.tag)
          → At13 s'.head a
      go (inl e) (inl k) = inl (e ∙ sym k.0)
      go (inl e) (inr l) = inr (omega (arith, ap (λ (w : Link). w.tag) e))
      go (inr g) (inl k) = inr (omega (arith, ap (λ (w : Link). w.tag) k.0))
      go (inr g) (inr l) = inr (omega arith)

  keep_fourteenth : (a : Link) (n : ℕ) → Fourteenth s.next s.head a n → Fourteenth s'.next s'.head a n
  keep_fourteenth a n w = go w y.stack.head
    where
      go : Fourteenth s.next s.head a n
          → ((s'.head ≡ s.head) × (s'.next s.head.slot ≡ s.next s.head.slot)) ⊎ (s.head.tag < s'.head.tag)
          → Fourteenth s'.next s'.head a n
      go (inl e) (inl k) = inl (
        e.0 ∙ sym k.0,
        ap (λ (w : Link). s'.next w.slot) e.0 ∙ k.1
            ∙ ap (λ (w : Link). s.next w.slot) (sym e.0) ∙ e.1,
      )
      go (inl e) (inr l) = inr (omega (arith, ap (λ (w : Link). w.tag) e.0))
      go (inr g) (inl k) = inr (omega (arith, ap (λ (w : Link). w.tag) k.0))
      go (inr g) (inr l) = inr (omega arith)

  keep_drawing : (p : Draw) (r : Rec) → Drawing p s r → Drawing p s' r
  keep_drawing at12 r w = tt
  keep_drawing at13 r w = (w.0, keep_at13 r.link w.1)
  keep_drawing at14 r w = (w.0, keep_fourteenth r.link r.near w.1)

  keep_giving : (p : Give) (r : Rec) → h r.own ≡ held u → Giving p s r → Giving p s' r
  keep_giving at15 r e w = tt
  keep_giving at16 r e w = tt
  keep_giving at17 r e w = (y.spared r.own e).next ∙ w

  pub keep : (q : List Entry) → Intact s h q → (p : Place) (r : Rec) (c : BookCall) → Task p s h u r c → Task p s' h' u r c
  keep q all idle r c w = (w.0, keep_bare w.1)
  keep q all at1 r c w = (w.0, keep_before w.1)
  keep q all at2 r c w = (keep_tries r.read w.0, w.1)
  keep q all at3 r c w = (keep_tries r.read w.0, w.1)
  keep q all at4 r c w = (
    keep_tries r.read w.0,
    w.1,
    keep_four r.read r.kind r.side r.own r.label r.near w.0.read w.1 w.0.before.own w.2,
  )
  keep q all at5 r c w = keep_helps r.read w
  keep q all at6 r c w = (keep_helps r.read w.0, keep_near r.read q all r.near w.0.read w.0.status w.1)
  keep q all at7 r c w = (keep_helps r.read w.0, keep_near r.read q all r.near w.0.read w.0.status w.1)
  keep q all at8 r c w = (keep_helps r.read w.0, keep_at8 r.read q all r.near r.link w.0.read w.0.status w.1)
  keep q all at9 r c w = (keep_helps r.read w.0, keep_at9 r.read q all r.near r.link w.0.status w.1)
  keep q all at10 r c w = (keep_helps r.read w.0, keep_made r.read w.0.read w.0.status w.1)
  keep q all at11 r c w =
      let z = y.spared (tip r.read r.side) w.holds in
      record {
        after = record { once = w.after.once; told = rw z.label w.after.told };
        holds = z.owner;
        sole = λ x e. w.sole x (y.back x e);
      }
  keep q all (draw p) r c w = (
    y.stack.pooled ∙ w.0,
    record {
      unfinished = w.1.unfinished;
      kind = w.1.kind;
      agrees = w.1.agrees;
      none = w.1.none;
      bare = keep_bare w.1.bare;
    },
    keep_drawing p r w.2,
  )
  keep q all (give p) r c w =
      let z = y.spared r.own w.1.holds in (
        y.stack.pooled ∙ w.0,
        record { after = w.1.after; holds = z.owner; sole = λ x e. w.1.sole x (y.back x e) },
        keep_giving p r w.1.holds w.2,
      )
