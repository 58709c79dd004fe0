-- Place 9: the link back is made. A stale task fails, since the link's tag has grown.
use mathlib.Core.{Bool.{Bool, not}, List.List, Logic.{◌≢◌, ◌⊎◌, inl, inr}, Path.{◌∙◌, ◌≡◌, ap, refl, subst, sym}}
use Prim.Native.Nat.{◌<◌, suc, ℕ}
use native.Mathlib.Omega.{arith}
use Rattle.model.specs.declared.Entry.{Entry}
use Rattle.model.proofs.{Tests.Truth.by_test, Lists.Slots.slots, Invariant.Tasks.{Live, Task, way}}
use Rattle.model.proofs.Machine.{Book.BookCall, Laws.stable_pushing, LinkTags.{grows_le, relink_grows}}
use Rattle.model.proofs.Machine.Laws.{relink_across, relink_other, relink_same, same-side, same_link_true}
use Rattle.model.proofs.Machine.Machine.{Anchor, Link, Rec, Shared, act, at10, at9, goes, inner, pushing, relink}
use Rattle.model.proofs.Machine.Machine.{put_link, running, runs, same_link, stable, tip, with_link}
use Rattle.model.proofs.Invariant.{Owners.{Owner, Intact, queued}, Rely.Rely, Shape.Made}
use Rattle.model.proofs.{Chain.Links.{back_shape, inner_in}, Places.Shown.{Shown, plain, stack_same}}
use Rattle.model.proofs.Places.{Effects.no-effect, Marking.marked-kept, Owned.queued_held, Places5to8.away}

module _ (t : ℕ) (s : Shared) (h : ℕ → Owner) (q : List Entry) (c : BookCall) (all : Intact s h q) (r : Rec) where
  module _ (e : Bool) (st : s.anchor.status ≡ pushing e) (v : Link) (names : v.slot ≡ tip s.anchor e) where
    abbrev back_at : ℕ
    back_at = (s.link (not e) (tip s.anchor e)).slot

    back_queued : h back_at ≡ queued
    back_queued = inner_in s.link s.anchor (slots q) all.shape e (λ z. h z ≡ queued) st all.owned

    pub back-made : Made (relink s.link e back_at v) s.anchor e
    back-made = ap (λ (w : Link). (relink s.link e back_at v e w.slot).slot) (relink_across s.link e back_at v (tip s.anchor e))
        ∙ ap (λ (w : Link). w.slot) (relink_same s.link e back_at v) ∙ names

    back_whole : Intact (with_link s e back_at v) h q
    back_whole = record {
      shape = back_shape s.link s.anchor (slots q) all.shape e v st names;
      owned = all.owned;
      listed = all.listed;
      labels = all.labels;
      bounds = all.bounds;
      spare = all.spare;
    }

    back_rely : (s.link e back_at).tag < v.tag → (u : ℕ) → u ≢ t → Rely u s h (with_link s e back_at v) h
    back_rely lt u n = record {
      spared = λ y g. record {
        owner = g;
        label = refl;
        links = λ b. relink_other s.link e back_at v b y (λ z. queued_held (sym back_queued ∙ sym (ap h z) ∙ g));
        next = refl;
      };
      back = λ y g. g;
      tags = λ b y. grows_le (relink_grows s.link e back_at v lt b y);
      words = λ b y p. relink_grows s.link e back_at v lt b y;
      anchor = inl (record {
        kept = refl;
        inward = λ b f. facing b f;
        made = λ b st' m. subst (λ f. Made (relink s.link e back_at v) s.anchor f) (same-side (sym st ∙ st')) back-made;
      });
      stack = stack_same refl refl refl;
    }
      where
        facing : (b : Bool) → (s.anchor.status ≡ stable) ⊎ (s.anchor.status ≡ pushing b)
            → relink s.link e back_at v (not b) (tip s.anchor b) ≡ s.link (not b) (tip s.anchor b)
        facing b (inl z) = absurd (stable_pushing (sym z ∙ st))
        facing b (inr z) = subst (λ f. relink s.link e back_at v (not f) (tip s.anchor f) ≡ s.link (not f) (tip s.anchor f))
            (same-side (sym st ∙ z))
            (relink_across s.link e back_at v (tip s.anchor e))

  pub place9 : Task at9 s h t r c → Shown t s h q c (act at9 s r)
  place9 w = by_test (Shown t s h q c) (same_link r.link (s.link (way r.read) r.near)) (λ z. ok (same_link_true _ _ z) w.1.chance)
      (λ z. away t s h q c all r w.0)
    where
      e : Bool
      e = way r.read

      v : Link
      v = record { tag = suc r.link.tag; slot = tip r.read e }

      ok : r.link ≡ s.link e r.near → Live s r.read r.near r.link ⊎ (r.link.tag < (s.link e r.near).tag)
          → Shown t s h q c (runs (put_link e r.near v) (goes r at10))
      ok z (inr g) = let f = ap (λ (w : Link). w.tag) z in absurd (omega arith)
      ok z (inl l) =
          let p = l.current in
          let st : s.anchor.status ≡ pushing e = ap (λ (b : Anchor). b.status) (sym p) ∙ w.0.status in
          let names : v.slot ≡ tip s.anchor e = ap (λ (b : Anchor). tip b e) p in
          let x = (s.link (not e) (tip s.anchor e)).slot in
          let n : x ≡ r.near = ap (λ (b : Anchor). inner s e (tip b e)) (sym p) ∙ l.near in
          let lt : (s.link e x).tag < suc r.link.tag = subst (λ y. (s.link e y).tag < suc r.link.tag) (sym n)
          (let f = ap (λ (w : Link). w.tag) z in omega arith) in
          subst (λ y. Shown t s h q c (runs (put_link e y v) (goes r at10))) n
          (plain (runs (put_link e x v) (goes r at10)) h (no-effect s.anchor s.anchor running refl refl refl)
          (back_whole e st v names) (back_rely e st v names lt)
          (w.0, λ _. subst (λ (b : Anchor). Made (relink s.link e x v) b e) (sym p) (back-made e st v names))
          (marked-kept (runs (put_link e x v) (goes r at10)) refl (λ x. refl)))
