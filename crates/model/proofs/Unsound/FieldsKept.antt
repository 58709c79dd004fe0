-- What else holds of a record is kept by its own step; others' records keep it unchanged.
use mathlib.Core.{Bool.{Bool, false, true}, List.List, Logic.{◌≢◌, ◌⊎◌, inl, inr}}
use mathlib.Core.Path.{◌∙◌, ◌≡◌, ap, refl, subst, sym}
use Prim.Native.Nat.{ℕ}
use Rattle.model.specs.declared.Entry.{Entry}
use Rattle.model.proofs.{Tests.Truth.not_both, Lists.Slots.slots, Chain.{Ends.ends_real, Links.inner_in}}
use Rattle.model.proofs.{Machine.{Book.BookCall, Laws.same_true, ByStep.by_step}, Places.Owned.push_pop}
use Rattle.model.proofs.Machine.Machine.{Anchor, Link, Move, Phase, Place, Rec, Shared, act, at6, beside, inner}
use Rattle.model.proofs.Machine.Machine.{fetching, inside, is_idle, leaving, outside, phase, pop, pushing, same}
use Rattle.model.proofs.Machine.Machine.{reaches, returning, takes, tip}
use Rattle.model.proofs.Invariant.{Fields.{Extra, Kept}, Owners.{Owner, Intact}, Tasks.{Task, Three, Two, way}}

pub record Extras (m : Move) : Type 0 where
  pub extra : Extra m.rec.place m.rec

both_tip : (a : Anchor) (d : Bool) → a.left ≡ a.right → a.left ≢ 0 → tip a d ≢ 0
both_tip a false e n z = n z
both_tip a true e n z = n (e ∙ z)

module _ (t : ℕ) (s : Shared) (h : ℕ → Owner) (q : List Entry) (c : BookCall) (w : Intact s h q) (r : Rec) where
  abbrev Stands : Place → Type 0
  Stands p = (is_idle p ≡ false) × Task p s h t r c × Extra p r

  -- To a place with no neighbour.
  kept : {p : Place} {r : Rec} → beside p ≡ false → Kept (phase p) r → Extra p r
  kept e k = record { kept = k; near = λ z. absurd (not_both z e) }

  on : (q : Place) (a : Anchor) (n : ℕ) (v : Link) (f : Phase) → takes f ≡ false → Kept f r → Kept f (reaches r q a n v)
  on q a n v outside e k = tt
  on q a n v inside e k = k
  on q a n v leaving e k = absurd (not_both refl e)
  on q a n v fetching e k = k
  on q a n v returning e k = k

  -- At 6 the neighbour as read is a slot, where Anchor is as read.
  near6 : Task at6 s h t r c → same r.read s.anchor ≡ true → r.near ≢ 0
  near6 y e =
      let p = same_true r.read s.anchor e in
      let st : s.anchor.status ≡ pushing (way r.read) = ap (λ (b : Anchor). b.status) (sym p) ∙ y.0.status in
      subst (λ n. n ≢ 0) (ap (λ (b : Anchor). inner s (way r.read) (tip b (way r.read))) (sym p) ∙ y.1 p)
      (inner_in s.link s.anchor (slots q) w.shape (way r.read) (λ n. n ≢ 0) st w.shape.real)

  nears : (p : Place) → Stands p → (beside p ≡ true) ⊎ ((p ≡ at6) × (same r.read s.anchor ≡ true)) → r.near ≢ 0
  nears p z (inl b) = z.2.near b
  nears p z (inr e) = near6 (subst (λ p. Task p s h t r c) e.0 z.1) e.1

  -- The end that a pop takes at 4.
  end4 : Three pop r.read → same r.read s.anchor ≡ true → tip r.read r.side ≢ 0
  end4 y e =
      let p = same_true r.read s.anchor e in
      subst (λ (a : Anchor). tip a r.side ≢ 0) (sym p)
      (ends_real s.link s.anchor (slots q) w.shape (subst (λ (a : Anchor). a.left ≢ a.right) p y.1) r.side)

  pub act_extra : (p : Place) → is_idle p ≡ false → Task p s h t r c → Extra p r → Extras (act p s r)
  act_extra p i y o = record {
    extra = by_step s r Stands (λ m. Extra m.rec.place m.rec) (record {
      still = λ z. absurd (not_both refl z.0);
      quiet = λ p q a n w z e f g. record {
        kept = subst (λ f. Kept f (reaches r q a n w)) (sym e) (on q a n w (phase p) f z.2.kept);
        near = λ b. subst (λ n. n ≢ 0) (sym (g b).0) (nears p z (g b).1);
      };
      empty = λ _ _ _ _. kept refl tt;
      helped = λ _ _ _ _. kept refl tt;
      two_push = λ _ _ _. kept refl tt;
      two_pop = λ z k _. let v = subst (λ k. Two k r.read) k z.1.1 in
          kept refl (k, z.1.0.unfinished, both_tip r.read r.side v.0 v.1, z.2.kept.2 k);
      three = λ z _. kept refl z.2.kept;
      four_push = λ z k _. kept refl (λ _. k, z.2.kept.1, z.2.kept.2);
      four_pop = λ z k e. kept refl (k, z.1.0.unfinished, end4 (subst (λ k. Three k r.read) k z.1.1) e, z.2.kept.2 k);
      nine = λ z _. kept refl z.2.kept;
      ten = λ z _ _. kept refl z.2.kept;
      ten_last = λ _ _ _. kept refl tt;
      eleven = λ _. kept refl tt;
      keeps = λ z. kept refl (z.2.kept.0, z.2.kept.1, z.2.kept.2);
      lacks = λ _ _. kept refl tt;
      draws = λ z _. kept refl (λ _. z.1.1.kind, λ _. z.1.2.0, λ e. absurd (push_pop (sym z.1.1.kind ∙ e)));
      links = λ z. kept refl z.2.kept;
      gives = λ _ _. kept refl tt;
    }) p (i, y, o);
  }
