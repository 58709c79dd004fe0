-- A link's tag is at most Anchor's, so it never passes 32 bits first.
use mathlib.Core.{Bool.{Bool, false, not, true}, List.List, Logic.{◌≢◌, ◌⊎◌, inl, inr}}
use mathlib.Core.Path.{◌∙◌, ◌≡◌, ap, refl, subst, sym}
use Prim.Native.Nat.{◌<◌, ◌≤◌, suc, ℕ}
use native.Mathlib.Omega.{arith}
use Rattle.model.specs.declared.Entry.{Entry}
use Rattle.model.proofs.{Tests.Truth.decide_eq, Lists.{All.all_map, Slots.slots}, Chain.Links.inner_in}
use Rattle.model.proofs.Machine.{Book.BookCall, LinkTags.relink_keeps, ByStep.by_step, Laws.same_link_true}
use Rattle.model.proofs.Machine.Laws.{later, relink_across, relink_other, relink_same, same-side, same_true}
use Rattle.model.proofs.Machine.Machine.{Anchor, Kind, Link, Move, Place, Rec, Shared, Status, act, aimed, apply}
use Rattle.model.proofs.Machine.Machine.{at9, both, inner, own_link, push, pushing, relink, same, settled, tip}
use Rattle.model.proofs.Machine.Machine.{with_anchor, with_link}
use Rattle.model.proofs.Invariant.{Owners.{Owner, Intact, held, queued}, Rely.{Quiet, Turned}, Shape.Made}
use Rattle.model.proofs.Invariant.{Tags.Tags, Tasks.{Live, Own, Task, way}}
use Rattle.model.proofs.Places.{Owned.queued_free, Place3.own_rely, Place9.back-made}

pub record Tagged (s : Shared) (m : Move) : Type 0 where
  pub tagged : Tags (apply s m.touch)

relink_upper : (k : Bool → ℕ → Link) (d : Bool) (x : ℕ) (v : Link) (b n : ℕ) → ((e : Bool) (y : ℕ) → y ≤ n → (k e y).tag ≤ b) → v.tag ≤ b
    → (e : Bool) (y : ℕ) → y ≤ n → (relink k d x v e y).tag ≤ b
relink_upper k d x v b n f g e y h = go (decide_eq y x)
  where
    at_slot : x ≤ n → (d e : Bool) → (relink k d x v e x).tag ≤ b
    at_slot h false false = subst (λ (w : Link). w.tag ≤ b) (sym (relink_same k false x v)) g
    at_slot h false true = subst (λ (w : Link). w.tag ≤ b) (sym (relink_across k false x v x)) (f true x h)
    at_slot h true false = subst (λ (w : Link). w.tag ≤ b) (sym (relink_across k true x v x)) (f false x h)
    at_slot h true true = subst (λ (w : Link). w.tag ≤ b) (sym (relink_same k true x v)) g

    go : (y ≡ x) ⊎ (y ≢ x) → (relink k d x v e y).tag ≤ b
    go (inl z) = subst (λ y. (relink k d x v e y).tag ≤ b) (sym z) (at_slot (omega arith) d e)
    go (inr z) = subst (λ (w : Link). w.tag ≤ b) (sym (relink_other k d x v e y z)) (f e y h)

module _ (s : Shared) (g : Tags s) where
  -- A change of Anchor makes room at once.
  turned : (a : Anchor) → s.anchor.tag < a.tag → Tags (with_anchor s a)
  turned a h = record { upper = λ e y l. omega (arith, g.upper e y l); room = λ e st. inr (λ y l. omega (arith, g.upper e y l)) }

  aimed_tags : (a : Anchor) (d : Bool) (x : ℕ) (st : Status) → a ≡ s.anchor → Tags (with_anchor s (aimed a d x st))
  aimed_tags a false x st p = turned (aimed a false x st) (later a s.anchor p)
  aimed_tags a true x st p = turned (aimed a true x st) (later a s.anchor p)

  module _ (h : ℕ → Owner) (t : ℕ) (r : Rec) (c : BookCall) (q : List Entry) (all : Intact s h q) where
    own_tags : (x : ℕ) → (x ≢ 0) × (h x ≡ held t) → (d : Bool) (v : Link) → v.tag ≡ (s.link d x).tag → Tags (with_link s d x v)
    own_tags x o d v e = record {
      upper = λ b y l. let z = relink_keeps s.link d x v e b y in omega (arith, g.upper b y l);
      room = λ b st. go b st (g.room b st) (own_rely t s h q c all r x o d v e (suc t) (λ z. absurd (omega arith))).anchor;
    }
      where
        go : (b : Bool) → s.anchor.status ≡ pushing b → Made s.link s.anchor b ⊎ ((y : ℕ) → y ≤ s.slots → (s.link b y).tag < s.anchor.tag)
            → Quiet s (with_link s d x v) ⊎ Turned s (with_link s d x v)
            → Made (relink s.link d x v) s.anchor b ⊎ ((y : ℕ) → y ≤ s.slots → (relink s.link d x v b y).tag < s.anchor.tag)
        go b st (inl m) (inl z) = inl (z.made b st m)
        go b st (inl m) (inr z) = absurd (omega (arith, z.later))
        go b st (inr f) w = inr (λ y l. let z = relink_keeps s.link d x v e b y in omega (arith, f y l))

    own_link_lem : r.kind ≡ push → Own r.kind s.label h t r.own r.label → Tags (with_link s (not r.side) r.own (own_link s r))
    own_link_lem k o = let w : Own push s.label h t r.own r.label = subst (λ (k : Kind). Own k s.label h t r.own r.label) k o in
        own_tags r.own (w.0, w.1) (not r.side) (own_link s r) refl

    tags9 : Task at9 s h t r c → r.link ≡ s.link (way r.read) r.near
        → Live s r.read r.near r.link ⊎ (r.link.tag < (s.link (way r.read) r.near).tag)
        → Tags (with_link s (way r.read) r.near (record { tag = suc r.link.tag; slot = tip r.read (way r.read) }))
    tags9 w z (inr f) = let e = ap (λ (w : Link). w.tag) z in absurd (omega arith)
    tags9 w z (inl l) = subst (λ y. Tags (with_link s e y v)) n
        (record { upper = relink_upper s.link e x v s.anchor.tag s.slots g.upper (lt (g.room e st)); room = λ b st'. inl (made b st') })
      where
        e : Bool
        e = way r.read

        v : Link
        v = record { tag = suc r.link.tag; slot = tip r.read e }

        st : s.anchor.status ≡ pushing e
        st = ap (λ (b : Anchor). b.status) (sym l.current) ∙ w.0.status

        x : ℕ
        x = (s.link (not e) (tip s.anchor e)).slot

        n : x ≡ r.near
        n = ap (λ (b : Anchor). inner s e (tip b e)) (sym l.current) ∙ l.near

        low : x ≤ s.slots
        low = inner_in s.link s.anchor (slots q) all.shape e (λ z. z ≤ s.slots) st
            (all_map (λ z. h z ≡ queued) _ (λ z e. (all.bounds z (λ f. queued_free (sym e ∙ f))).1) (slots q) all.owned)

        lt : Made s.link s.anchor e ⊎ ((y : ℕ) → y ≤ s.slots → (s.link e y).tag < s.anchor.tag) → suc r.link.tag ≤ s.anchor.tag
        lt (inl m) = absurd (w.1.other
            (ap (λ (w : Link). w.slot) z ∙ ap (λ (y : ℕ). (s.link e y).slot) (sym n) ∙ m ∙ ap (λ (b : Anchor). tip b e) (sym l.current)))
        lt (inr f) = let u = ap (λ (w : Link). w.tag) z in omega (arith, f r.near (subst (λ z. z ≤ s.slots) n low))

        made : (b : Bool) → s.anchor.status ≡ pushing b → Made (relink s.link e x v) s.anchor b
        made b st' = subst (λ b. Made (relink s.link e x v) s.anchor b) (same-side (sym st ∙ st'))
            (back-made t s h q c all r e st v (ap (λ (b : Anchor). tip b e) l.current))

    raised : same r.read s.anchor ≡ true → s.anchor.tag < suc r.read.tag
    raised e = later r.read s.anchor (same_true _ _ e)

    -- (From 11 on neither Anchor nor a link is touched.)
    pub tags : (p : Place) → Task p s h t r c → Tagged s (act p s r)
    tags p w = record {
      tagged = by_step s r (λ p. Task p s h t r c) (λ m. Tags (apply s m.touch)) (record {
        still = λ _. g;
        quiet = λ _ _ _ _ _ _ _ _ _. g;
        empty = λ _ _ _ _. g;
        helped = λ _ _ _ _. g;
        two_push = λ _ _ e. turned (both r.read r.own) (raised e);
        two_pop = λ _ _ e. turned (both r.read 0) (raised e);
        three = λ w k. own_link_lem k w.0.before.own;
        four_push = λ _ _ e. aimed_tags r.read r.side r.own _ (same_true _ _ e);
        four_pop = λ _ _ e. aimed_tags r.read r.side r.near _ (same_true _ _ e);
        nine = λ w e. tags9 w (same_link_true _ _ e) w.1.chance;
        ten = λ _ e _. turned (settled r.read) (raised e);
        ten_last = λ _ e _. turned (settled r.read) (raised e);
        eleven = λ _. record { upper = g.upper; room = g.room };
        keeps = λ _. record { upper = g.upper; room = g.room };
        lacks = λ _ _. g;
        draws = λ _ _. record { upper = g.upper; room = g.room };
        links = λ _. record { upper = g.upper; room = g.room };
        gives = λ _ _. record { upper = g.upper; room = g.room };
      }) p w;
    }
