-- A change of Anchor that is an effect: a push puts its slot into the queue, a pop takes the slot at its end.
use mathlib.Core.{Bool.{Bool, false, not, true}, List.{List, [], ◌∷◌}, Logic.{◌≢◌, ◌⊎◌, inl, inr}}
use mathlib.Core.Path.{◌∙◌, ◌≡◌, ap, refl, subst, sym}
use Prim.Native.Nat.{◌<◌, suc, ℕ}
use Rattle.model.specs.{declared.Entry.Entry, Lists.All}
use Rattle.model.proofs.{Tests.Truth.decide_eq, Lists.Slots.{map_seen, slots, slots-put, slots_took}}
use Rattle.model.proofs.Lists.{All.{all_both, all_map, all_rest, all_seen}, Chain.distinct_seen}
use Rattle.model.proofs.Lists.{Deque.{Distinct, front, put, rest, seen, took}, In.{In, in_put, in_took}}
use Rattle.model.proofs.Machine.Book.{BookCall, effect, given, granted, is_no_free_slot, noted, told}
use Rattle.model.proofs.Machine.{Laws.{stable_pushing, upd_other, upd_same}, Machine.{tip, upd, with_anchor}}
use Rattle.model.proofs.Machine.Machine.{Anchor, Move, Rec, Shared, Touch, apply, at11, goes, is_giving, pop}
use Rattle.model.proofs.Machine.Machine.{popped, push, pushed, pushing, put_anchor, running, runs, stable}
use Rattle.model.proofs.Invariant.{Owners.{Owner, Intact, free, held, queued, shows}, Rely.Rely}
use Rattle.model.proofs.Invariant.{Shape.{Made, Shape}, Tasks.{Bare, Before, Own, Sole}}
use Rattle.model.proofs.Places.{Effects.{noted_pop, noted_push}, Marking.{marked-at, shows_own}}
use Rattle.model.proofs.Places.Owned.{held-free, held_inj, owner_back, owner_bounds, owner_kept, owner_spare}
use Rattle.model.proofs.Places.Owned.{push_pop, queued_free, queued_held}
use Rattle.model.proofs.Places.Shown.{Finish, Shown, effective, rely_turn}

module _ {s : Shared} {h : ℕ → Owner} {q : List Entry} (all : Intact s h q) where
  stable_made : s.anchor.status ≡ stable → (e : Bool) → s.anchor.status ≡ pushing e → Made s.link s.anchor e
  stable_made st e g = absurd (stable_pushing (sym st ∙ g))

  -- The slot of a push is not in the queue.
  pub not_in : {t x : ℕ} → h x ≡ held t → All (λ y. y ≢ x) (slots q)
  not_in e = all_map (λ y. h y ≡ queued) (λ y. y ≢ _) (λ y g z. queued_held (sym g ∙ ap h z ∙ e)) (slots q) all.owned

  pushed_whole : (t : ℕ) (a : Anchor) (d : Bool) (x l : ℕ) → Own push s.label h t x l → Shape s.link a (put d x (slots q))
      → Intact (with_anchor s a) (upd h x queued) (put d (record { slot = x; label = l }) q)
  unfolding put
  pushed_whole t a d x l o shape =
      let e : slots (put d (record { slot = x; label = l }) q) ≡ put d x (slots q) = slots-put d (record { slot = x; label = l }) q in
      let owns : h x ≢ free = (λ f. held-free (sym o.1 ∙ f)) in
      record {
        shape = subst (λ z. Shape s.link a z) (sym e) shape;
        owned = subst (λ z. All (λ y. upd h x queued y ≡ queued) z) (sym e)
            (all_seen _ d (x ∷ seen d (slots q)) (
              upd_same h x queued,
              all_seen _ d (slots q)
                  (all_both (λ y. y ≢ x) (λ y. h y ≡ queued) (λ y. upd h x queued y ≡ queued) (λ y n g. upd_other h x queued y n ∙ g) (slots q)
                  (not_in o.1) all.owned),
            ));
        labels = all_seen _ d (record { slot = x; label = l } ∷ seen d q) (o.2, all_seen _ d q all.labels);
        bounds = owner_bounds h x queued _ owns all.bounds;
        listed = λ y g. subst (In y) (sym e) (in_put d x y (slots q) (among y g (decide_eq y x)));
        spare = owner_spare h x queued s.pooled _ _ _ owns queued_free all.spare;
      }
    where
      among : (y : ℕ) → upd h x queued y ≡ queued → (y ≡ x) ⊎ (y ≢ x) → (y ≡ x) ⊎ In y (slots q)
      among y g (inl z) = inl z
      among y g (inr z) = inr (all.listed y (sym (upd_other h x queued y z) ∙ g))

  -- The entry at an end.
  pub end_entry : (d : Bool) (y : ℕ) → y ≡ tip s.anchor d → y ≢ 0 → (given (seen d q) ≡ popped y (s.label y)) × (h y ≡ queued)
  end_entry d y e n = go (seen d q) refl
    where
      front_is : (l : List Entry) → seen d q ≡ l → y ≡ front (slots l) 0
      front_is l g = e ∙ all.shape.tips d ∙ ap (λ (z : List ℕ). front z 0) (sym (map_seen d q) ∙ ap (λ (z : List Entry). slots z) g)

      go : (l : List Entry) → seen d q ≡ l → (given (seen d q) ≡ popped y (s.label y)) × (h y ≡ queued)
      go [] g = absurd (n (front_is [] g))
      go (x ∷ l) g =
          let f : y ≡ x.slot = front_is (x ∷ l) g in
          let m : All (λ (z : Entry). s.label z.slot ≡ z.label) (x ∷ l) = rw g at (all_seen _ d q all.labels) in
          let m0 = m.0 in
          let o : All (λ z. h z ≡ queued) (slots (x ∷ l)) = rw (← map_seen d q, g) at (all_seen _ d (slots q) all.owned) in
          (ap given g ∙ cc, ap h f ∙ o.0)

  popped-whole : (t : ℕ) (a : Anchor) (d : Bool) (y : ℕ) → y ≡ tip s.anchor d → y ≢ 0 → Shape s.link a (took d (slots q))
      → Intact (with_anchor s a) (upd h y (held t)) (took d q)
  unfolding took
  popped-whole t a d y e n shape =
      let g : slots (took d q) ≡ took d (slots q) = slots_took d q in
      let ends : h y ≢ free = (λ f. queued_free (sym (end_entry d y e n).1 ∙ f)) in
      record {
        shape = subst (λ z. Shape s.link a z) (sym g) shape;
        owned = subst (λ z. All (λ y'. upd h y (held t) y' ≡ queued) z) (sym g) (all_seen _ d (rest (seen d (slots q)))
            (all_both (λ z. z ≢ y) (λ z. h z ≡ queued) (λ z. upd h y (held t) z ≡ queued) (λ z m f. upd_other h y (held t) z m ∙ f)
            (rest (seen d (slots q)))
            (apart (seen d (slots q)) (e ∙ all.shape.tips d) (distinct_seen d (slots q) all.shape.distinct))
            (all_rest _ (seen d (slots q)) (all_seen _ d (slots q) all.owned))));
        labels = all_seen _ d (rest (seen d q)) (all_rest _ (seen d q) (all_seen _ d q all.labels));
        bounds = owner_bounds h y (held t) _ ends all.bounds;
        listed = λ z f. let b = owner_back h y (held t) queued (λ w. queued_held (sym w)) z f in
            subst (In z) (sym g) (in_took d z (slots q) (λ w. b.0 (w ∙ sym (e ∙ all.shape.tips d))) (all.listed z b.1));
        spare = owner_spare h y (held t) s.pooled _ _ _ ends held-free all.spare;
      }
    where
      apart : (l : List ℕ) → y ≡ front l 0 → Distinct l → All (λ z. z ≢ y) (rest l)
      apart [] p u = tt
      apart (x ∷ l) p u = all_map (λ z. z ≢ x) (λ z. z ≢ y) (λ z f g. f (g ∙ p)) l u.0

-- A push that has put its slot into the queue has none.
pub put-bare : (h : ℕ → Owner) (t x : ℕ) → Sole h t x → Bare (upd h x queued) t
put-bare h t x o y f = let b = owner_back h x queued (held t) queued_held y f in b.0 (o y b.1)

module _ {t : ℕ} {s : Shared} {h : ℕ → Owner} {q : List Entry} {c : BookCall} (all : Intact s h q) (r : Rec) where
  -- A push has its effect.
  pub push_good : (m : Move) → r.kind ≡ push → Before s.label h t r.kind r.side r.own r.label c
      → effect s.anchor (apply s m.touch).anchor m.answer ≡ true
      → is_no_free_slot m.answer ≡ false → (a : Anchor) → m.touch ≡ put_anchor a → tip a r.side ≡ r.own → s.anchor.tag < a.tag
      → s.anchor.status ≡ stable → Shape s.link a (put r.side r.own (slots q))
      → Finish m.answer (apply s m.touch) (upd h r.own queued) t m.rec (told c pushed) → is_giving m.rec.place ≡ false
      → Shown t s h q c m
  push_good m k b eff ans a ms end lt st shape f p =
      let o = subst (λ z. Own z s.label h t r.own r.label) k b.own in
      effective m (upd h r.own queued) (told c pushed) (put r.side (record { slot = r.own; label = r.label }) q)
      (ap (λ (z : Touch). noted (granted z c) q s.anchor (apply s m.touch).anchor m.answer) ms
      ∙ noted_push c b.agrees q s.anchor (apply s m.touch).anchor m.answer eff ans k)
      (subst (λ z. Intact (apply s z) (upd h r.own queued) (put r.side (record { slot = r.own; label = r.label }) q)) (sym ms)
      (pushed_whole all t a r.side r.own r.label o shape))
      (λ u n. subst (λ z. Rely u s h (apply s z) (upd h r.own queued)) (sym ms) (rely_turn a (upd h r.own queued) lt (stable_made all st)
      (λ u x n g. owner_kept h r.own queued t (inl o.1) u x n g) (λ u x n g. (owner_back h r.own queued (held u) queued_held x g).1) u n))
      f (λ _ _ _. subst (λ (z : Touch). tip (apply s z).anchor c.side ≡ (granted z c).slot) (sym ms)
      (ap (λ (d : Bool). tip a d) b.agrees.side ∙ end ∙ sym b.agrees.slot))
      (marked-at m r.own (upd h r.own queued) (λ x n. same x) (λ x n. upd_other h r.own queued x n) (λ x n e. p)
      (λ g e w. same r.own ∙ w ∙ ap (shows g) o.1 ∙ ap not e ∙ ap (shows (upd g t m.rec)) (sym (upd_same h r.own queued))))
    where
      same : (x : ℕ) → (apply s m.touch).mark x ≡ s.mark x
      same x = ap (λ (z : Touch). (apply s z).mark x) ms

  -- A pop has its effect.
  pub pop_good : (a : Anchor) → r.kind ≡ pop → Before s.label h t r.kind r.side r.own r.label c → r.read ≡ s.anchor
      → effect s.anchor a running ≡ true
      → s.anchor.tag < a.tag → s.anchor.status ≡ stable → tip s.anchor r.side ≢ 0 → Shape s.link a (took r.side (slots q))
      → Shown t s h q c (runs (put_anchor a) (goes r at11))
  pop_good a k b p eff lt st ne shape =
      let y = tip r.read r.side in
      let e : y ≡ tip s.anchor r.side = ap (λ (z : Anchor). tip z r.side) p in
      let g = end_entry all r.side y e (λ z. ne (sym e ∙ z)) in
      effective (runs (put_anchor a) (goes r at11)) (upd h y (held t)) (told c (given (seen r.side q))) (took r.side q)
      (noted_pop c b.agrees q s.anchor a running eff refl k)
      (popped-whole all t a r.side y e (λ z. ne (sym e ∙ z)) shape)
      (rely_turn a (upd h y (held t)) lt (stable_made all st) (λ u x n f. owner_kept h y (held t) t (inr g.1) u x n f)
      (λ u x n f. (owner_back h y (held t) (held u) (λ z. n (sym (held_inj z))) x f).1))
      (record { after = record { once = ap suc b.none; told = g.0 }; holds = upd_same h y (held t); sole = sole })
      (λ _ _ z. absurd (push_pop (sym z ∙ b.agrees.kind ∙ k)))
      (marked-at (runs (put_anchor a) (goes r at11)) y (upd h y (held t)) (λ x n. refl) (λ x n. upd_other h y (held t) x n) (λ x n e. refl)
      (λ f e w. w ∙ ap (shows f) g.1 ∙ sym (ap (shows (upd f t (goes r at11))) (upd_same h y (held t)) ∙ shows_own f t (goes r at11))))
    where
      o : Own pop s.label h t r.own r.label
      o = subst (λ z. Own z s.label h t r.own r.label) k b.own

      sole : Sole (upd h (tip r.read r.side) (held t)) t (tip r.read r.side)
      sole y f = go (decide_eq y (tip r.read r.side))
        where
          go : (y ≡ tip r.read r.side) ⊎ (y ≢ tip r.read r.side) → y ≡ tip r.read r.side
          go (inl z) = z
          go (inr z) = absurd (o y (sym (upd_other h (tip r.read r.side) (held t) y z) ∙ f))
