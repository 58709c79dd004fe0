-- A slot changes hands outside the queue: a push gets a free one (a named start, place 14), a pop gives one up (11 named, 17).
-- How either learns or tells that it is free (`Spare`), and what becomes of the head, is for these places to say.
use mathlib.Core.{Bool.{Bool, false, not, true}, List.List, Logic.{◌≢◌, ◌⊎◌, inl, inr}, Path.{◌∙◌, ◌≡◌, ap, refl, sym}}
use Prim.Native.Nat.{◌≤◌, ℕ}
use native.Mathlib.Omega.{arith}
use Rattle.model.specs.declared.Entry.{Entry}
use Rattle.model.proofs.{Tests.Truth.decide_eq, Lists.{All.{all_both, all_map}, Slots.{all_slots, slots}}}
use Rattle.model.proofs.{Machine.Laws.{upd_other, upd_same}, Invariant.Rely.{Rely, Stacked}}
use Rattle.model.proofs.Machine.Machine.{Link, Rec, Shared, is_giving, runs, take, upd, with_head, with_label}
use Rattle.model.proofs.Invariant.{Owners.{Owner, Spare, Intact, free, held, queued, shows}, Tasks.{Bare, Sole}}
use Rattle.model.proofs.Places.{Marking.{Marked, marked-at, shows_own}, Shown.marking}
use Rattle.model.proofs.Places.Owned.{held-free, held_inj, owner_back, owner_kept, queued_free, queued_held}

-- A free slot x gets an owner, t, and a label; the head is w then.
module _ {s : Shared} {h : ℕ → Owner} {q : List Entry} (all : Intact s h q) (t x l : ℕ) (unowned : h x ≡ free) (w : Link) where
  not_queued : (y : ℕ) → h y ≡ queued → y ≢ x
  not_queued y e z = queued_free (sym e ∙ ap h z ∙ unowned)

  pub gets_whole : x ≢ 0 → x ≤ s.slots → Spare s.pooled s.slots s.next w.slot (upd h x (held t))
      → Intact (with_label (with_head s w) x l) (upd h x (held t)) q
  gets_whole nz low spare = record {
    shape = all.shape;
    owned = all_map (λ y. h y ≡ queued) _ (λ y e. upd_other h x (held t) y (not_queued y e) ∙ e) (slots q) all.owned;
    labels = all_both (λ (e : Entry). h e.slot ≡ queued) (λ (e : Entry). s.label e.slot ≡ e.label) _
        (λ e n g. upd_other s.label x l e.slot (not_queued e.slot n) ∙ g) q (all_slots (λ y. h y ≡ queued) q all.owned) all.labels;
    listed = λ y e. all.listed y (owner_back h x (held t) queued (λ z. queued_held (sym z)) y e).1;
    bounds = λ y n. go y n (decide_eq y x);
    spare = spare;
  }
    where
      go : (y : ℕ) → upd h x (held t) y ≢ free → (y ≡ x) ⊎ (y ≢ x) → (y ≢ 0) × (y ≤ s.slots)
      go y n (inl z) = (λ e. nz (sym z ∙ e), omega arith)
      go y n (inr z) = all.bounds y (λ e. n (upd_other h x (held t) y z ∙ e))

  -- Whoever had none has just this one.
  pub gets_sole : Bare h t → Sole (upd h x (held t)) t x
  gets_sole b y e = go (decide_eq y x)
    where
      go : (y ≡ x) ⊎ (y ≢ x) → y ≡ x
      go (inl z) = z
      go (inr z) = absurd (b y (sym (upd_other h x (held t) y z) ∙ e))

  pub gets_rely : Stacked s (with_label (with_head s w) x l) → (u : ℕ) → u ≢ t → Rely u s h (with_label (with_head s w) x l) (upd h x (held t))
  gets_rely k u n = record {
    spared = λ y e. let z : y ≢ x = (λ z. held-free (sym e ∙ ap h z ∙ unowned)) in
        record { owner = upd_other h x (held t) y z ∙ e; label = upd_other s.label x l y z; links = λ b. refl; next = refl };
    back = λ y e. (owner_back h x (held t) (held u) (λ z. n (sym (held_inj z))) y e).1;
    tags = λ e y. omega arith;
    words = λ e y q. inl refl;
    anchor = inl (record { kept = refl; inward = λ e f. refl; made = λ e st m. m });
    stack = k;
  }

  -- It is marked for its owner.
  pub gets_marks : {b : Bool} (r : Rec) → is_giving r.place ≡ false → Bare h t → Marked b t s h (runs (take w x l) r) (upd h x (held t))
  gets_marks r e none = marked-at (runs (take w x l) r) x (upd h x (held t)) (λ y n. upd_other s.mark x true y n)
      (λ y n. upd_other h x (held t) y n) (λ y n o. absurd (none y o))
      (λ f g o. upd_same s.mark x true ∙ sym (ap (shows (upd f t r)) (upd_same h x (held t)) ∙ shows_own f t r ∙ ap not e))

-- A slot x that task t has becomes free; the marks are m and the head w then.
module _ {s : Shared} {h : ℕ → Owner} {q : List Entry} (all : Intact s h q) (t x : ℕ) (holds : h x ≡ held t) (m : ℕ → Bool) (w : Link) where
  pub frees-whole : Spare s.pooled s.slots s.next w.slot (upd h x free) → Intact (with_head (marking s m) w) (upd h x free) q
  frees-whole spare = record {
    shape = all.shape;
    owned = all_map (λ y. h y ≡ queued) _ (λ y e. upd_other h x free y (λ z. queued_held (sym e ∙ ap h z ∙ holds)) ∙ e) (slots q) all.owned;
    labels = all.labels;
    listed = λ y e. all.listed y (owner_back h x free queued (λ z. queued_free (sym z)) y e).1;
    bounds = λ y n. go y n (decide_eq y x);
    spare = spare;
  }
    where
      go : (y : ℕ) → upd h x free y ≢ free → (y ≡ x) ⊎ (y ≢ x) → (y ≢ 0) × (y ≤ s.slots)
      go y n (inl z) = absurd (n (ap (λ (v : ℕ). upd h x free v) z ∙ upd_same h x free))
      go y n (inr z) = all.bounds y (λ e. n (upd_other h x free y z ∙ e))

  -- Whoever had just this one has none.
  pub frees-bare : Sole h t x → Bare (upd h x free) t
  frees-bare o y e = let b = owner_back h x free (held t) (λ z. held-free (sym z)) y e in b.0 (o y b.1)

  pub frees_rely : Stacked s (with_head (marking s m) w) → (u : ℕ) → u ≢ t → Rely u s h (with_head (marking s m) w) (upd h x free)
  frees_rely k u n = record {
    spared = λ y e. record { owner = owner_kept h x free t (inl holds) u y n e; label = refl; links = λ b. refl; next = refl };
    back = λ y e. (owner_back h x free (held u) (λ z. held-free (sym z)) y e).1;
    tags = λ e y. omega arith;
    words = λ e y p. inl refl;
    anchor = inl (record { kept = refl; inward = λ e f. refl; made = λ e st m. m });
    stack = k;
  }
