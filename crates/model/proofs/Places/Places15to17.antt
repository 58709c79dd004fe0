-- Places 15 to 17: a pop gives its slot back to the stack. The next of the slot is written while it is the task's, so nobody looks at it.
use mathlib.Core.{Bool.{not, true}, List.List, Logic.{◌≢◌, inl, inr}, Path.{◌∙◌, ◌≡◌, ap, refl, subst, subst₂, sym}}
use Prim.Native.Nat.{◌<◌, ◌≤◌, ℕ}
use native.Mathlib.Omega.{arith}
use Rattle.model.specs.declared.Entry.{Entry}
use Rattle.model.proofs.{Tests.Truth.by_test, Machine.{Book.BookCall, Laws.{same_link_true, upd_other, upd_same}}}
use Rattle.model.proofs.Machine.Machine.{Give, Link, Rec, Shared, at15, at16, at17, blank, ends, give, gives}
use Rattle.model.proofs.Machine.Machine.{goes, popped, put_head, put_next, running, runs, same_link, upd, with_next}
use Rattle.model.proofs.Invariant.{Owners.{Owner, Pool, Spare, Intact, free, held, shows}, Rely.Rely, Tasks.Task}
use Rattle.model.proofs.Places.{Effects.no-effect, Places12to14.pool, Marking.{marked-at, marked-kept}}
use Rattle.model.proofs.Places.{Owned.{held-free, held_inj}, Owning.{frees-bare, frees_rely, frees-whole}}
use Rattle.model.proofs.Places.{Shown.{ShownAs, plain, still}, Stack.{given, linked, top_apart}}

module _ (t : ℕ) (s : Shared) (h : ℕ → Owner) (q : List Entry) (c : BookCall) (all : Intact s h q) (r : Rec) where
  abbrev x : ℕ
  x = r.own

  bounds : h x ≡ held t → (x ≢ 0) × (x ≤ s.slots)
  bounds e = all.bounds x (λ f. held-free (sym e ∙ f))

  -- 16: the next of the own slot, which is neither on the stack nor another task's.
  linking : Task (give at16) s h t r c → ShownAs true t s h q c (runs (put_next x r.link.slot) (goes r (give at17)))
  linking w =
      let k = pool t s h q c all r w.0 in
      let v = r.link.slot in
      plain (runs (put_next x v) (goes r (give at17))) h (no-effect s.anchor s.anchor running refl refl refl)
      (record {
        shape = all.shape;
        owned = all.owned;
        listed = all.listed;
        labels = all.labels;
        bounds = all.bounds;
        spare = subst (λ b. Spare b s.slots (upd s.next x v) s.head.slot h) (sym w.0) (linked k v w.1.holds);
      })
      (λ u n. rely k u n)
      (w.0, w.1, upd_same s.next x v)
      (marked-kept (runs (put_next x v) (goes r (give at17))) refl (λ y. refl))
    where
      rely : Pool s.slots s.next s.head.slot h → (u : ℕ) → u ≢ t → Rely u s h (with_next s x r.link.slot) h
      rely k u n = record {
        spared = λ y e. record {
          owner = e;
          label = refl;
          links = λ b. refl;
          next = upd_other s.next x r.link.slot y (λ z. n (held_inj (sym e ∙ ap h z ∙ w.1.holds)));
        };
        back = λ y e. e;
        tags = λ e y. omega arith;
        words = λ e y p. inl refl;
        anchor = inl (record { kept = refl; inward = λ e f. refl; made = λ e st m. m });
        stack = record {
          pooled = refl;
          head = inl (refl, upd_other s.next x r.link.slot s.head.slot (top_apart k (bounds w.1.holds).0 w.1.holds));
        };
      }

  -- 17: the own slot becomes the top, under a head with a higher tag.
  giving : {v : Link} → Task (give at17) s h t r c → r.link ≡ s.head → v.slot ≡ x → s.head.tag < v.tag
      → ShownAs true t s h q c (ends (put_head v) (popped x r.label))
  giving {v} w e names later =
      let k = pool t s h q c all r w.0 in
      let b = bounds w.1.holds in
      plain (ends (put_head v) (popped x r.label)) (upd h x free) (no-effect s.anchor s.anchor (popped x r.label) refl refl refl)
      (frees-whole all t x w.1.holds s.mark v
      (subst₂ (λ z y. Spare z s.slots s.next y (upd h x free)) (sym w.0) (sym names)
      (given k b.0 b.1 w.1.holds (w.2 ∙ ap (λ (v : Link). v.slot) e))))
      (frees_rely all t x w.1.holds s.mark v (record { pooled = refl; head = inr later }))
      (refl, record { once = w.1.after.once; agrees = sym w.1.after.told }, frees-bare all t x w.1.holds s.mark v w.1.sole)
      (marked-at (ends (put_head v) (popped x r.label)) x (upd h x free) (λ y n. refl) (λ y n. upd_other h x free y n)
      (λ y n o. absurd (n (w.1.sole y o)))
      (λ f g o. o ∙ ap (shows f) w.1.holds ∙ ap not g ∙ ap (shows (upd f t blank)) (sym (upd_same h x free))))

  pub place15to17 : (p : Give) → Task (give p) s h t r c → ShownAs true t s h q c (gives p s r)
  place15to17 at15 w = still refl all (w.0, w.1, tt)
  place15to17 at16 w = linking w
  place15to17 at17 w = by_test (ShownAs true t s h q c) (same_link r.link s.head)
      (λ z. let e = same_link_true r.link s.head z in giving w e refl (let g = ap (λ (v : Link). v.tag) e in omega arith))
      (λ z. still refl all (w.0, w.1, tt))
