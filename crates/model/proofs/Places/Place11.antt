-- Place 11: the label of the slot taken is read. In a named queue the slot is given up; in a pooled queue the task keeps it for 15 to 17.
use mathlib.Core.{Bool.{false, true}, List.List, Logic.◌≢◌, Path.{◌∙◌, ◌≡◌, ap, refl, subst, sym}}
use Prim.Native.Nat.{ℕ}
use Rattle.model.specs.declared.Entry.{Entry}
use Rattle.model.proofs.{Tests.Truth.by_test, Invariant.{Owners.{Owner, Spare, Intact, free, shows}, Tasks.Task}}
use Rattle.model.proofs.Machine.{Book.BookCall, Laws.{upd_other, upd_same}, Machine.{popped, running, runs, upd}}
use Rattle.model.proofs.Machine.Machine.{Move, Rec, Shared, act, apply, at11, at15, clear, ends, give, owns, tip}
use Rattle.model.proofs.Places.{Effects.no-effect, Marking.{marked-at, shows_own}}
use Rattle.model.proofs.Places.Owning.{frees-bare, frees_rely, frees-whole}
use Rattle.model.proofs.Places.Shown.{Shown, plain, rely_marks, stack_same}

module _ (t : ℕ) (s : Shared) (h : ℕ → Owner) (q : List Entry) (c : BookCall) (all : Intact s h q) (r : Rec) where
  pub place11 : Task at11 s h t r c → Shown t s h q c (act at11 s r)
  place11 w = by_test (Shown t s h q c) s.pooled keeps frees
    where
      x : ℕ
      x = tip r.read r.side

      kept : Move
      kept = runs (clear x) (owns r x (s.label x) (give at15))

      unmarked : (apply s kept.touch).mark x ≡ false
      unmarked = upd_same s.mark x false

      as_before : (y : ℕ) → y ≢ x → (apply s kept.touch).mark y ≡ s.mark y
      as_before y n = upd_other s.mark x false y n

      keeps : s.pooled ≡ true → Shown t s h q c kept
      keeps e =
          plain kept h (no-effect s.anchor s.anchor running refl refl refl)
          (record {
            shape = all.shape;
            owned = all.owned;
            listed = all.listed;
            labels = all.labels;
            bounds = all.bounds;
            spare = all.spare;
          })
          (λ u n. rely_marks (apply s kept.touch).mark u)
          (e, record { after = w.after; holds = w.holds; sole = w.sole }, tt)
          (marked-at kept x h as_before (λ y n. refl) (λ y n o. absurd (n (w.sole y o)))
          (λ f g o. unmarked ∙ sym (ap (shows (upd f t kept.rec)) w.holds ∙ shows_own f t kept.rec)))

      frees : s.pooled ≡ false → Shown t s h q c (ends (clear x) (popped x (s.label x)))
      frees e =
          let m = ends (clear x) (popped x (s.label x)) in
          plain m (upd h x free) (no-effect s.anchor s.anchor (popped x (s.label x)) refl refl refl)
          (frees-whole all t x w.holds (upd s.mark x false) s.head
          (subst (λ b. Spare b s.slots s.next s.head.slot (upd h x free)) (sym e) tt))
          (frees_rely all t x w.holds (upd s.mark x false) s.head (stack_same refl refl refl)) (
            refl,
            record { once = w.after.once; agrees = sym w.after.told },
            frees-bare all t x w.holds (upd s.mark x false) s.head w.sole,
          )
          (marked-at m x (upd h x free) (λ y n. upd_other s.mark x false y n) (λ y n. upd_other h x free y n) (λ y n o. refl)
          (λ f g o. upd_same s.mark x false ∙ sym (ap (shows (upd f t m.rec)) (upd_same h x free))))
