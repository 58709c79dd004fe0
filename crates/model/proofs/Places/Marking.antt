-- How a step keeps line 21: the marks go with the owners.
use mathlib.Core.{Bool.{Bool, false, not}, Logic.{◌≢◌, ◌⊎◌, inl, inr}, Path.{◌∙◌, ◌≡◌, ap, refl, subst, sym}}
use Prim.Native.Nat.{ℕ}
use Rattle.model.proofs.{Tests.Truth.{decide_eq, not_both}, Machine.{Book.BookCall, Laws.{upd_other, upd_same}}}
use Rattle.model.proofs.Machine.Machine.{Move, Place, Rec, Shared, apply, at1, at10, at11, at2, at3, at4, at5}
use Rattle.model.proofs.Machine.Machine.{at6, at7, at8, at9, draw, give, idle, is_giving, upd}
use Rattle.model.proofs.Invariant.{Owners.{Owner, free, held, queued, shows}, Tasks.Task}

-- In a named queue no task gives its slot back.
pub none-giving : (s : Shared) (h : ℕ → Owner) (t : ℕ) (r : Rec) (c : BookCall) → s.pooled ≡ false → (p : Place) → Task p s h t r c → is_giving p ≡ false
none-giving s h t r c e idle w = refl
none-giving s h t r c e at1 w = refl
none-giving s h t r c e at2 w = refl
none-giving s h t r c e at3 w = refl
none-giving s h t r c e at4 w = refl
none-giving s h t r c e at5 w = refl
none-giving s h t r c e at6 w = refl
none-giving s h t r c e at7 w = refl
none-giving s h t r c e at8 w = refl
none-giving s h t r c e at9 w = refl
none-giving s h t r c e at10 w = refl
none-giving s h t r c e at11 w = refl
none-giving s h t r c e (draw p) w = refl
none-giving s h t r c e (give p) w = absurd (not_both w.0 e)

module _ (f : ℕ → Rec) (t : ℕ) (r : Rec) where
  -- A task's next record matters to its own slot alone.
  pub shows_same : (o : Owner) → (o ≡ held t → is_giving r.place ≡ is_giving (f t).place) → shows (upd f t r) o ≡ shows f o
  shows_same free e = refl
  shows_same queued e = refl
  shows_same (held u) e = go (decide_eq u t)
    where
      go : (u ≡ t) ⊎ (u ≢ t) → shows (upd f t r) (held u) ≡ shows f (held u)
      go (inl z) = ap (λ (v : ℕ). shows (upd f t r) (held v)) z ∙ ap (λ (y : Rec). not (is_giving y.place)) (upd_same f t r)
          ∙ ap not (e (ap held z)) ∙ ap (λ (v : ℕ). shows f (held v)) (sym z)
      go (inr z) = ap (λ (y : Rec). not (is_giving y.place)) (upd_other f t r u z)

  pub shows_own : shows (upd f t r) (held t) ≡ not (is_giving r.place)
  shows_own = ap (λ (y : Rec). not (is_giving y.place)) (upd_same f t r)

-- Slots that are marked as their owners say are so after a move. b tells whether the task stands at 15 to 17.
pub record Marked (b : Bool) (t : ℕ) (s : Shared) (h : ℕ → Owner) (m : Move) (h' : ℕ → Owner) : Type 0 where
  pub goes_on : (f : ℕ → Rec) → is_giving (f t).place ≡ b → (x : ℕ) → s.mark x ≡ shows f (h x)
      → (apply s m.touch).mark x ≡ shows (upd f t m.rec) (h' x)

module _ {b : Bool} {t : ℕ} {s : Shared} {h : ℕ → Owner} (m : Move) where
  -- No mark and no owner changes.
  pub marked-kept : is_giving m.rec.place ≡ b → ((x : ℕ) → (apply s m.touch).mark x ≡ s.mark x) → Marked b t s h m h
  marked-kept e k = record { goes_on = λ f g x w. k x ∙ w ∙ sym (shows_same f t m.rec (h x) (λ _. e ∙ sym g)) }

  -- Those of slot y alone change.
  pub marked-at : (y : ℕ) (h' : ℕ → Owner) → ((x : ℕ) → x ≢ y → (apply s m.touch).mark x ≡ s.mark x) → ((x : ℕ) → x ≢ y → h' x ≡ h x)
      → ((x : ℕ) → x ≢ y → h x ≡ held t → is_giving m.rec.place ≡ b)
      → ((f : ℕ → Rec) → is_giving (f t).place ≡ b → s.mark y ≡ shows f (h y) → (apply s m.touch).mark y ≡ shows (upd f t m.rec) (h' y))
      → Marked b t s h m h'
  marked-at y h' marks owners place there = record { goes_on = λ f g x w. go f g x w (decide_eq x y) }
    where
      go : (f : ℕ → Rec) → is_giving (f t).place ≡ b → (x : ℕ) → s.mark x ≡ shows f (h x) → (x ≡ y) ⊎ (x ≢ y)
          → (apply s m.touch).mark x ≡ shows (upd f t m.rec) (h' x)
      go f g x w (inl z) = subst (λ v. s.mark v ≡ shows f (h v) → (apply s m.touch).mark v ≡ shows (upd f t m.rec) (h' v)) (sym z) (there f g) w
      go f g x w (inr z) = marks x z ∙ w ∙ sym (shows_same f t m.rec (h x) (λ e. place x z e ∙ sym g)) ∙ ap (shows (upd f t m.rec)) (sym (owners x z))
