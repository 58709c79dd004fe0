-- An Anchor over a whole queue is sound.
use mathlib.Core.{Bool.{Bool, false, true}, List.List, Path.{◌∙◌, ◌≡◌, refl, subst, sym}}
use Prim.Native.Nat.{◌≤◌, suc, zero, ℕ}
use native.Mathlib.Omega.{arith}
use Rattle.word.specs.Anchor.{anchor_of}
use Rattle.model.specs.Places.{Touch, clear_mark, nothing, set_anchor, set_head, set_link, set_next, take_slot}
use Rattle.model.specs.{Refusals.leaves_sound, Tables.Tables, declared.Entry.Entry}
use Rattle.model.proofs.Lists.{All.{all_front, all_map, all_seen}, Deque.seen, Slots.slots}
use Rattle.model.proofs.{Machine.Machine.{Shared, tip}, Invariant.{Owners.{Owner, Intact, queued}, Shape.Shape}}
use Rattle.model.proofs.{Chain.Ends.{alike_stable, both_null}, Places.Owned.queued_free}
use Rattle.model.proofs.Bridge.{Facts.AnchorFine, View.{anchor_seen, status_of, touch_seen, view}}
use Rattle.model.proofs.Unsound.{Moves.StatusFine, Tests.anchor-sound}
use Rattle.model.proofs.Machine.Machine as M

tip_low : (s : Shared) (h : ℕ → Owner) (q : List Entry) → Intact s h q → (d : Bool) → tip s.anchor d ≤ s.slots
tip_low s h q w d = subst (λ x. x ≤ s.slots) (sym (w.shape.tips d)) (all_front (λ x. x ≤ s.slots) (seen d (slots q)) 0
    (all_seen (λ x. x ≤ s.slots) d (slots q)
    (all_map (λ x. h x ≡ queued) _ (λ x e. (w.bounds x (λ f. queued_free (sym e ∙ f))).1) (slots q) w.owned)) (omega arith))

stable_zero : (n : ℕ) → n ≤ 2 → status_of n ≡ M.stable → n ≡ 0
stable_zero zero h e = refl
stable_zero (suc zero) h e = absurd (let w : ◌≡◌ {A = ℕ} 0 1 = cc in omega arith)
stable_zero (suc (suc zero)) h e = absurd (let w : ◌≡◌ {A = ℕ} 0 1 = cc in omega arith)
stable_zero (suc (suc (suc n))) h e = absurd (omega arith)

-- An Anchor word over a whole queue is sound.
module _ (q : Tables) where
  whole_fine : (a : ℕ) (s : M.Shared) (h : ℕ → Owner) (l : List Entry) → s.anchor ≡ anchor_seen a → s.slots ≡ q.control.slots → Intact s h l
      → (anchor_of a).status ≤ 2
      → AnchorFine q.control.slots (anchor_of a)
  whole_fine a s h l e g w st =
      let sh = subst (λ (b : M.Anchor). Shape s.link b (slots l)) e w.shape in
      let low : (d : Bool) → M.tip (anchor_seen a) d ≤ q.control.slots = λ d. subst (λ (n : ℕ). M.tip (anchor_seen a) d ≤ n) g
      (subst (λ (b : M.Anchor). M.tip b d ≤ s.slots) e (tip_low s h l w d)) in
      record {
        status = st;
        left = low false;
        right = low true;
        null = λ z. both_null s.link (anchor_seen a) (slots l) sh false true z;
        full = λ z. both_null s.link (anchor_seen a) (slots l) sh true false z;
        single = λ z. stable_zero (anchor_of a).status st (alike_stable s.link (anchor_seen a) (slots l) sh z);
      }

  pub touch-sound : (t : Touch) (h : ℕ → Owner) (l : List Entry) → Intact (M.apply (view q) (touch_seen t)) h l → StatusFine t
      → leaves_sound q.control.slots t ≡ true
  unfolding view
  touch-sound nothing h l w st = refl
  touch-sound (set_anchor a) h l w st = anchor-sound q.control.slots (anchor_of a) (whole_fine a _ h l refl refl w st)
  touch-sound (set_link side x v) h l w st = refl
  touch-sound (clear_mark x) h l w st = refl
  touch-sound (take_slot v x y) h l w st = refl
  touch-sound (set_next x v) h l w st = refl
  touch-sound (set_head v) h l w st = refl
