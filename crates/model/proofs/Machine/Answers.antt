-- A step answers running and stays busy, or answers and is idle.
use mathlib.Core.{Bool.{Bool, false, true}, Path.{◌∙◌, ◌≡◌, ap, refl}}
use Rattle.model.proofs.{Tests.Truth.not_both, Machine.{Machine.{popped, pushed, running}, ByStep.by_step}}
use Rattle.model.proofs.Machine.Machine.{Answer, Move, Place, Rec, Shared, act, empty, is_idle, no_free_slot, rests}

abbrev pub EndsAt : Answer → Bool → Type 0
EndsAt running b = b ≡ false
EndsAt pushed b = b ≡ true
EndsAt empty b = b ≡ true
EndsAt no_free_slot b = b ≡ true
EndsAt (popped x l) b = b ≡ true

pub record Ends (m : Move) : Type 0 where
  pub ends : EndsAt m.answer (is_idle m.rec.place)

pub act-ends : (p : Place) (s : Shared) (r : Rec) → is_idle p ≡ false → Ends (act p s r)
act-ends p s r busy = record {
  ends = by_step s r (λ p. is_idle p ≡ false) (λ m. EndsAt m.answer (is_idle m.rec.place)) (record {
    still = λ b. absurd (not_both refl b);
    quiet = λ p q a n w b e _ _. ap rests e ∙ b;
    empty = λ _ _ _ _. refl;
    helped = λ _ _ _ _. refl;
    two_push = λ _ _ _. refl;
    two_pop = λ _ _ _. refl;
    three = λ _ _. refl;
    four_push = λ _ _ _. refl;
    four_pop = λ _ _ _. refl;
    nine = λ _ _. refl;
    ten = λ _ _ _. refl;
    ten_last = λ _ _ _. refl;
    eleven = λ _. refl;
    keeps = λ _. refl;
    lacks = λ _ _. refl;
    draws = λ _ _. refl;
    links = λ _. refl;
    gives = λ _ _. refl;
  }) p busy;
}
