-- The record that a start writes is sound.
use mathlib.Core.{Path.{◌≡◌, refl, ap, sym, ◌∙◌}, Bool.{Bool, true, false, not, cond}}
use Prim.Native.Nat.{ℕ}
use native.Mathlib.Omega.{arith}
use lib.Dec.{eqb, leb}
use borrow.Author.Tests.{le-leb, not-false}
use Rattle.word.specs.Anchor.{anchor_of}
use Rattle.model.specs.{declared.Call.Call, Tables.{new_call, started, asking}}
use Rattle.model.{specs.Sound.{from1, anchor_sound, link_sound, record_sound}, proofs.Tests.{Truth.split, Rules.cleared}}
use Rattle.threads_model.specs.Starts.{own_rules, own_refusal, wrong_push, outside}
use Rattle.threads.specs.Promises.{StartsSound}
use Rattle.threads.proofs.Split.SoundFields as F

module _ (pooled slots : ℕ) where
  abbrev sounds : Call → Bool
  sounds r = record_sound (eqb pooled 1) slots r

  zero_low : leb 0 slots ≡ true
  zero_low = le-leb 0 slots (omega arith)

  no-link : link_sound slots 0 ≡ true
  unfolding link_sound
  no-link = zero_low

  no-anchor : anchor_sound slots (anchor_of 0) ≡ true
  unfolding anchor_sound
  no-anchor = rw zero_low

  base : (n kind side own label : ℕ) → leb kind 1 ≡ true → leb side 1 ≡ true → F.Base pooled slots (new_call n kind side own label)
  base n kind side own label k a = record { kind = k; side = a; fin = refl; near = zero_low; link = no-link; seen = no-anchor }

  pub push_sound : (side slot label : ℕ) → leb side 1 ≡ true → from1 slots slot ≡ true → sounds (started 0 side slot label) ≡ true
  push_sound side slot label a f =
      F.put pooled slots 1 (started 0 side slot label) (F.low pooled slots 1 refl refl) refl refl refl f refl refl (base 1 0 side slot label refl a)

  pub pop_sound : (side : ℕ) → leb side 1 ≡ true → sounds (started 1 side 0 0) ≡ true
  pop_sound side a =
      F.put pooled slots 1 (started 1 side 0 0) (F.low pooled slots 1 refl refl) refl refl refl refl refl refl (base 1 1 side 0 0 refl a)

  pub draw_sound : (side label : ℕ) → leb side 1 ≡ true → eqb pooled 1 ≡ true → sounds (asking side label) ≡ true
  draw_sound side label a p =
      F.put pooled slots 12 (asking side label) (F.high pooled slots 12 refl p) refl refl refl refl refl refl (base 12 0 side 0 label refl a)

-- What is not refused 14, 41 and 15.
pub starts_sound : StartsSound
unfolding own_refusal
starts_sound pooled slots r s none =
    let y = cleared (own_rules pooled slots r s.side (wrong_push pooled s) (outside slots s)) refl none in
    let side = not-false (leb s.side 1) y.0 in
    split (eqb s.operation 0)
    (λ named. rw named (push_sound pooled slots s.side s.slot s.label side
    (not-false _ (sym (ap (λ (b : Bool). cond b (not (from1 slots s.slot)) false) named) ∙ y.1.1.0))))
    (λ no. split (eqb s.operation 1)
    (λ pop. rw (no, pop) (pop_sound pooled slots s.side side))
    (λ draw. let fits : not (eqb pooled 1) ≡ false =
    ap (λ (b : Bool). cond b false (not (eqb pooled 1))) (sym draw)
    ∙ ap (λ (b : Bool). cond b (eqb pooled 1) (cond (eqb s.operation 1) false (not (eqb pooled 1)))) (sym no)
    ∙ y.1.0 in
    rw (no, draw) (draw_sound pooled slots s.side s.label side (not-false _ fits))))
