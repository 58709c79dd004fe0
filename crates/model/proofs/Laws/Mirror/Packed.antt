-- The mirror of an Anchor word, field by field; packing commutes with it.
use mathlib.Core.{Path.{◌≡◌, refl, ap, ◌∙◌, sym}, Bool.{Bool, true, false}}
use Prim.Native.Nat.{ℕ, zero, suc, ◌/◌, ◌%◌, ◌^◌, ◌<◌}
use native.Mathlib.Omega.{arith}
use lib.Dec.{eqb, leb}
use borrow.Author.Tests.{eqb-true, eqb-false, eq-eqb, ne_eqb}
use Rattle.word.specs.{declared.Anchor.Anchor, Anchor.{anchor_of, anchor_word, cut_anchor, pack_anchor}}
use Rattle.word.proofs.Laws.{same-anchor, word_fields}
use Rattle.model.specs.Mirror.{mirror_status, mirror_anchor, mirror_word}

status_other : (s : ℕ) → mirror_status (suc (suc (suc s))) ≡ suc (suc (suc s))
unfolding mirror_status
status_other s = rw (ne_eqb (suc (suc (suc s))) 1 (λ e. omega arith), ne_eqb (suc (suc (suc s))) 2 (λ e. omega arith))

status_involutive : (s : ℕ) → mirror_status (mirror_status s) ≡ s
unfolding mirror_status
status_involutive zero = refl
status_involutive (suc zero) = refl
status_involutive (suc (suc zero)) = refl
status_involutive (suc (suc (suc s))) = ap mirror_status (status_other s) ∙ status_other s

status_small : (s : ℕ) → s < 4 → mirror_status s < 4
unfolding mirror_status
status_small zero h = omega arith
status_small (suc zero) h = omega arith
status_small (suc (suc zero)) h = omega arith
status_small (suc (suc (suc s))) h = omega (arith, status_other s)

status_cut : (s : ℕ) → s < 4 → mirror_status s % 2 ^ 2 ≡ mirror_status (s % 2 ^ 2)
status_cut s h =
    let kept : mirror_status s % 2 ^ 2 ≡ mirror_status s = omega (arith, status_small s h) in
    let same : s ≡ s % 2 ^ 2 = omega arith in
    kept ∙ ap mirror_status same

-- STABLE stays STABLE, and status 3 stays out of range.
pub status_stable : (s : ℕ) → eqb (mirror_status s) 0 ≡ eqb s 0
unfolding mirror_status
status_stable zero = refl
status_stable (suc zero) = refl
status_stable (suc (suc zero)) = refl
status_stable (suc (suc (suc s))) = ap (λ (n : ℕ). eqb n 0) (status_other s)

pub status_range : (s : ℕ) → leb (mirror_status s) 2 ≡ leb s 2
unfolding mirror_status
status_range zero = refl
status_range (suc zero) = refl
status_range (suc (suc zero)) = refl
status_range (suc (suc (suc s))) = ap (λ (n : ℕ). leb n 2) (status_other s)

-- The fields of a word come back from it; its tag may be any number.
fields_word : (a : Anchor) → a.status < 4 → a.left < 2 ^ 15 → a.right < 2 ^ 15 → anchor_of (anchor_word a) ≡ a
fields_word a s l r = same-anchor (omega arith)

pub mirror_fields : (w : ℕ) → anchor_of (mirror_word w) ≡ mirror_anchor (anchor_of w)
unfolding mirror_word
mirror_fields w = fields_word (mirror_anchor (anchor_of w)) (status_small (w / 2 ^ 30 % 2 ^ 2) (omega arith)) (omega arith) (omega arith)

pub mirror_involutive : (w : ℕ) → mirror_word (mirror_word w) ≡ w
unfolding mirror_word
mirror_involutive w =
    ap (λ (a : Anchor). anchor_word (mirror_anchor a)) (mirror_fields w)
    ∙ ap (λ (s : ℕ). anchor_word (record { tag = w / 2 ^ 32; status = s; left = w / 2 ^ 15 % 2 ^ 15; right = w % 2 ^ 15 }))
    (status_involutive (w / 2 ^ 30 % 2 ^ 2)) ∙ word_fields w

pub mirror_pack : (a : Anchor) → a.status < 4 → pack_anchor (mirror_anchor a) ≡ mirror_word (pack_anchor a)
unfolding mirror_word
mirror_pack a h =
    ap (λ (s : ℕ). anchor_word (record { tag = a.tag % 2 ^ 32; status = s; left = a.right % 2 ^ 15; right = a.left % 2 ^ 15 }))
    (status_cut a.status h)
    ∙ sym (ap (λ (b : Anchor). anchor_word (mirror_anchor b)) (fields_word (cut_anchor a) (omega arith) (omega arith) (omega arith)))

-- Words are equal just when their mirrors are.
pub mirror_equal : (v w : ℕ) → eqb (mirror_word v) (mirror_word w) ≡ eqb v w
mirror_equal v w = go (eqb v w) refl
  where
    go : (b : Bool) → eqb v w ≡ b → eqb (mirror_word v) (mirror_word w) ≡ b
    go true e = eq-eqb (mirror_word v) (mirror_word w) (ap mirror_word (eqb-true v w e))
    go false e = ne_eqb (mirror_word v) (mirror_word w) (λ h. eqb-false v w e (sym (mirror_involutive v) ∙ ap mirror_word h ∙ mirror_involutive w))
