-- What is sound is sound mirrored: every test and every refusal of a start is the same.
use mathlib.Core.{Path.{◌≡◌, refl, ap, ◌∙◌, sym}, Bool.{Bool, true, false, ◌&&◌, ◌||◌, not, beq, cond}}
use Prim.Native.Nat.{ℕ, zero, suc, ◌/◌}
use native.Mathlib.Omega.{arith}
use lib.{Dec.{eqb, leb, ltb}, ListN.length}
use borrow.Author.Tests.{eqb-true, eqb-false, eq-eqb, ne_eqb}
use Rattle.word.specs.{declared.Anchor.Anchor, Anchor.anchor_of}
use Rattle.model.specs.{declared.{Control.Control, Call.Call, Asked.Asked}, Tables.{Tables, is_pooled}}
use Rattle.model.specs.{Sound.{from1, anchor_sound, control_sound, record_sound, rows_fit}, Mirror.mirror_record}
use Rattle.model.specs.Refusals.{Lent, fits, start_refusal}
use Rattle.model.specs.Mirror.{mirror_side, mirror_anchor, mirror_word, mirror_control, mirror_tables, mirror_busy}
use Rattle.model.proofs.Laws.Mirror.Packed.{status_stable, status_range, mirror_fields}

pub eqb_sym : (m n : ℕ) → eqb m n ≡ eqb n m
eqb_sym m n = go (eqb n m) refl
  where
    go : (b : Bool) → eqb n m ≡ b → eqb m n ≡ b
    go true e = eq-eqb m n (sym (eqb-true n m e))
    go false e = ne_eqb m n (λ h. eqb-false n m e (sym h))

side_range : (side : ℕ) → leb (mirror_side side) 1 ≡ leb side 1
unfolding mirror_side
side_range zero = refl
side_range (suc zero) = refl
side_range (suc (suc side)) = rw (ne_eqb (suc (suc side)) 0 (λ e. omega arith), ne_eqb (suc (suc side)) 1 (λ e. omega arith))

-- The tests of the two ends, exchanged.
swap_ends : (s l r l₀ r₀ x : Bool) → s && (r && (l && (beq r₀ l₀ && x))) ≡ s && (l && (r && (beq l₀ r₀ && x)))
swap_ends false l r l₀ r₀ x = refl
swap_ends true true true true true x = refl
swap_ends true true true true false x = refl
swap_ends true true true false true x = refl
swap_ends true true true false false x = refl
swap_ends true true false l₀ r₀ x = refl
swap_ends true false true l₀ r₀ x = refl
swap_ends true false false l₀ r₀ x = refl

pub anchor_sound_mirror : (slots : ℕ) (a : Anchor) → anchor_sound slots (mirror_anchor a) ≡ anchor_sound slots a
unfolding anchor_sound
anchor_sound_mirror slots a =
    rw (status_range a.status, status_stable a.status, eqb_sym a.right a.left)
    (swap_ends (leb a.status 2) (leb a.left slots) (leb a.right slots) (eqb a.left 0) (eqb a.right 0)
    (eqb a.status 0 || not (eqb a.left a.right)))

pub word_sound_mirror : (slots w : ℕ) → anchor_sound slots (anchor_of (mirror_word w)) ≡ anchor_sound slots (anchor_of w)
word_sound_mirror slots w = ap (anchor_sound slots) (mirror_fields w) ∙ anchor_sound_mirror slots (anchor_of w)

pub tag_mirror : (w : ℕ) → (anchor_of (mirror_word w)).tag ≡ (anchor_of w).tag
tag_mirror w = ap (λ (a : Anchor). a.tag) (mirror_fields w)

stable_mirror : (w : ℕ) → eqb (anchor_of (mirror_word w)).status 0 ≡ eqb (anchor_of w).status 0
stable_mirror w = ap (λ (a : Anchor). eqb a.status 0) (mirror_fields w) ∙ status_stable (anchor_of w).status

pub control_sound_mirror : (c : Control) → control_sound (mirror_control c) ≡ control_sound c
unfolding control_sound
control_sound_mirror c = ap (λ (b : Bool). from1 16 c.tasks && (from1 1023 c.slots && (b && leb c.pooled 1)))
    (word_sound_mirror c.slots c.anchor)

pub busy_sound_mirror : (pooled : Bool) (slots : ℕ) (r : Call) → record_sound pooled slots (mirror_busy r) ≡ record_sound pooled slots r
unfolding record_sound
busy_sound_mirror pooled slots r = rw (side_range r.side, word_sound_mirror slots r.seen, stable_mirror r.seen) refl

pub record_sound_mirror : (pooled : Bool) (slots : ℕ) (r : Call) → record_sound pooled slots (mirror_record r) ≡ record_sound pooled slots r
unfolding mirror_record
record_sound_mirror pooled slots r = go (eqb r.place 0)
  where
    go : (b : Bool) → record_sound pooled slots (cond b r (mirror_busy r)) ≡ record_sound pooled slots r
    go true = refl
    go false = busy_sound_mirror pooled slots r

pub place_mirror : (r : Call) → (mirror_record r).place ≡ r.place
unfolding mirror_record
place_mirror r = go (eqb r.place 0)
  where
    go : (b : Bool) → (cond b r (mirror_busy r)).place ≡ r.place
    go true = refl
    go false = refl

pub rows_fit_mirror : (pooled : Bool) (slots : ℕ) (q : Tables) → rows_fit pooled slots (mirror_tables q) ≡ rows_fit pooled slots q
unfolding rows_fit
rows_fit_mirror pooled slots q = go (ltb slots (length q.lefts)) (ltb slots (length q.rights))
    (ltb slots (length q.labels) && (ltb (slots / 64) (length q.marks) && (not pooled || ltb slots (length q.next))))
  where
    go : (l r rest : Bool) → r && (l && rest) ≡ l && (r && rest)
    go true true rest = refl
    go true false rest = refl
    go false true rest = refl
    go false false rest = refl

pub start_refusal_mirror : (q : Tables) (p : Lent) (r : Call) (side : ℕ) (a : Asked)
    → start_refusal (mirror_control q.control) (fits (mirror_tables q)) p (mirror_record r) (mirror_side side) a
    ≡ start_refusal q.control (fits q) p r side a
unfolding start_refusal
start_refusal_mirror q p r side a =
    rw (
      control_sound_mirror q.control,
      rows_fit_mirror (is_pooled q.control) q.control.slots q,
      side_range side,
      record_sound_mirror (is_pooled q.control) q.control.slots r,
      place_mirror r,
      tag_mirror q.control.anchor,
    ) refl
