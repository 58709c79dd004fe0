-- What a walk has noted of each listed label: its lowest and its highest position.
use mathlib.Core.{Bool.{Bool, true, false, cond}, List.{List, [], ◌∷◌}, Path.{◌≡◌, refl, sym, ap, ◌∙◌}}
use Prim.Native.Nat.{ℕ, zero, suc, ◌≤◌, ◌<◌, min, max}
use native.Mathlib.Omega.{arith}
use lib.{Dec.eqb, ListN.{length, get_or, set, replicate, length-set, get_or-replicate}, Seq.{get_or-set_same, get_or-set_other}}
use borrow.Author.Tests.{eqb-true, eqb-false, eq-eqb, ne_eqb}
use Rattle.model.{specs.declared.Entry.Entry, proofs.Tests.Truth.or-false}
use Rattle.sheet_model.specs.Sheet.{any, twice}
use Rattle.walk.specs.Over.{each}
use Rattle.sheet.specs.Extents.{unseen, Noting, place_of, lower, higher, noted, begun, first_at, next_at}
use Rattle.sheet.proofs.Crossing.{lowest, highest, low-bound, lower-is, lower_min, higher_max}

-- Some entries noted one after the other.
abbrev pub noted_all : Bool → List ℕ → List Entry → Noting
noted_all up listed l = each (noted up listed) (begun up unseen) l

any_at : (p : ℕ → Bool) (l : List ℕ) (i : ℕ) → any p l ≡ false → i < length l → p (get_or l i 0) ≡ false
any_at p [] i e h = absurd (omega arith)
any_at p (x ∷ l) zero e h = (or-false (p x) (any p l) e).0
any_at p (x ∷ l) (suc i) e h = any_at p l i (or-false (p x) (any p l) e).1 (omega arith)

place-label : (x : ℕ) (l : List ℕ) (k : ℕ) → place_of x l ≡ k → k < length l → x ≡ get_or l k 0
unfolding place_of
place-label x [] k e h = absurd (omega arith)
place-label x (y ∷ l) k e h = go k e h (eqb x y) refl (λ j. place-label x l j)
  where
    go : (k : ℕ) → cond (eqb x y) 0 (suc (place_of x l)) ≡ k → k < suc (length l) → (b : Bool) → eqb x y ≡ b
        → ((j : ℕ) → place_of x l ≡ j → j < length l → x ≡ get_or l j 0) → x ≡ get_or (y ∷ l) k 0
    go zero e h true z ih = eqb-true x y z
    go (suc k) e h true z ih = let w : 0 ≡ suc k = rw z at e in absurd (omega arith)
    go zero e h false z ih = let w : suc (place_of x l) ≡ 0 = rw z at e in absurd (omega arith)
    go (suc k) e h false z ih = let w : suc (place_of x l) ≡ suc k = rw z at e in ih k (omega arith) (omega arith)

-- Listed labels are different, so each has one place.
pub label-place : (l : List ℕ) (k : ℕ) → twice l ≡ false → k < length l → place_of (get_or l k 0) l ≡ k
unfolding place_of
label-place [] k e h = absurd (omega arith)
label-place (y ∷ l) zero e h = rw (eq-eqb y y refl)
label-place (y ∷ l) (suc k) e h =
    let z = or-false (any (eqb y) l) (twice l) e in
    rw (ne_eqb (get_or l k 0) y (λ w. eqb-false y (get_or l k 0) (any_at (eqb y) l k z.0 (omega arith)) (sym w)))
    (ap suc (label-place l k z.1 (omega arith)))

module _ (listed : List ℕ) (once : twice listed ≡ false) (k : ℕ) (here : k < length listed) where
  abbrev own : ℕ
  own = get_or listed k 0

  -- One label noted changes the entry of its own place.
  put-at : (x v : ℕ) (t : List ℕ) → k < length t → x ≡ own → get_or (set t (place_of x listed) v) k 0 ≡ v
  put-at x v t h e =
      ap (λ (p : ℕ). get_or (set t p v) k 0) (ap (λ (y : ℕ). place_of y listed) e ∙ label-place listed k once here) ∙ get_or-set_same t k v 0 h

  put_other : (x v : ℕ) (t : List ℕ) → (x ≡ own → ⊥) → get_or (set t (place_of x listed) v) k 0 ≡ get_or t k 0
  put_other x v t e = get_or-set_other t (place_of x listed) k v 0 (λ z. e (place-label x listed k (sym z) here))

  low_one : (up : Bool) (s : Noting) (y : Entry) → k < length s.low
      → get_or (noted up listed s y).low k 0 ≡ cond (eqb y.label own) (lower s.at (get_or s.low k 0)) (get_or s.low k 0)
  low_one up s y h = go (eqb x own) refl
    where
      x : ℕ
      x = y.label

      at-place : x ≡ own → place_of x listed ≡ k
      at-place z = ap (λ (y : ℕ). place_of y listed) z ∙ label-place listed k once here

      go : (b : Bool) → eqb x own ≡ b → get_or (noted up listed s y).low k 0 ≡ cond b (lower s.at (get_or s.low k 0)) (get_or s.low k 0)
      go true z = put-at x _ s.low h (eqb-true x own z) ∙ ap (λ (p : ℕ). lower s.at (get_or s.low p 0)) (at-place (eqb-true x own z))
      go false z = put_other x _ s.low (eqb-false x own z)

  high_one : (up : Bool) (s : Noting) (y : Entry) → k < length s.high
      → get_or (noted up listed s y).high k 0 ≡ cond (eqb y.label own) (higher s.at (get_or s.high k 0)) (get_or s.high k 0)
  high_one up s y h = go (eqb x own) refl
    where
      x : ℕ
      x = y.label

      at-place : x ≡ own → place_of x listed ≡ k
      at-place z = ap (λ (y : ℕ). place_of y listed) z ∙ label-place listed k once here

      go : (b : Bool) → eqb x own ≡ b → get_or (noted up listed s y).high k 0 ≡ cond b (higher s.at (get_or s.high k 0)) (get_or s.high k 0)
      go true z = put-at x _ s.high h (eqb-true x own z) ∙ ap (λ (p : ℕ). higher s.at (get_or s.high p 0)) (at-place (eqb-true x own z))
      go false z = put_other x _ s.high (eqb-false x own z)

  low_from : (up : Bool) (l : List Entry) (s : Noting) → k < length s.low → get_or s.low k 0 ≤ 1024
      → get_or (each (noted up listed) s l).low k 0 ≡ min (lowest up s.at own l) (get_or s.low k 0)
  unfolding lowest
  low_from up [] s h g = omega arith
  low_from up (x ∷ l) s h g =
      let z = low_one up s x h in
      let t =
      low_from up l (noted up listed s x)
      (omega (arith, length-set s.low (place_of x.label listed) (lower s.at (get_or s.low (place_of x.label listed) 0))))
      (bound (eqb x.label own) z) in
      t ∙ ap (min (lowest up (next_at up s.at) own l)) z ∙ go (eqb x.label own) (get_or s.low k 0) (lowest up (next_at up s.at) own l)
    where
      bound : (b : Bool) {r : ℕ} → r ≡ cond b (lower s.at (get_or s.low k 0)) (get_or s.low k 0) → r ≤ 1024
      bound true z = let w = (lower-is s.at (get_or s.low k 0)).two in omega arith
      bound false z = omega arith

      go : (b : Bool) (v r : ℕ) → min r (cond b (lower s.at v) v) ≡ min (cond b (lower s.at r) r) v
      go true v r = rw (lower_min s.at v, lower_min s.at r) (omega arith)
      go false v r = refl

  high_from : (up : Bool) (l : List Entry) (s : Noting) → k < length s.high
      → get_or (each (noted up listed) s l).high k 0 ≡ max (highest up s.at own l) (get_or s.high k 0)
  unfolding highest
  high_from up [] s h = omega arith
  high_from up (x ∷ l) s h =
      let z = high_one up s x h in
      let t =
      high_from up l (noted up listed s x)
      (omega (arith, length-set s.high (place_of x.label listed) (higher s.at (get_or s.high (place_of x.label listed) 0)))) in
      t ∙ ap (max (highest up (next_at up s.at) own l)) z ∙ go (eqb x.label own) (get_or s.high k 0) (highest up (next_at up s.at) own l)
    where
      go : (b : Bool) (v r : ℕ) → max r (cond b (higher s.at v) v) ≡ max (cond b (higher s.at r) r) v
      go true v r = rw (higher_max s.at v, higher_max s.at r) (omega arith)
      go false v r = refl

  module _ (small : length listed ≤ 32) (up : Bool) (l : List Entry) where
    pub low-noted : get_or (noted_all up listed l).low k 0 ≡ lowest up (first_at up) own l
    low-noted =
        let v : ◌≡◌ {A = ℕ} (get_or (replicate 32 1024) k 0) 1024 = get_or-replicate 32 k 1024 0 (omega arith) in
        low_from up l (begun up unseen) (omega arith) (omega arith) ∙ (let b = low-bound up (first_at up) own l in omega arith)

    pub high-noted : get_or (noted_all up listed l).high k 0 ≡ highest up (first_at up) own l
    high-noted =
        let v : ◌≡◌ {A = ℕ} (get_or (replicate 32 0) k 0) 0 = get_or-replicate 32 k 0 0 (omega arith) in
        high_from up l (begun up unseen) (omega arith) ∙ omega arith
