-- A link word's lower half as one number: its slot, where no spare bit is set.
use mathlib.Core.{Path.{◌≡◌, refl, sym, subst, ◌∙◌}, Bool.{Bool, true, false, ◌&&◌, and-false}, Logic.{◌⊎◌, inl, inr}}
use Prim.Native.Nat.{ℕ, ◌<◌, ◌≤◌, ◌%◌, ◌/◌, min, max}
use native.Mathlib.Omega.{arith}
use lib.Dec.{leb, ltb, eqb}
use borrow.Author.Tests.{eqb-true, eqb-false, ltb-true, ltb-false, le-leb, lt-leb}
use Rattle.word.specs.Link.{link_of, spare_of}
use Rattle.model.specs.Sound.{link_sound}
use Rattle.sound.specs.Records.{read_sound}

-- What a greater of two numbers is.
pub most_of : (r a b : ℕ) → r ≡ max a b → (a ≤ r) × (b ≤ r) × ((r ≡ a) ⊎ (r ≡ b))
most_of r a b e = (omega arith, omega arith, by_test (ltb a b) refl)
  where
    by_test : (t : Bool) → ltb a b ≡ t → (r ≡ a) ⊎ (r ≡ b)
    by_test true l = let less = ltb-true a b l in inr (omega arith)
    by_test false l = let no = ltb-false a b l in inl (omega arith)

module _ (slots w : ℕ) where
  spare_set : (w / 32768 % 131072 ≡ 0 → ⊥) → 32767 < w % 4294967296
  spare_set other = omega arith

  spare_clear : w / 32768 % 131072 ≡ 0 → w % 4294967296 ≡ w % 32768
  spare_clear none = omega arith

  pub below : slots < 32767 → leb (w % 4294967296) slots ≡ link_sound slots w
  unfolding link_sound
  below few = by_spare (eqb (spare_of w) 0) refl
    where
      by_spare : (t : Bool) → eqb (spare_of w) 0 ≡ t → leb (w % 4294967296) slots ≡ (t && leb (link_of w).slot slots)
      by_spare true e = rw (spare_clear (eqb-true _ _ e))
      by_spare false e = let set = spare_set (eqb-false _ _ e) in lt-leb (w % 4294967296) slots (omega arith)

  pub beyond : 32767 ≤ slots → leb (w % 4294967296) 32767 ≡ link_sound slots w
  unfolding link_sound
  beyond many = by_spare (eqb (spare_of w) 0) refl
    where
      by_spare : (t : Bool) → eqb (spare_of w) 0 ≡ t → leb (w % 4294967296) 32767 ≡ (t && leb (link_of w).slot slots)
      by_spare true e =
          let slot : (link_of w).slot ≤ slots = omega arith in
          let half : w % 4294967296 ≤ 32767 = let same = spare_clear (eqb-true _ _ e) in omega arith in
          rw (le-leb _ _ slot, le-leb _ _ half)
      by_spare false e = let set = spare_set (eqb-false _ _ e) in lt-leb _ _ set

  pub by_least : (n : ℕ) → n ≡ min slots 32767 → leb (w % 4294967296) n ≡ link_sound slots w
  by_least n is = go (ltb slots 32767) refl
    where
      go : (t : Bool) → ltb slots 32767 ≡ t → leb (w % 4294967296) n ≡ link_sound slots w
      go true e =
          let few = ltb-true slots 32767 e in
          let same : n ≡ slots = omega (arith, is, few) in
          subst (λ (n : ℕ). leb (w % 4294967296) n ≡ link_sound slots w) (sym same) (below few)
      go false e =
          let many = ltb-false slots 32767 e in
          let same : n ≡ 32767 = omega (arith, is, many) in
          subst (λ (n : ℕ). leb (w % 4294967296) n ≡ link_sound slots w) (sym same) (beyond many)

  -- A neighbour and the link word, of which m is the greater one's number.
  module _ (x m : ℕ) (far : x ≤ m) (half : w % 4294967296 ≤ m) where
    pub one_beyond : (m ≡ x) ⊎ (m ≡ w % 4294967296) → slots < m → false ≡ read_sound slots x w
    unfolding read_sound
    one_beyond (inl e) lt = let z = lt-leb x slots (omega (arith, e, lt)) in rw z
    one_beyond (inr e) lt =
        let bad : link_sound slots w ≡ false = go (ltb slots 32767) refl in
        rw bad (sym (and-false (leb x slots)))
      where
        go : (t : Bool) → ltb slots 32767 ≡ t → link_sound slots w ≡ false
        go true k = sym (below (ltb-true slots 32767 k)) ∙ lt-leb (w % 4294967296) slots (omega (arith, e, lt))
        go false k = let many = ltb-false slots 32767 k in sym (beyond many) ∙ lt-leb (w % 4294967296) 32767 (omega (arith, e, lt, many))

    pub many_slots : m ≤ slots → 32767 < slots → leb (w % 4294967296) 32767 ≡ read_sound slots x w
    unfolding read_sound
    many_slots le many = let z = le-leb x slots (omega (arith, far, le)) in rw z (beyond (omega (arith, many)))

    pub few_slots : m ≤ slots → slots ≤ 32767 → true ≡ read_sound slots x w
    unfolding read_sound
    few_slots le few =
        let z = le-leb x slots (omega (arith, far, le)) in
        let y = le-leb (w % 4294967296) (min slots 32767) (omega (arith, half, le, few)) in
        rw z (sym y ∙ by_least (min slots 32767) refl)
