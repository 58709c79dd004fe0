-- A sweep over a list: what it leaves at each place.
use mathlib.Core.{List.{List, ◌++◌}, Logic.{◌⊎◌, inl, inr}, Path.{◌≡◌, refl, sym, ap, ◌∙◌}}
use Prim.Native.Nat.{ℕ, zero, suc, ◌+◌, ◌≤◌, ◌<◌}
use native.Mathlib.Omega.{arith}
use lib.{ListN.{length, get_or, set, length-set, get_or-append}, Seq.{get_or-set_same, get_or-set_other, set-append_left}}
use Rattle.model.proofs.Tests.Truth.{decide_eq}
use Rattle.sheet_model.{specs.Words.list_of, proofs.ListOf.{as_list_of, get_d_list_of, length_list_of}}
use Rattle.sheet.specs.Squares.{sweep}

module _ {A : Type 0} where
  pub length_sweep : (z : A) (h : ℕ → A → A) (i n : ℕ) (l : List A) → length (sweep z h i n l) ≡ length l
  unfolding sweep
  length_sweep z h i zero l = refl
  length_sweep z h i (suc n) l = length_sweep z h (i + 1) n (set l i (h i (get_or l i z))) ∙ length-set l i (h i (get_or l i z))

  -- Elements before the sweep and beyond it stay.
  pub sweep-before : (z : A) (h : ℕ → A → A) (i n : ℕ) (l : List A) (j : ℕ) → j < i → get_or (sweep z h i n l) j z ≡ get_or l j z
  unfolding sweep
  sweep-before z h i zero l j g = refl
  sweep-before z h i (suc n) l j g =
      sweep-before z h (i + 1) n (set l i (h i (get_or l i z))) j (omega arith) ∙ get_or-set_other l i j (h i (get_or l i z)) z (omega arith)

  pub sweep-beyond : (z : A) (h : ℕ → A → A) (i n : ℕ) (l : List A) (j : ℕ) → i + n ≤ j → get_or (sweep z h i n l) j z ≡ get_or l j z
  unfolding sweep
  sweep-beyond z h i zero l j g = refl
  sweep-beyond z h i (suc n) l j g =
      sweep-beyond z h (i + 1) n (set l i (h i (get_or l i z))) j (omega arith) ∙ get_or-set_other l i j (h i (get_or l i z)) z (omega arith)

  pub sweep-at : (z : A) (h : ℕ → A → A) (i n : ℕ) (l : List A) (j : ℕ) → i ≤ j → j < i + n → j < length l
      → get_or (sweep z h i n l) j z ≡ h j (get_or l j z)
  unfolding sweep
  sweep-at z h i zero l j a b c = absurd (omega arith)
  sweep-at z h i (suc n) l j a b c = go (λ m. sweep-at z h (i + 1) n m j) (decide_eq j i)
    where
      v : A
      v = h i (get_or l i z)

      go : ((m : List A) → i + 1 ≤ j → j < (i + 1) + n → j < length m → get_or (sweep z h (i + 1) n m) j z ≡ h j (get_or m j z))
          → (j ≡ i) ⊎ (j ≡ i → ⊥) → get_or (sweep z h (i + 1) n (set l i (h i (get_or l i z)))) j z ≡ h j (get_or l j z)
      go ih (inl e) =
          sweep-before z h (i + 1) n (set l i v) j (omega arith)
          ∙ ap (λ (k : ℕ). get_or (set l i v) k z) e
          ∙ get_or-set_same l i v z (omega arith)
          ∙ ap (λ (k : ℕ). h k (get_or l k z)) (sym e)
      go ih (inr e) =
          ih (set l i v) (omega arith) (omega arith) (omega (arith, length-set l i v))
          ∙ ap (h j) (get_or-set_other l i j v z e)

  pub sweep-list_of : (z : A) (h : ℕ → A → A) (f : ℕ → A) (n : ℕ) → sweep z h 0 n (list_of f n) ≡ list_of (λ i. h i (f i)) n
  sweep-list_of z h f n =
      as_list_of z (sweep z h 0 n (list_of f n)) (λ i. h i (f i)) n (length_sweep z h 0 n (list_of f n) ∙ length_list_of f n)
      (λ i g. sweep-at z h 0 n (list_of f n) i (omega arith) (omega arith) (omega (arith, length_list_of f n)) ∙ ap (h i) (get_d_list_of f n i z g))

  pub sweep_append : (z : A) (h : ℕ → A → A) (i n : ℕ) (l t : List A) → i + n ≤ length l → sweep z h i n (l ++ t) ≡ sweep z h i n l ++ t
  unfolding sweep
  sweep_append z h i zero l t g = refl
  sweep_append z h i (suc n) l t g =
      ap (λ (v : A). sweep z h (i + 1) n (set (l ++ t) i (h i v))) (get_or-append l t z i (omega arith))
      ∙ ap (sweep z h (i + 1) n) (set-append_left l t i (h i (get_or l i z)) (omega arith))
      ∙ sweep_append z h (i + 1) n (set l i (h i (get_or l i z))) t (omega (arith, length-set l i (h i (get_or l i z))))
