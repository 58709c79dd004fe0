-- Lists given by their elements.
use mathlib.Core.{List.{List, ◌∷◌}, Path.{◌≡◌, refl, sym, ap, ◌∙◌}}
use Prim.Native.Nat.{ℕ, zero, suc, ◌<◌}
use native.Mathlib.Omega.{arith}
use lib.{ListN.{length, get_or}, Seq.ext_get_or}
use Rattle.sheet_model.specs.Words.{list_of}

module _ {A : Type 0} where
  pub length_list_of : (f : ℕ → A) (n : ℕ) → length (list_of f n) ≡ n
  unfolding list_of
  length_list_of f zero = refl
  length_list_of f (suc n) = ap suc (length_list_of (λ i. f (suc i)) n)

  pub get_d_list_of : (f : ℕ → A) (n i : ℕ) (d : A) → i < n → get_or (list_of f n) i d ≡ f i
  unfolding list_of
  get_d_list_of f zero i d h = absurd (omega arith)
  get_d_list_of f (suc n) zero d h = refl
  get_d_list_of f (suc n) (suc i) d h = get_d_list_of (λ i. f (suc i)) n i d (omega arith)

  -- A list is given by its elements.
  pub as_list_of : (d : A) (l : List A) (f : ℕ → A) (n : ℕ) → length l ≡ n → ((i : ℕ) → i < n → get_or l i d ≡ f i) → l ≡ list_of f n
  as_list_of d l f n e h =
      ext_get_or d l (list_of f n) (e ∙ sym (length_list_of f n))
      (λ i g. let k : i < n = omega arith in h i k ∙ sym (get_d_list_of f n i d k))

  pub ext_list_of : (f g : ℕ → A) (n : ℕ) → ((i : ℕ) → i < n → f i ≡ g i) → list_of f n ≡ list_of g n
  unfolding list_of
  ext_list_of f g zero h = refl
  ext_list_of f g (suc n) h = λ j. h 0 (omega arith) j ∷ ext_list_of (λ i. f (suc i)) (λ i. g (suc i)) n (λ i k. h (suc i) (omega arith)) j
