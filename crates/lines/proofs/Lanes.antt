-- A word as lanes of k bits, the lowest first: the same mask on each lane, and each lane cut in two.
use Prim.Native.Nat.{ℕ, ◌+◌, ◌-◌, ◌*◌, ◌/◌, ◌%◌, ◌^◌, ◌<◌, ◌≤◌}
use mathlib.Core.{Path.{◌≡◌, refl, sym, ap, ap₂, ◌∙◌}, List.{List, [], ◌∷◌, map}}
use native.Mathlib.Nat.{mod-lt, lt_of_lt_of_le, add-mul, zero-mul, mul_assoc, mul_right_comm, mul-div_cancel}
use native.Mathlib.Omega.{arith}
use lib.{Pow.{pow-add, pow_pos}, Bits.{bit_and, and_block, and_mask, and_high}}

abbrev pub word : ℕ → List ℕ → ℕ
word k [] = 0
word k (x ∷ xs) = word k xs * 2 ^ k + x

-- m in as many lanes as xs has
abbrev pub all : ℕ → ℕ → List ℕ → ℕ
all k m xs = word k (map (λ (x : ℕ). m) xs)

abbrev pub Below : ℕ → List ℕ → Type 0
Below n [] = Unit {0}
Below n (x ∷ xs) = (x < n) × Below n xs

-- f is what the mask m does to a lane
and_lanes : (k m : ℕ) (f : ℕ → ℕ) (xs : List ℕ) → m < 2 ^ k → ((x : ℕ) → bit_and x m ≡ f x) → Below (2 ^ k) xs
    → bit_and (word k xs) (all k m xs) ≡ word k (map f xs)
and_lanes k m f [] h e b = refl
and_lanes k m f (x ∷ xs) h e b =
    and_block k (word k xs) (all k m xs) x m b.0 h
    ∙ ap₂ (λ (y z : ℕ). y * 2 ^ k + z) (and_lanes k m f xs h e b.1) (e x)

word_mul : (k c : ℕ) (f : ℕ → ℕ) (xs : List ℕ) → word k (map f xs) * c ≡ word k (map (λ (x : ℕ). f x * c) xs)
word_mul k c f [] = zero-mul c
word_mul k c f (x ∷ xs) =
    rw (add-mul (word k (map f xs) * 2 ^ k) (f x) c, mul_right_comm (word k (map f xs)) (2 ^ k) c, word_mul k c f xs)

-- of each lane its last 2 * i bits: the high i, then the low i
abbrev high : ℕ → ℕ → ℕ
high i x = x / 2 ^ i % 2 ^ i

abbrev low : ℕ → ℕ → ℕ
low i x = x % 2 ^ i

abbrev pub cut : ℕ → List ℕ → List ℕ
cut i [] = []
cut i (x ∷ xs) = high i x ∷ low i x ∷ cut i xs

pub cut_below : (i n : ℕ) (xs : List ℕ) → 2 ^ i ≤ n → Below n (cut i xs)
cut_below i n [] h = tt
cut_below i n (x ∷ xs) h =
    (lt_of_lt_of_le (mod-lt (x / 2 ^ i) (pow_pos i)) h, (lt_of_lt_of_le (mod-lt x (pow_pos i)) h, cut_below i n xs h))

regroup : (l h a b p : ℕ) → (l * (p * p) + a) * p + (h * (p * p) + b) ≡ ((l * p + h) * p + a) * p + b
regroup l h a b p =
    rw (
      ← mul_assoc l p p,
      ← mul_assoc h p p,
      add-mul (l * p) h p,
      add-mul (l * p * p) a p,
      add-mul (l * p * p + h * p) a p,
      add-mul (l * p * p) (h * p) p,
    ) (omega arith)

word_cut : (k i : ℕ) (xs : List ℕ) → word (k + k) (map (low i) xs) * 2 ^ k + word (k + k) (map (high i) xs) ≡ word k (cut i xs)
word_cut k i [] = ap (λ (x : ℕ). x + 0) (zero-mul (2 ^ k))
word_cut k i (x ∷ xs) = rw (← word_cut k i xs, pow-add 2 k k) (regroup _ _ (low i x) (high i x) (2 ^ k))

-- lanes of twice k bits become lanes of k
pub and_cut : (k i : ℕ) (xs : List ℕ) → 2 ^ i - 1 < 2 ^ (k + k) → 2 ^ (i + i) - 2 ^ i < 2 ^ (k + k) → Below (2 ^ (k + k)) xs
    → bit_and (word (k + k) xs) (all (k + k) (2 ^ i - 1) xs) * 2 ^ k + bit_and (word (k + k) xs) (all (k + k) (2 ^ (i + i) - 2 ^ i) xs) / 2 ^ i
    ≡ word k (cut i xs)
and_cut k i xs l h b =
    let highs = and_lanes (k + k) (2 ^ (i + i) - 2 ^ i) (λ x. high i x * 2 ^ i) xs h (λ x. and_high x i i) b ∙ sym (word_mul (k + k) (2 ^ i) (high i) xs) in
    ap₂ (λ (x y : ℕ). x * 2 ^ k + y)
    (and_lanes (k + k) (2 ^ i - 1) (low i) xs l (λ x. and_mask x i) b)
    (ap (λ (x : ℕ). x / 2 ^ i) highs ∙ mul-div_cancel (word (k + k) (map (high i) xs)) (pow_pos i))
    ∙ word_cut k i xs
