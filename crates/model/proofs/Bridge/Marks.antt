-- A mark that is put is read, and every other mark stays.
use mathlib.Core.{List.List, Path.{◌∙◌, ◌≡◌, ap, subst⁻¹, sym}}
use Prim.Native.Nat.{◌%◌, ◌*◌, ◌+◌, ◌-◌, ◌/◌, ◌<◌, ◌^◌, ℕ}
use native.Mathlib.{Decide.{dec_lt, ℕ_discrete}, Nat.mod-lt, Omega.arith}
use lib.{Dec.eqb, ListN.{get_or, length}, Pow.{field, high, low, mod-mod-pow, pow_pos, shr-shr}}
use lib.Seq.{get_or-set_other, get_or-set_same}
use Rattle.model.specs.Tables.{bit, marked, put_bit, with_mark}

-- A bit below i is one of the i low bits.
low_bit : (x i k : ℕ) → k < i → bit (x % 2 ^ i) k ≡ bit x k
low_bit x i k h =
    let e : i ≡ (i - k - 1) + 1 + k = omega arith in
    subst⁻¹ (λ (m : ℕ). bit (x % 2 ^ m) k ≡ bit x k) e
    (ap (λ (y : ℕ). y % 2) (field x ((i - k - 1) + 1) k) ∙ mod-mod-pow (x / 2 ^ k) (i - k - 1) 1)

-- A bit above i is one of the bits that are left after a shift by i + 1.
high_bit : (x i k : ℕ) → i < k → bit x k ≡ bit (x / 2 ^ i / 2) (k - i - 1)
high_bit x i k h =
    let e : k ≡ i + 1 + (k - i - 1) = omega arith in
    subst⁻¹ (λ (m : ℕ). bit x m ≡ bit (x / 2 ^ i / 2) (k - i - 1)) e
    (ap (λ (y : ℕ). y % 2) (sym (ap (λ (y : ℕ). y / 2 ^ (k - i - 1)) (shr-shr x i 1) ∙ shr-shr x (i + 1) (k - i - 1))))

module _ (w i b : ℕ) (hb : b < 2) where
  put-high : put_bit w i b / 2 ^ i ≡ w / 2 ^ i / 2 * 2 + b
  put-high = high (w / 2 ^ i / 2 * 2 + b) i (mod-lt w (pow_pos i))

  put_same : bit (put_bit w i b) i ≡ b
  put_same = ap (λ (x : ℕ). x % 2) put-high ∙ omega arith

  put_other : (k : ℕ) → (k ≡ i → ⊥) → bit (put_bit w i b) k ≡ bit w k
  put_other k ne = go (dec_lt k i)
    where
      go : Dec (k < i) → bit (put_bit w i b) k ≡ bit w k
      go (yes h) =
          sym (low_bit (put_bit w i b) i k h) ∙ ap (λ (x : ℕ). bit x k) (low (w / 2 ^ i / 2 * 2 + b) i (mod-lt w (pow_pos i))) ∙ low_bit w i k h
      go (no h) =
          let g : i < k = omega arith in
          let e : (w / 2 ^ i / 2 * 2 + b) / 2 ≡ w / 2 ^ i / 2 = omega arith in
          high_bit (put_bit w i b) i k g ∙ ap (λ (x : ℕ). bit x (k - i - 1)) (ap (λ (x : ℕ). x / 2) put-high ∙ e) ∙ sym (high_bit w i k g)

module _ (ws : List ℕ) (n b : ℕ) (hb : b < 2) (hn : n / 64 < length ws) where
  pub marked-same : marked (with_mark ws n b) n ≡ eqb b 1
  marked-same = rw (get_or-set_same ws (n / 64) _ 0 hn, put_same (get_or ws (n / 64) 0) (n % 64) b hb)

  pub marked_other : (m : ℕ) → (m ≡ n → ⊥) → marked (with_mark ws n b) m ≡ marked ws m
  marked_other m ne = go (ℕ_discrete (m / 64) (n / 64))
    where
      go : Dec (m / 64 ≡ n / 64) → marked (with_mark ws n b) m ≡ marked ws m
      go (no h) = rw (get_or-set_other ws (n / 64) (m / 64) _ 0 h)
      go (yes e) =
          let d : m % 64 ≡ n % 64 → ⊥ = λ q. ne (omega arith) in
          rw (e, get_or-set_same ws (n / 64) _ 0 hn, put_other (get_or ws (n / 64) 0) (n % 64) b hb (m % 64) d)
