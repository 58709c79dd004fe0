-- Or with one bit sets that bit, and and with its complement clears it.
use mathlib.Core.Path.{◌≡◌, sym, ap, ap₂, ◌∙◌}
use Prim.Native.Nat.{ℕ, ◌+◌, ◌-◌, ◌*◌, ◌/◌, ◌%◌, ◌^◌, ◌<◌}
use native.Mathlib.{Nat.{mod-lt, mod-mod, add-zero, max-eq_right, mod-eq_of_lt}, Omega.arith}
use lib.{Dec.lit<, Pow.{pow_pos, split, shl_exact, shr_lt, ones_split, ones_lt, high_ones}}
use lib.Bits.{bit_and, bit_or, or_step, or_zero_r, or_block, and_block, and_mask, and_high}
use Rattle.model.specs.Tables.{put_bit}

or_one : (h : ℕ) → bit_or h 1 ≡ h / 2 * 2 + 1
or_one h =
    let l : h % 2 < 2 = mod-lt h (lit< tt) in
    or_step h 1 ∙ ap₂ (λ (x y : ℕ). x * 2 + y) (or_zero_r (h / 2)) (max-eq_right (omega arith))

-- at any width
module _ (width w i : ℕ) (hi : i < width) where
  one : (1 * 2 ^ i) % 2 ^ width ≡ 1 * 2 ^ i
  one = shl_exact 1 i width (lit< tt) (omega arith)

  pub or_bit : bit_or w ((1 * 2 ^ i) % 2 ^ width) ≡ put_bit w i 1
  or_bit =
      ap₂ bit_or (sym (split w i)) (one ∙ sym (add-zero (1 * 2 ^ i)))
      ∙ or_block i (w / 2 ^ i) 1 (w % 2 ^ i) 0 (mod-lt w (pow_pos i)) (pow_pos i)
      ∙ ap₂ (λ (x y : ℕ). x * 2 ^ i + y) (or_one (w / 2 ^ i)) (or_zero_r (w % 2 ^ i))

  -- the complement: ones above i, 0 at i, ones below
  mask : (j : ℕ) → j + 1 + i ≡ width → 2 ^ width - 1 - 1 * 2 ^ i ≡ (2 ^ j - 1) * 2 * 2 ^ i + (2 ^ i - 1)
  mask j e =
      let s : 2 ^ width - 1 ≡ ((2 ^ j - 1) * 2 + 1) * 2 ^ i + (2 ^ i - 1) =
      ap (λ (m : ℕ). 2 ^ m - 1) (sym e) ∙ ones_split (j + 1) i ∙ ap (λ (x : ℕ). x * 2 ^ i + (2 ^ i - 1)) (ones_split j 1) in
      omega arith

  pub and_bit : w < 2 ^ width → bit_and w (2 ^ width - 1 - (1 * 2 ^ i) % 2 ^ width) ≡ put_bit w i 0
  and_bit hw =
      let j : ℕ = width - 1 - i in
      let h : ℕ = w / 2 ^ i in
      let e : j + 1 + i ≡ width = omega arith in
      let b : h < 2 ^ (j + 1) = shr_lt (j + 1) i (rw e hw) in
      let top : bit_and h ((2 ^ j - 1) * 2) ≡ h / 2 * 2 + 0 =
      ap (bit_and h) (sym (high_ones j 1)) ∙ and_high h j 1 ∙ ap (λ (x : ℕ). x * 2) (mod-eq_of_lt (shr_lt j 1 b)) ∙ sym (add-zero (h / 2 * 2)) in
      ap₂ bit_and (sym (split w i)) (ap (λ (x : ℕ). 2 ^ width - 1 - x) one ∙ mask j e)
      ∙ and_block i h ((2 ^ j - 1) * 2) (w % 2 ^ i) (2 ^ i - 1) (mod-lt w (pow_pos i)) (ones_lt i)
      ∙ ap₂ (λ (x y : ℕ). x * 2 ^ i + y) top (and_mask (w % 2 ^ i) i ∙ mod-mod w (2 ^ i))
