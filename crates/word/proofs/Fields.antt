-- Fields cut to their widths and joined into a word by shifts and or: the word is a sum.
use mathlib.Core.Path.{◌≡◌, ap, ap₂, ◌∙◌}
use Prim.Native.Nat.{ℕ, ◌+◌, ◌-◌, ◌*◌, ◌%◌, ◌^◌, ◌<◌}
use native.Mathlib.Nat.{mod-lt, lt_of_lt_of_le}
use lib.{Dec.{T, leb, leb→le}, Arith.digits_lt, Pow.{pow-add, pow_pos, pow_mono, shl_exact}}
use lib.Bits.{bit_and, bit_or, or_shifted, and_mask}

-- the machine's word is the number n, of k bits
abbrev pub Holds : ℕ → ℕ → ℕ → Type 0
Holds k word n = (word ≡ n) × (n < 2 ^ k)

-- `x & mask`, with a mask of j ones, where k bits are free
pub low : (j k : ℕ) (x : ℕ) → T (leb j k) → Holds k (bit_and x (2 ^ j - 1)) (x % 2 ^ j)
low j k x t = (and_mask x j, lt_of_lt_of_le (mod-lt x (pow_pos j)) (pow_mono (leb→le j k t)))

-- `((x & mask) << k) | word`, with a mask of j ones
pub field : (j k : ℕ) (x : ℕ) {word n : ℕ} → T (leb (j + k) 64) → Holds k word n
    → Holds (j + k) (bit_or ((bit_and x (2 ^ j - 1) * 2 ^ k) % 2 ^ 64) word) (x % 2 ^ j * 2 ^ k + n)
field j k x {word} {n} t l =
    let h : x % 2 ^ j < 2 ^ j = mod-lt x (pow_pos j) in (
      ap₂ (λ (a b : ℕ). bit_or ((a * 2 ^ k) % 2 ^ 64) b) (and_mask x j) l.0 ∙ ap (λ (a : ℕ). bit_or a n) (shl_exact j k 64 h (leb→le (j + k) 64 t))
          ∙ or_shifted (x % 2 ^ j) k n l.1,
      rw (pow-add 2 j k) (digits_lt h l.1),
    )
