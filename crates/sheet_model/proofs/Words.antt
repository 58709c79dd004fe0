-- The bits of a word are the marks that it was made of.
use mathlib.Core.{Bool.{Bool, true, false}, Path.{◌≡◌, refl, sym, ap, ◌∙◌}}
use Prim.Native.Nat.{ℕ, zero, suc, ◌+◌, ◌*◌, ◌/◌, ◌%◌, ◌^◌, ◌<◌}
use native.Mathlib.{Nat.{div-div-eq-div-mul, pow-succ'}, Omega.arith}
use Rattle.sheet_model.specs.Words.{mark, bits_of}

small : (t : Bool) → mark t < 2
small true = omega arith
small false = omega arith

pub half : (t : Bool) (x : ℕ) → (mark t + 2 * x) / 2 ≡ x
half t x = let h = small t in omega arith

pub odd : (t : Bool) (x : ℕ) → (mark t + 2 * x) % 2 ≡ mark t
odd t x = let h = small t in omega arith

pub bit_at : (n : ℕ) (f : ℕ → Bool) (k : ℕ) → k < n → bits_of f n / 2 ^ k % 2 ≡ mark (f k)
unfolding bits_of
bit_at zero f k h = absurd (omega arith)
bit_at (suc n) f zero h = ap (λ (x : ℕ). x % 2) (over_one (mark (f 0) + 2 * bits_of (λ b. f (suc b)) n)) ∙ odd (f 0) (bits_of (λ b. f (suc b)) n)
  where
    over_one : (x : ℕ) → x / 1 ≡ x
    over_one x = omega arith
bit_at (suc n) f (suc k) h =
    let w = mark (f 0) + 2 * bits_of (λ b. f (suc b)) n in
    ap (λ (x : ℕ). w / x % 2) (pow-succ' 2 k)
    ∙ ap (λ (x : ℕ). x % 2) (sym (div-div-eq-div-mul w 2 (2 ^ k)))
    ∙ ap (λ (x : ℕ). x / 2 ^ k % 2) (half (f 0) (bits_of (λ b. f (suc b)) n))
    ∙ bit_at n (λ b. f (suc b)) k (omega arith)

-- A mark that is 1 stands for true.
pub marked-is : (t : Bool) → mark t ≡ 1 → t ≡ true
marked-is true e = refl
marked-is false e = absurd (omega arith)
