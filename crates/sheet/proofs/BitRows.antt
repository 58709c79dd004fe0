-- Rows of bits show their marks, and the words of #112 hold the chained rules.
use mathlib.Core.{Bool.{Bool, true, false, ◌||◌}, List.{List, ◌++◌}, Path.{◌≡◌, refl, sym, ap, ◌∙◌}}
use Prim.Native.Nat.{ℕ, zero, suc, ◌+◌, ◌*◌, ◌^◌, ◌≤◌, ◌<◌, max}
use native.Mathlib.{Nat.pow-succ', Omega.arith}
use lib.{Bits.{bit_or, or_step}, Dec.eqb, ListN.{length, replicate, length-append}}
use borrow.Author.Tests.{eq-eqb, ne_eqb, eqb-true, eqb-false}
use Rattle.model.proofs.Tests.Truth.{split}
use Rattle.sheet_model.specs.{Sheet.{any, outside}, Words.{list_of, mark, linked, bits_of, words_of}}
use Rattle.sheet_model.proofs.{Words.{bit_at, half, odd}, ListOf.length_list_of}
use Rattle.sheet.specs.Squares.{bit_row, rounds, rules_marked}
use Rattle.sheet.proofs.Rounds.{Shows, marks-chained}

abbrev pub bits : (ℕ → Bool) → ℕ
bits f = bits_of f 32

same_bits : (n : ℕ) (f g : ℕ → Bool) → ((b : ℕ) → b < n → f b ≡ g b) → bits_of f n ≡ bits_of g n
unfolding bits_of
same_bits zero f g h = refl
same_bits (suc n) f g h =
    λ i. mark (h 0 (omega arith) i) + 2 * same_bits n (λ b. f (suc b)) (λ b. g (suc b)) (λ b k. h (suc b) (omega arith)) i

or_bits : (n : ℕ) (f g : ℕ → Bool) → bit_or (bits_of f n) (bits_of g n) ≡ bits_of (λ b. f b || g b) n
unfolding bits_of
or_bits zero f g = refl
or_bits (suc n) f g =
    let x = bits_of (λ b. f (suc b)) n in
    let y = bits_of (λ b. g (suc b)) n in
    or_step (mark (f 0) + 2 * x) (mark (g 0) + 2 * y)
    ∙ (λ i. bit_or (half (f 0) x i) (half (g 0) y i) * 2 + max (odd (f 0) x i) (odd (g 0) y i))
    ∙ (λ i. or_bits n (λ b. f (suc b)) (λ b. g (suc b)) i * 2 + max_mark (f 0) (g 0) i)
    ∙ turn (bits_of (λ b. f (suc b) || g (suc b)) n) (mark (f 0 || g 0))
  where
    max_mark : (a b : Bool) → max (mark a) (mark b) ≡ mark (a || b)
    max_mark true true = refl
    max_mark true false = refl
    max_mark false true = refl
    max_mark false false = refl

    turn : (x m : ℕ) → x * 2 + m ≡ m + 2 * x
    turn x m = omega arith

no_bits : (n : ℕ) → bits_of (λ b. false) n ≡ 0
unfolding bits_of
no_bits zero = refl
no_bits (suc n) = ap (λ (x : ℕ). 0 + 2 * x) (no_bits n)

pub one_bit : (n j : ℕ) → j < n → 2 ^ j ≡ bits_of (λ b. eqb b j) n
unfolding bits_of
one_bit zero j h = absurd (omega arith)
one_bit (suc n) zero h =
    let z = same_bits n (λ b. eqb (suc b) 0) (λ b. false) (λ b _. ne_eqb (suc b) 0 (λ e. omega arith)) ∙ no_bits n in
    sym (ap (λ (x : ℕ). 1 + 2 * x) z)
one_bit (suc n) (suc j) h =
    pow-succ' 2 j
    ∙ ap (λ (x : ℕ). 2 * x) (one_bit n j (omega arith) ∙ same_bits n (λ b. eqb b j) (λ b. eqb (suc b) (suc j)) (λ b _. suc_eqb b j))
    ∙ first (eqb 0 (suc j)) (ne_eqb 0 (suc j) (λ e. omega arith)) (bits_of (λ b. eqb (suc b) (suc j)) n)
  where
    suc_eqb : (a b : ℕ) → eqb a b ≡ eqb (suc a) (suc b)
    suc_eqb a b =
        split (eqb a b)
        (λ e. e ∙ sym (eq-eqb (suc a) (suc b) (let z = eqb-true a b e in omega arith)))
        (λ e. e ∙ sym (ne_eqb (suc a) (suc b) (λ z. eqb-false a b e (omega arith))))

    first : (t : Bool) → t ≡ false → (x : ℕ) → 2 * x ≡ mark t + 2 * x
    first t e x = rw e (omega arith)

mark-bit : (t : Bool) → eqb (mark t) 1 ≡ t
mark-bit true = refl
mark-bit false = refl

pub bits_show : Shows bit_row bits
bits_show = record {
  same = same_bits 32;
  has = λ f k h. ap (λ (x : ℕ). eqb x 1) (bit_at 32 f k h) ∙ mark-bit (f k);
  put = λ f j h. ap (bit_or (bits f)) (one_bit 32 j h) ∙ or_bits 32 f (λ b. eqb b j);
  join = or_bits 32;
}

zeros : replicate 32 0 ≡ words_of (λ a b. false)
unfolding words_of list_of bits_of
zeros = refl

pub words-chained : (rules : List ℕ) (n : ℕ) (beyond : List ℕ) → n ≤ 32 → any (outside n) rules ≡ false
    → rounds bit_row n 0 n (rules_marked bit_row rules (replicate 32 0 ++ beyond)) ≡ words_of (linked rules n) ++ beyond
unfolding words_of
words-chained rules n beyond k h =
    ap (λ (l : List ℕ). rounds bit_row n 0 n (rules_marked bit_row rules (l ++ beyond))) zeros ∙ marks-chained bit_row bits bits_show beyond rules n k h

pub words_long : (f : ℕ → ℕ → Bool) (beyond : List ℕ) → 32 ≤ length (words_of f ++ beyond)
unfolding words_of
words_long f beyond =
    omega (arith, length-append (list_of (λ a. bits (f a)) 32) beyond, length_list_of (λ a. bits (f a)) 32)
