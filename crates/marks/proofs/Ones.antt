-- The ones of a masked word are the marks of its slots.
use mathlib.Core.{Path.{◌≡◌, refl, sym, ap, ap₂, ◌∙◌}, Bool.cond, List.List}
use Prim.Native.Nat.{ℕ, zero, suc, ◌+◌, ◌-◌, ◌*◌, ◌/◌, ◌%◌, ◌^◌, ◌<◌, ◌≤◌, min}
use native.Mathlib.Nat.{mod-lt, mod-one, mod-eq_of_lt, add-zero, zero-add, add-suc, add_assoc, add_comm, lt_trans}
use native.Mathlib.{Nat.{lt-suc_self, le_of_suc-le-suc, not-suc-le-zero}, Numerals.one-add, Omega.arith}
use lib.{Dec.{lit<, eqb}, ListN.get_or, Pow.{pow_pos, mod-pow-add, field, shr-shr}, Count.{ones, ones_cat}}
use borrow.Author.Tests.{eqb-false, eqb-true, ne_eqb}
use Rattle.model.{specs.{Tables.{bit, marked}, Lists.count}, proofs.Tests.Truth.by_test}
use Rattle.marks.specs.Masked.{up_to_last, masked_word}

-- How many of the slots 1 to n are marked.
abbrev pub marks : List ℕ → ℕ → ℕ
marks ws n = count (λ k. marked ws (k + 1)) n

-- f at 0 to n - 1, added up.
abbrev sum : (ℕ → ℕ) → ℕ → ℕ
sum f zero = 0
sum f (suc n) = sum f n + f n

sum_ext : (f g : ℕ → ℕ) (n : ℕ) → ((j : ℕ) → j < n → f j ≡ g j) → sum f n ≡ sum g n
sum_ext f g zero h = refl
sum_ext f g (suc n) h = ap₂ (λ (x y : ℕ). x + y) (sum_ext f g n (λ j l. h j (lt_trans l (lt-suc_self n)))) (h n (lt-suc_self n))

ones_digit : (b : ℕ) → b < 2 → ones b ≡ b
unfolding ones
ones_digit zero h = refl
ones_digit (suc zero) h = refl
ones_digit (suc (suc b)) h = absurd (not-suc-le-zero (le_of_suc-le-suc (le_of_suc-le-suc h)))

-- The ones of the n low bits.
ones_sum : (x n : ℕ) → ones (x % 2 ^ n) ≡ sum (bit x) n
ones_sum x zero = ap ones (mod-one x) ∙ ones_digit 0 (lit< tt)
ones_sum x (suc n) =
    ap (λ (m : ℕ). ones (x % 2 ^ m)) (sym (one-add n))
    ∙ ap ones (mod-pow-add x 1 n)
    ∙ ones_cat n (bit x n) (x % 2 ^ n) (mod-lt x (pow_pos n))
    ∙ ap₂ (λ (p q : ℕ). p + q) (ones_digit (bit x n) (mod-lt (x / 2 ^ n) (lit< tt))) (ones_sum x n)
    ∙ add_comm (bit x n) (sum (bit x) n)

one_bit : (b : ℕ) → b < 2 → cond (eqb b 1) 1 0 ≡ b
one_bit zero h = refl
one_bit (suc zero) h = refl
one_bit (suc (suc b)) h = absurd (not-suc-le-zero (le_of_suc-le-suc (le_of_suc-le-suc h)))

-- The mark of slot n + 1, as a number.
abbrev mark : List ℕ → ℕ → ℕ
mark ws n = bit (get_or ws ((n + 1) / 64) 0) ((n + 1) % 64)

mark_small : (ws : List ℕ) (n : ℕ) → mark ws n < 2
mark_small ws n = mod-lt _ (lit< tt)

marks-run : (ws : List ℕ) (a m : ℕ) → marks ws (a + m) ≡ marks ws a + sum (λ j. mark ws (a + j)) m
unfolding count
marks-run ws a zero = ap (marks ws) (add-zero a) ∙ sym (add-zero (marks ws a))
marks-run ws a (suc m) =
    ap (marks ws) (add-suc a m)
    ∙ ap₂ (λ (x y : ℕ). x + y) (marks-run ws a m) (one_bit (mark ws (a + m)) (mark_small ws (a + m)))
    ∙ add_assoc (marks ws a) (sum (λ j. mark ws (a + j)) m) (mark ws (a + m))

ones_shifted : (y s : ℕ) → ones (y * 2 ^ s) ≡ ones y
ones_shifted y s =
    ap ones (sym (add-zero (y * 2 ^ s)))
    ∙ ones_cat s y 0 (pow_pos s)
    ∙ ap (λ (x : ℕ). ones y + x) (ones_digit 0 (lit< tt))
    ∙ add-zero (ones y)

pub marks_le : (ws : List ℕ) (n : ℕ) → marks ws n ≤ n
unfolding count
marks_le ws zero = omega arith
marks_le ws (suc n) =
    let b : cond (marked ws (n + 1)) 1 0 < 2 = rw (one_bit (mark ws n) (mark_small ws n)) (mark_small ws n) in
    let r = marks_le ws n in omega arith

-- The d bits from s on of word k are the marks of d slots from 64 k + s on.
word_sum : (ws : List ℕ) (k s d a : ℕ) → a + 1 ≡ 64 * k + s → d + s ≤ 64
    → marks ws (a + d) ≡ marks ws a + ones (get_or ws k 0 % 2 ^ (d + s) / 2 ^ s * 2 ^ s)
word_sum ws k s d a e l =
    let w = get_or ws k 0 in
    let at : (j : ℕ) → j < d → mark ws (a + j) ≡ bit (w / 2 ^ s) j =
    λ j g.
    let q : (a + j + 1) / 64 ≡ k = omega arith in
    let r : (a + j + 1) % 64 ≡ s + j = omega arith in
    ap₂ (λ (x y : ℕ). bit (get_or ws x 0) y) q r ∙ ap (λ (x : ℕ). x % 2) (sym (shr-shr w s j)) in
    let o : ones (w % 2 ^ (d + s) / 2 ^ s * 2 ^ s) ≡ sum (bit (w / 2 ^ s)) d =
    ones_shifted (w % 2 ^ (d + s) / 2 ^ s) s ∙ ap ones (field w d s) ∙ ones_sum (w / 2 ^ s) d in
    marks-run ws a d ∙ ap (λ (x : ℕ). marks ws a + x) (sum_ext (λ j. mark ws (a + j)) (bit (w / 2 ^ s)) d at ∙ sym o)

-- Of a word of 64 bits, those up to the last slot's.
upper_bits : (w k slots : ℕ) → k ≤ slots / 64 → w < 2 ^ 64 → up_to_last w k slots ≡ w % 2 ^ min 64 (slots + 1 - 64 * k)
upper_bits w k slots h small =
    by_test (λ (x : ℕ). x ≡ w % 2 ^ min 64 (slots + 1 - 64 * k)) (eqb k (slots / 64))
    (λ e. let z : min 64 (slots + 1 - 64 * k) ≡ slots % 64 + 1 = omega (arith, eqb-true k (slots / 64) e) in ap (λ (n : ℕ). w % 2 ^ n) (sym z))
    (λ e. let z : min 64 (slots + 1 - 64 * k) ≡ 64 = omega (arith, eqb-false k (slots / 64) e) in
    sym (ap (λ (n : ℕ). w % 2 ^ n) z ∙ mod-eq_of_lt small))

-- Word k adds the marks of its slots.
pub word-step : (ws : List ℕ) (k slots : ℕ) → k ≤ slots / 64 → get_or ws k 0 < 2 ^ 64
    → marks ws (min (64 * (k + 1) - 1) slots) ≡ marks ws (min (64 * k - 1) slots) + ones (masked_word (get_or ws k 0) k slots)
word-step ws zero slots h small =
    let d = min 63 slots in
    let a : min (64 * 0 - 1) slots ≡ 0 = omega arith in
    let n : min (64 * (0 + 1) - 1) slots ≡ 0 + d = omega arith in
    let e : min 64 (slots + 1 - 64 * 0) ≡ d + 1 = omega arith in
    rw (a, n, upper_bits (get_or ws 0 0) 0 slots h small, e) (word_sum ws 0 1 d 0 refl (omega arith))
word-step ws (suc k) slots h small =
    let d = min 64 (slots + 1 - 64 * suc k) in
    let a = 64 * suc k - 1 in
    let e : (min (64 * (suc k + 1) - 1) slots ≡ a + d) × (min a slots ≡ a) × (a + 1 ≡ 64 * suc k + 0) × (d + 0 ≤ 64) = omega arith in
    let w = get_or ws (suc k) 0 in
    let whole : w % 2 ^ (d + 0) / 2 ^ 0 * 2 ^ 0 ≡ w % 2 ^ d = ap (λ (n : ℕ). w % 2 ^ n / 1 * 1) (add-zero d) ∙ omega arith in
    rw (ne_eqb (suc k) 0 (λ z. omega arith))
    (ap (marks ws) e.0
    ∙ word_sum ws (suc k) 0 d a e.2 e.3
    ∙ (λ i. marks ws (sym e.1 i) + ones ((whole ∙ sym (upper_bits w (suc k) slots h small)) i)))

-- Of a word between the first and the last every bit counts.
pub whole-step : (ws : List ℕ) (k : ℕ) → 1 ≤ k → get_or ws k 0 < 2 ^ 64 → marks ws (64 * (k + 1) - 1) ≡ marks ws (64 * k - 1) + ones (get_or ws k 0)
whole-step ws k h small =
    let e : (min (64 * (k + 1) - 1) (64 * (k + 1)) ≡ 64 * (k + 1) - 1) × (min (64 * k - 1) (64 * (k + 1)) ≡ 64 * k - 1) = omega arith in
    let all : masked_word (get_or ws k 0) k (64 * (k + 1)) ≡ get_or ws k 0 =
    rw (ne_eqb k 0 (λ z. omega arith), ne_eqb k (64 * (k + 1) / 64) (λ z. omega arith)) in
    ap (marks ws) (sym e.0) ∙ word-step ws k (64 * (k + 1)) (omega arith) small ∙ (λ i. marks ws (e.1 i) + ones (all i))

-- Words that are 0 hold no mark.
pub blank : (ws : List ℕ) (k d : ℕ) → 1 ≤ k → ((j : ℕ) → k ≤ j → j < k + d → get_or ws j 0 ≡ 0) → marks ws (64 * (k + d) - 1) ≡ marks ws (64 * k - 1)
blank ws k zero h none = ap (λ (n : ℕ). marks ws (64 * n - 1)) (add-zero k)
blank ws k (suc d) h none =
    let z : get_or ws (k + d) 0 ≡ 0 = none (k + d) (omega arith) (omega arith) in
    let e : k + suc d ≡ k + d + 1 = omega arith in
    ap (λ (n : ℕ). marks ws (64 * n - 1)) e
    ∙ whole-step ws (k + d) (omega arith) (omega (arith, z))
    ∙ (λ i. blank ws k d h (λ j a b. none j a (omega arith)) i + ones (z i))
    ∙ ap (λ (x : ℕ). marks ws (64 * k - 1) + x) (ones_digit 0 (lit< tt))
    ∙ add-zero (marks ws (64 * k - 1))

-- The first word, and the last one where there are more.
pub first_word : (ws : List ℕ) (slots : ℕ) → get_or ws 0 0 < 2 ^ 64 → ones (masked_word (get_or ws 0 0) 0 slots) ≡ marks ws (min 63 slots)
unfolding count
first_word ws slots small =
    let x = ones (masked_word (get_or ws 0 0) 0 slots) in
    let e : min (64 * 0 - 1) slots ≡ 0 = omega arith in
    sym (word-step ws 0 slots (omega arith) small ∙ ap (λ (n : ℕ). marks ws n + x) e ∙ zero-add x)

pub last_word : (ws : List ℕ) (slots : ℕ) → 64 ≤ slots → get_or ws (slots / 64) 0 < 2 ^ 64
    → marks ws (64 * (slots / 64) - 1) + ones (masked_word (get_or ws (slots / 64) 0) (slots / 64) slots) ≡ marks ws slots
last_word ws slots h small =
    let k = slots / 64 in
    let e : (min (64 * k - 1) slots ≡ 64 * k - 1) × (min (64 * (k + 1) - 1) slots ≡ slots) = omega arith in
    ap (λ (n : ℕ). marks ws n + ones (masked_word (get_or ws k 0) k slots)) (sym e.0)
    ∙ sym (word-step ws k slots (omega arith) small)
    ∙ ap (marks ws) e.1
