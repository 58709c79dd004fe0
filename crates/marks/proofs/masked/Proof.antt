-- What is kept of a word is a remainder, and bit 0 is dropped by halving.
use mathlib.Core.{Path.{◌≡◌, ap, ◌∙◌, sym}, Logic.◌≢◌}
use Prim.Native.Nat.{ℕ, ◌+◌, ◌-◌, ◌*◌, ◌/◌, ◌%◌, ◌^◌}
use native.Mathlib.{Nat.mod-eq_of_lt, Omega.arith}
use lib.{Pow.{high, ones_split, ones_lt}, Bits.{bit_and, and_mask, and_high}}
use borrow.Author.{Rules.rules, Tests.{eq-eqb, ne_eqb}}
use Rattle.marks.specs.Masked.{up_to_last}
use Rattle.marks.proofs.masked.Statement.{statement}
use Rattle.marks.proofs.masked.Lts.{then-k-slots, else-k-slots}
use Rattle.marks.proofs.masked.Tie as tie

-- All ones, shifted down by k, are j ones.
ones_shr : (j k : ℕ) → (2 ^ (j + k) - 1) / 2 ^ k ≡ 2 ^ j - 1
ones_shr j k = ap (λ (x : ℕ). x / 2 ^ k) (ones_split j k) ∙ high (2 ^ j - 1) k (ones_lt k)

-- `w & (u64::MAX >> (63 - r))`
keep : (w r : ℕ) → r + 1 + (63 - r) ≡ 64 → bit_and w ((2 ^ 64 - 1) / 2 ^ (63 - r)) ≡ w % 2 ^ (r + 1)
keep w r e =
    ap (bit_and w) (ap (λ (x : ℕ). (2 ^ x - 1) / 2 ^ (63 - r)) (sym e) ∙ ones_shr (r + 1) (63 - r)) ∙ and_mask w (r + 1)

-- After the first test.
upper : (c : tie.Joined-k-slots) → (let a = c.before.args in c.if-k-slots.m ≡ up_to_last a.w a.k a.slots)
upper c =
    let a = c.before.args in
    elim c.if-k-slots.branch [
      | then-k-slots w ↦ rw (eq-eqb _ _ w.if-k-slots.true) (w.m-is ∙ keep a.w (a.slots % 64) (omega arith))
      | else-k-slots w ↦ rw (ne_eqb _ _ w.if-k-slots.false) w.m-is
    ]

returns : tie.Need-returns-then-k-eq0
returns c =
    let m = c.before.before.if-k-slots.m in
    let first : c.before.before.before.args.k ≡ 0 = omega arith in
    rw (eq-eqb _ 0 first)
    (and_high m 63 1 ∙ ap (λ (x : ℕ). x * 2) (mod-eq_of_lt (omega arith)) ∙ ap (λ (x : ℕ). x / 2 * 2) (upper c.before.before))

returns-2 : tie.Need-returns-else-k-eq0
returns-2 c =
    let later : c.before.before.args.k ≢ 0 = λ z. omega arith in
    rw (ne_eqb _ 0 later) (upper c.before)

pub masked_spec : {M : Type 1} → statement M
masked_spec = tie.close (tie.spec (λ c. search rules) (λ c. search rules) returns returns-2)
