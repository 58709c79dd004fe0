-- The tests of 47 that are loops: one entry more, or one that fails.
use mathlib.Core.{Path.{◌≡◌, refl, sym, ap, ◌∙◌}, Bool.{Bool, true, false, ◌&&◌, not}, List.{List, [], ◌∷◌, map}, Logic.◌≢◌}
use Prim.Native.Nat.{ℕ, zero, suc, ◌+◌, ◌-◌, ◌<◌, ◌≤◌, min}
use native.Mathlib.{Nat.{min-eq_left, min-eq_right}, Numerals.add-one, Omega.arith}
use lib.{Bits.{bit_or, or_zero_l, or_add_and, and_le_r}, Dec.{eqb, ltb}, ListN.{length, get_or, get_or-eq_default}}
use Rattle.std.proofs.lemmas.List.{map-id}
use borrow.Author.Tests.{ne_eqb, eqb-true, eqb-false, ltb-true, ltb-false}
use Rattle.model.specs.{declared.Record.Record, Tables.unused, Lists.{every, count}}
use Rattle.model.proofs.Tests.Truth.{split, not_both}
use Rattle.join_model.{specs.Join.blank, proofs.Fresh.none_pass}

-- Seven tests, made one after the other.
pub seven : (a b c d e f g : Bool) → (((((a && b) && c) && d) && e) && f) && g ≡ every (a ∷ b ∷ c ∷ d ∷ e ∷ f ∷ g ∷ [])
seven false b c d e f g = refl
seven true false c d e f g = refl
seven true true false d e f g = refl
seven true true true false e f g = refl
seven true true true true false f g = refl
seven true true true true true f g = refl

-- Two words have no bit set between them where both are zero.
or-none : (a b : ℕ) → eqb (bit_or a b) 0 ≡ eqb a 0 && eqb b 0
or-none a b =
    split (eqb a 0)
    (λ z. rw z (ap (λ (x : ℕ). eqb (bit_or x b) 0) (eqb-true a 0 z) ∙ ap (λ (x : ℕ). eqb x 0) (or_zero_l b)))
    (λ z. let h = eqb-false a 0 z in rw z (ne_eqb (bit_or a b) 0 (λ e. omega (arith, or_add_and a b, and_le_r a b))))

pub blank-more : (l : List ℕ) (i any : ℕ) → eqb any 0 ≡ blank i l → eqb (bit_or any (get_or l i 0)) 0 ≡ blank (i + 1) l
blank-more l i any e =
    or-none any (get_or l i 0) ∙ ap (λ (b : Bool). b && eqb (get_or l i 0) 0) e ∙ ap (λ (n : ℕ). blank n l) (sym (add-one i))

-- Words and labels are numbers already.
pub as_numbers : (b : Bool) (n : ℕ) (l : List ℕ) → b ≡ blank n (map (λ x. x) l) → b ≡ blank n l
as_numbers b n l e = e ∙ ap (blank n) (map-id l)

-- Beyond the end of a table all is zero.
blank-past : (l : List ℕ) (n k : ℕ) → length l ≤ n → blank (n + k) l ≡ blank n l
blank-past l n zero h = let e : n + 0 ≡ n = omega arith in ap (λ (m : ℕ). blank m l) e
blank-past l n (suc k) h =
    let e : n + suc k ≡ suc (n + k) = omega arith in
    ap (λ (m : ℕ). blank m l) e
    ∙ ap (λ (x : ℕ). blank (n + k) l && eqb x 0) (get_or-eq_default l 0 (omega arith))
    ∙ and_yes (blank (n + k) l)
    ∙ blank-past l n k h
  where
    and_yes : (b : Bool) → b && true ≡ b
    and_yes true = refl
    and_yes false = refl

pub blank-min : (l : List ℕ) (n : ℕ) → blank (min (length l) n) l ≡ blank n l
blank-min l n = split (ltb n (length l))
    (λ e. let h = ltb-true n (length l) e in let k : n ≤ length l = omega arith in rw min-eq_right)
    (λ e. let h = ltb-false n (length l) e in let k : length l + (n - length l) ≡ n = omega arith in
    rw min-eq_left (sym (blank-past l (length l) (n - length l) (omega arith)) ∙ ap (λ (m : ℕ). blank m l) k))

abbrev pub busy_in : List Record → ℕ → ℕ
busy_in rs n = count (λ t. not (eqb (get_or rs t unused).call.place 0)) n

pub idle-none : (rs : List Record) → busy_in rs 0 ≡ 0
unfolding count
idle-none rs = refl

pub idle-more : (rs : List Record) (i : ℕ) → busy_in rs i ≡ 0 → (get_or rs i unused).call.place ≡ 0 → busy_in rs (i + 1) ≡ 0
unfolding count
idle-more rs i h e = ap (busy_in rs) (add-one i) ∙ rw (h, e)

pub idle_less : (rs : List Record) (n i : ℕ) → i < n → (get_or rs i unused).call.place ≢ 0 → eqb (busy_in rs n) 0 ≡ false
idle_less rs n i h e = split (eqb (busy_in rs n) 0)
    (λ z. absurd (not_both (ap not (ne_eqb _ _ e)) (none_pass (λ t. not (eqb (get_or rs t unused).call.place 0)) n (eqb-true _ _ z) i h)))
    (λ z. z)
