-- Rows of bytes show their marks, and the square of #111 holds the chained rules.
use mathlib.Core.{Bool.{Bool, true, false, ◌||◌, not}, List.{List, []}, Logic.{◌⊎◌, inl, inr}}
use mathlib.Core.Path.{◌≡◌, refl, sym, ap, ◌∙◌}
use Prim.Native.Nat.{ℕ, ◌≤◌, ◌<◌}
use native.Mathlib.Omega.{arith}
use lib.{Bits.bit_or, Dec.eqb, ListN.{get_or, set, replicate, length-set}, Seq.{get_or-set_same, get_or-set_other}}
use borrow.Author.Tests.{eq-eqb, ne_eqb}
use Rattle.model.proofs.Tests.Truth.{decide_eq}
use Rattle.sheet_model.specs.{Sheet.{any, outside}, Words.{list_of, mark, linked}}
use Rattle.sheet_model.proofs.ListOf.{length_list_of, get_d_list_of, as_list_of, ext_list_of}
use Rattle.sheet.specs.Squares.{square_of, ored, join_row, byte_row, rounds, rules_marked}
use Rattle.sheet.proofs.{Sweep.sweep-list_of, Rounds.{Shows, marks, marks-chained}}

abbrev pub bytes : (ℕ → Bool) → List ℕ
bytes f = list_of (λ b. mark (f b)) 32

or_mark : (a b : Bool) → bit_or (mark a) (mark b) ≡ mark (a || b)
or_mark true true = refl
or_mark true false = refl
or_mark false true = refl
or_mark false false = refl

unmark : (t : Bool) → not (eqb (mark t) 0) ≡ t
unmark true = refl
unmark false = refl

join-bytes : (f g : ℕ → Bool) → join_row (bytes g) (bytes f) ≡ bytes (λ b. f b || g b)
unfolding join_row
join-bytes f g =
    sweep-list_of 0 (ored (bytes g)) (λ b. mark (f b)) 32
    ∙ ext_list_of (λ b. bit_or (mark (f b)) (get_or (bytes g) b 0)) (λ b. mark (f b || g b)) 32
    (λ b h. ap (bit_or (mark (f b))) (get_d_list_of (λ b. mark (g b)) 32 b 0 h) ∙ or_mark (f b) (g b))

put_byte : (f : ℕ → Bool) (j : ℕ) → j < 32 → set (bytes f) j 1 ≡ bytes (λ b. f b || eqb b j)
put_byte f j h =
    as_list_of 0 (set (bytes f) j 1) (λ b. mark (f b || eqb b j)) 32 (length-set (bytes f) j 1 ∙ length_list_of (λ b. mark (f b)) 32)
    (λ b k. go b k (decide_eq b j))
  where
    or-true : (a : Bool) → a || true ≡ true
    or-true true = refl
    or-true false = refl

    or-none : (a : Bool) → a || false ≡ a
    or-none true = refl
    or-none false = refl

    go : (b : ℕ) → b < 32 → (b ≡ j) ⊎ (b ≡ j → ⊥) → get_or (set (bytes f) j 1) b 0 ≡ mark (f b || eqb b j)
    go b k (inl e) =
        ap (λ (x : ℕ). get_or (set (bytes f) j 1) x 0) e
        ∙ get_or-set_same (bytes f) j 1 0 (omega (arith, length_list_of (λ b. mark (f b)) 32))
        ∙ ap mark (sym (ap (λ t. f b || t) (eq-eqb b j e) ∙ or-true (f b)))
    go b k (inr e) =
        get_or-set_other (bytes f) j b 1 0 e
        ∙ get_d_list_of (λ b. mark (f b)) 32 b 0 k
        ∙ ap mark (sym (ap (λ t. f b || t) (ne_eqb b j e) ∙ or-none (f b)))

pub bytes_show : Shows byte_row bytes
bytes_show = record {
  same = λ f g h. ext_list_of (λ b. mark (f b)) (λ b. mark (g b)) 32 (λ b k. ap mark (h b k));
  has = λ f k h. ap (λ (x : ℕ). not (eqb x 0)) (get_d_list_of (λ b. mark (f b)) 32 k 0 h) ∙ unmark (f k);
  put = put_byte;
  join = join-bytes;
}

pub square_chained : (rules : List ℕ) (n : ℕ) → n ≤ 32 → any (outside n) rules ≡ false
    → rounds byte_row n 0 n (rules_marked byte_row rules (replicate 32 (replicate 32 0))) ≡ square_of (linked rules n)
unfolding square_of list_of
square_chained rules n k h = marks-chained byte_row bytes bytes_show [] rules n k h

pub square_marks : (f : ℕ → ℕ → Bool) → square_of f ≡ marks byte_row bytes bytes_show [] f
unfolding square_of list_of
square_marks f = refl
