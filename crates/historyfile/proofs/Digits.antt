-- A word of digits, one digit after the other.
use mathlib.Core.{Bool.◌&&◌, List.{List, [], ◌∷◌}, Path.{◌≡◌, sym, ap, ◌∙◌}}
use Rattle.std.proofs.Common.{ℕ, ◌+◌, ◌-◌, ◌*◌, ◌<◌, ◌≤◌}
use native.Mathlib.{Numerals.add-one, Omega.arith}
use lib.{ListN.{length, get_or, drop}, Seq.drop-cons}
use Rattle.std.specs.{Char.is_ascii_digit, List.list_all}
use Rattle.std.specs.Option.{SomeIff, ok_or}
use Rattle.std.specs.Prelude.{◌^◌, Option, Some, None, Result, Ok, Err}
use Rattle.historyfile.specs.declared.words.Fault.{Fault, TheVariants.Large}
use Rattle.historyfile.specs.Words.{valued}

-- A number that fits, and one that does not, where either goes on as a `Result`.
module _ (o : Option ℕ) (v : ℕ) (r : Result ℕ Fault) where
  pub taken : (x : ℕ) → SomeIff o (v < 2 ^ 64) v → r ≡ ok_or o Large → r ≡ Ok x → (v < 2 ^ 64) × (x ≡ v)
  taken x s e w = go o s (sym w ∙ e)
    where
      go : (o : Option ℕ) → SomeIff o (v < 2 ^ 64) v → Ok x ≡ ok_or o Large → (v < 2 ^ 64) × (x ≡ v)
      go None s e = absurd cc
      go (Some y) s e = let k : x ≡ y = cc in (s.0, k ∙ s.1)

  pub refused : (x : Fault) → SomeIff o (v < 2 ^ 64) v → r ≡ ok_or o Large → r ≡ Err x → (2 ^ 64 ≤ v) × (x ≡ Large)
  refused x s e w = go o s (sym w ∙ e)
    where
      go : (o : Option ℕ) → SomeIff o (v < 2 ^ 64) v → Err x ≡ ok_or o Large → (2 ^ 64 ≤ v) × (x ≡ Large)
      go None s e = (omega (arith, s), cc)
      go (Some y) s e = absurd cc

-- What is left of a list begins with its next element.
pub next_of : (l : List ℕ) (i : ℕ) → i < length l → drop i l ≡ get_or l i 0 ∷ drop (i + 1) l
next_of l i h = drop-cons l i 0 h ∙ ap (λ (n : ℕ). get_or l i 0 ∷ drop n l) (sym (add-one i))

pub grows : (n : ℕ) (w : List ℕ) → n ≤ valued n w
unfolding valued
grows n [] = omega arith
grows n (b ∷ bs) = let h = grows (n * 10 + (b - 48)) bs in omega arith

module _ (w : List ℕ) (i : ℕ) (h : i < length w) where
  pub digits_more : list_all is_ascii_digit (drop i w) ≡ is_ascii_digit (get_or w i 0) && list_all is_ascii_digit (drop (i + 1) w)
  digits_more = ap (list_all is_ascii_digit) (next_of w i h)

  pub valued-more : (n : ℕ) → valued n (drop i w) ≡ valued (n * 10 + (get_or w i 0 - 48)) (drop (i + 1) w)
  unfolding valued
  valued-more n = ap (valued n) (next_of w i h)
