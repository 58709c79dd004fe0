-- The order sheet: its form, its chained rules, and what breaks it. (Document 02, #111.)
use mathlib.Core.{Path.◌≡◌, Bool.{Bool, true, false, ◌&&◌, ◌||◌, not, cond}, List.{List, [], ◌∷◌}}
use Rattle.std.specs.Prelude.{ℕ, zero, suc, ◌/◌, ◌%◌, ◌^◌}
use lib.{Dec.{ltb, eqb}, ListN.{length, get_or}}
use Rattle.model.specs.{declared.Entry.Entry, Sound.from1}

-- Labels listed, and rules on their places from 1.
pub record Sheet : Type 0 where
  pub listed : List ℕ
  pub rules : List ℕ

-- A rule's word: the place of the label that prints first in bits 31–16, of the one after it in 15–0.
abbrev pub before : ℕ → ℕ
before w = w / 2 ^ 16

abbrev pub after : ℕ → ℕ
after w = w % 2 ^ 16

abbrev pub any : {A : Type 0} → (A → Bool) → List A → Bool
any p [] = false
any p (x ∷ l) = p x || any p l

-- A label listed twice.
abbrev pub twice : List ℕ → Bool
twice [] = false
twice (x ∷ l) = any (eqb x) l || twice l

-- A rule that points outside a list of n labels.
abbrev pub outside : ℕ → ℕ → Bool
outside n w = not (from1 n (before w) && from1 n (after w))

-- 46: over 32 labels, over 128 rules, a label listed twice, or a rule that points outside the list.
unfoldable pub malformed : Sheet → Bool
malformed s = ltb 32 (length s.listed) || ltb 128 (length s.rules) || twice s.listed || any (outside (length s.listed)) s.rules

-- A rule says that place a prints before place b.
abbrev pub ruled_before : List ℕ → ℕ → ℕ → Bool
ruled_before rules a b = any (λ w. eqb (before w) a && eqb (after w) b) rules

-- Place a is chained before place b: by a rule, or by two chains that meet, whether their labels wait or not.
pub data Chained (rules : List ℕ) : ℕ → ℕ → Type 0 where
  ruled : (a b : ℕ) → ruled_before rules a b ≡ true → Chained rules a b
  joined : (a b c : ℕ) → Chained rules a b → Chained rules b c → Chained rules a c

-- The same as a test: chained through places 1 to k alone. (Warshall.)
unfoldable pub through : List ℕ → ℕ → ℕ → ℕ → Bool
through rules zero a b = ruled_before rules a b
through rules (suc k) a b = through rules k a b || (through rules k a (suc k) && through rules k (suc k) b)

unfoldable pub chained : Sheet → ℕ → ℕ → Bool
chained s a b = through s.rules (length s.listed) a b

-- Label x waits; a copy of label y waits left of a copy of label x.
abbrev pub waits : ℕ → List Entry → Bool
waits x l = any (λ (e : Entry). eqb e.label x) l

abbrev pub left_of : ℕ → ℕ → List Entry → Bool
left_of y x [] = false
left_of y x (e ∷ l) = (eqb e.label y && waits x l) || left_of y x l

-- The label at a place of the list, from 1.
abbrev pub label_at : Sheet → ℕ → ℕ
label_at s a = get_or (0 ∷ s.listed) a 0

-- A chained pair is broken when any copy of the second waits left of any copy of the first; a label chained to itself as soon as it waits.
unfoldable pub breaks : Sheet → List Entry → ℕ → ℕ → Bool
breaks s l a b =
    chained s a b && cond (eqb a b) (waits (label_at s a) l) (left_of (label_at s b) (label_at s a) l)
