-- The sieve one label further; and a label that does not pass it is none of those asked for.
use mathlib.Core.{Path.{◌≡◌, sym, ap, subst, ◌∙◌}, Bool.{true, false}, List.List, Logic.◌≢◌}
use Prim.Native.Nat.{ℕ, ◌+◌, ◌/◌, ◌%◌, ◌<◌}
use native.Mathlib.{Decide.ℕ_discrete, Omega.arith}
use lib.ListN.{length, get_or, length-set}
use Rattle.model.specs.Tables.{marked, with_mark}
use Rattle.model.proofs.{Tests.Truth.not_both, Bridge.Marks.{marked-same, marked_other}}
use Rattle.find.specs.Sieve.{Sifted}

-- A mark that is set stays set when another is.
pub stays_set : (ws : List ℕ) (n m : ℕ) → n / 64 < length ws → marked ws m ≡ true → marked (with_mark ws n 1) m ≡ true
stays_set ws n m h e = go (ℕ_discrete m n)
  where
    go : Dec (m ≡ n) → marked (with_mark ws n 1) m ≡ true
    go (yes z) = ap (λ (k : ℕ). marked (with_mark ws n 1) k) z ∙ marked-same ws n 1 (omega arith) h
    go (no z) = marked_other ws n 1 (omega arith) h m z ∙ e

-- The labels below i pass, and label i's mark is set.
abbrev pub Below : List ℕ → List ℕ → ℕ → Type 0
Below wanted sieve i = (length sieve ≡ 16) × ((j : ℕ) → j < i → marked sieve (get_or wanted j 0 % 1024) ≡ true)

pub one_more : (wanted sieve after : List ℕ) (i : ℕ) → Below wanted sieve i → after ≡ with_mark sieve (get_or wanted i 0 % 1024) 1 → Below wanted after (i + 1)
one_more wanted sieve after i h e =
    let n : ℕ = get_or wanted i 0 % 1024 in
    let within : n / 64 < length sieve = omega (arith, h.0) in
    subst (λ (s : List ℕ). Below wanted s (i + 1)) (sym e)
    (length-set sieve (n / 64) _ ∙ h.0, λ j g. go within j (ℕ_discrete j i) g)
  where
    go : get_or wanted i 0 % 1024 / 64 < length sieve → (j : ℕ) → Dec (j ≡ i) → j < i + 1
        → marked (with_mark sieve (get_or wanted i 0 % 1024) 1) (get_or wanted j 0 % 1024) ≡ true
    go w j (yes z) g =
        ap (λ (k : ℕ). marked (with_mark sieve (get_or wanted i 0 % 1024) 1) (get_or wanted k 0 % 1024)) z
        ∙ marked-same sieve (get_or wanted i 0 % 1024) 1 (omega arith) w
    go w j (no z) g = stays_set sieve (get_or wanted i 0 % 1024) (get_or wanted j 0 % 1024) w (h.1 j (omega arith))

-- A label whose mark is clear is none of them.
pub not_wanted : (wanted sieve : List ℕ) (y : ℕ) → Sifted wanted sieve → marked sieve (y % 1024) ≡ false → (i : ℕ) → i < length wanted → get_or wanted i 0 ≢ y
not_wanted wanted sieve y s f i h e = not_both (ap (λ (x : ℕ). marked sieve (x % 1024)) (sym e) ∙ s.passes i h) f
