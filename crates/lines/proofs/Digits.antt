-- The digits of a number: the last one, the last two and the last four, and those before them.
use Prim.Native.Nat.{ℕ, zero, suc, ◌+◌, ◌-◌, ◌*◌, ◌/◌, ◌%◌, ◌^◌, ◌<◌, ◌≤◌}
use mathlib.Core.{Path.{◌≡◌, refl, sym, ◌∙◌}, Bool.{Bool, true, false}, List.{[], ◌∷◌, ◌++◌, append_assoc}}
use native.Mathlib.{Nat.pow-suc, Omega.arith}
use lib.Dec.{ltb}
use borrow.Author.Tests.{lt-ltb, le-ltb, ltb-true, ltb-false}
use Rattle.lines.specs.Line.{decimal_in, last_two}

pub decimal-none : (more n : ℕ) → more ≡ 0 → decimal_in more n ≡ (48 + n % 10) ∷ []
unfolding decimal_in
decimal-none zero n e = refl
decimal-none (suc k) n e = absurd (omega arith)

pub decimal-last : (more n : ℕ) → n < 10 → decimal_in more n ≡ (48 + n % 10) ∷ []
unfolding decimal_in
decimal-last zero n h = refl
decimal-last (suc k) n h = simp (lt-ltb _ _ h)

pub decimal-more : (more n : ℕ) → (more ≡ 0 → ⊥) → 10 ≤ n → decimal_in more n ≡ decimal_in (more - 1) (n / 10) ++ ((48 + n % 10) ∷ [])
unfolding decimal_in
decimal-more zero n z h = absurd (z refl)
decimal-more (suc k) n z h =
    let e : suc k - 1 ≡ k = omega arith in
    simp (le-ltb _ _ h, e)

-- Room beyond the digits changes nothing.
pub decimal-room : (m k n : ℕ) → n < 10 ^ suc m → decimal_in (m + k) n ≡ decimal_in m n
decimal-room zero k n h = decimal-last (0 + k) n (omega (arith, pow-suc 10 0)) ∙ sym (decimal-last 0 n (omega (arith, pow-suc 10 0)))
decimal-room (suc m) k n h = go (ltb n 10) refl (decimal-room m k (n / 10) (omega (arith, pow-suc 10 (suc m))))
  where
    go : (b : Bool) → ltb n 10 ≡ b → decimal_in (m + k) (n / 10) ≡ decimal_in m (n / 10) → decimal_in (suc m + k) n ≡ decimal_in (suc m) n
    go true e ih = decimal-last (suc m + k) n (ltb-true _ _ e) ∙ sym (decimal-last (suc m) n (ltb-true _ _ e))
    go false e ih =
        let p : suc m + k - 1 ≡ m + k = omega arith in
        let q : suc m - 1 ≡ m = omega arith in
        rw (
          decimal-more (suc m + k) n (λ z. omega (arith, z)) (ltb-false _ _ e),
          decimal-more (suc m) n (λ z. omega (arith, z)) (ltb-false _ _ e),
          p,
          q,
          ih,
        )

pub decimal_pair : (m n : ℕ) → 100 ≤ n → decimal_in (2 + m) n ≡ decimal_in m (n / 100) ++ last_two n
decimal_pair m n h =
    let p : 2 + m - 1 ≡ 1 + m = omega arith in
    let q : 1 + m - 1 ≡ m = omega arith in
    let d : n / 10 / 10 ≡ n / 100 = omega arith in
    rw (
      decimal-more (2 + m) n (λ z. omega (arith, z)) (omega arith),
      p,
      decimal-more (1 + m) (n / 10) (λ z. omega (arith, z)) (omega arith),
      q,
      d,
    ) (append_assoc (decimal_in m (n / 100)) _ _)

pub decimal_four : (m n : ℕ) → 10000 ≤ n → decimal_in (4 + m) n ≡ (decimal_in m (n / 10000) ++ last_two (n / 100)) ++ last_two n
decimal_four m n h =
    let p : 4 + m ≡ 2 + (2 + m) = omega arith in
    let d : n / 100 / 100 ≡ n / 10000 = omega arith in
    rw (p, decimal_pair (2 + m) n (omega arith), decimal_pair m (n / 100) (omega arith), d)

pub decimal_two : (n : ℕ) → 10 ≤ n → decimal_in 1 n ≡ last_two n
decimal_two n h = rw (decimal-more 1 n (λ z. omega (arith, z)) h, decimal-none 0 (n / 10) refl)

-- Groups of four.
pub group_none : (more n : ℕ) → more ≡ 0 → decimal_in (4 * more + 3) n ≡ decimal_in 3 n
group_none more n e = let p : 4 * more + 3 ≡ 3 = omega (arith, e) in rw p

pub group_last : (more n : ℕ) → n < 10000 → decimal_in (4 * more + 3) n ≡ decimal_in 3 n
group_last more n h = let p : 4 * more + 3 ≡ 3 + 4 * more = omega arith in rw (p, decimal-room 3 (4 * more) n h)

pub group_more : (more n : ℕ) → (more ≡ 0 → ⊥) → 10000 ≤ n
    → decimal_in (4 * more + 3) n ≡ (decimal_in (4 * (more - 1) + 3) (n / 10000) ++ last_two (n / 100)) ++ last_two n
group_more zero n z h = absurd (z refl)
group_more (suc k) n z h =
    let p : 4 * suc k + 3 ≡ 4 + (4 * (suc k - 1) + 3) = omega arith in
    rw p (decimal_four (4 * (suc k - 1) + 3) n h)
