-- Calls read from words.
use mathlib.Core.{Bool.true, List.{List, ◌∷◌}, Path.{◌≡◌, refl, sym, ap, ◌∙◌}}
use Prim.Native.Nat.{ℕ, zero, suc, ◌+◌, ◌-◌, ◌/◌, ◌<◌, ◌≤◌}
use native.Mathlib.Omega.{arith}
use lib.{Dec.leb, ListN.{length, get_or, drop}}
use borrow.Author.Tests.{leb-true}
use Rattle.model.{specs.Sound.from1, proofs.Tests.Truth.and-true}
use Rattle.audit_model.specs.{declared.Finished.Finished, Audit.{all_of, in_order, nobody, numbered}}
use Rattle.audit_model.specs.LentHistory.{call_at, calls_from, calls_in}
use Rattle.audit.proofs.Loops.{all-at, drop_next}

calls_length : (j n : ℕ) (ws : List ℕ) → length (calls_from j n ws) ≡ n
unfolding calls_from
calls_length j zero ws = refl
calls_length j (suc n) ws = ap suc (calls_length (suc j) n ws)

calls_at : (j n i : ℕ) (ws : List ℕ) → i < n → get_or (calls_from j n ws) i nobody ≡ call_at ws (j + i)
unfolding calls_from
calls_at j zero i ws h = absurd (omega arith)
calls_at j (suc n) zero ws h = let z : j ≡ j + 0 = omega arith in ap (call_at ws) z
calls_at j (suc n) (suc i) ws h = calls_at (suc j) n i ws (omega arith) ∙ (let z : suc j + i ≡ j + suc i = omega arith in ap (call_at ws) z)

pub within : (n k : ℕ) → from1 n k ≡ true → (1 ≤ k) × (k ≤ n)
within n k e = let z = and-true (leb 1 k) (leb k n) e in (leb-true 1 k z.0, leb-true k n z.1)

module _ (ws : List ℕ) where
  pub count-is : length (calls_in ws) ≡ length ws / 7
  count-is = calls_length 0 (length ws / 7) ws

  pub read_is : (i : ℕ) → i < length ws / 7 → call_at ws i ≡ get_or (calls_in ws) i nobody
  read_is i h = sym (calls_at 0 (length ws / 7) i ws h ∙ (let z : 0 + i ≡ i = omega arith in ap (call_at ws) z))

  pub number_is : (k i : ℕ) → i + 1 ≡ k → get_or (calls_in ws) i nobody ≡ numbered (calls_in ws) k
  number_is k i e = let z : suc i ≡ k = omega arith in ap (numbered (calls_in ws)) z

  -- The call at index i of an order of known numbers.
  module _ (ks : List ℕ) (known : all_of (from1 (length ws / 7)) ks ≡ true) (i : ℕ) (h : i < length ks) where
    pub number-known : (1 ≤ get_or ks i 0) × (get_or ks i 0 ≤ length ws / 7)
    number-known = within (length ws / 7) (get_or ks i 0) (all-at (from1 (length ws / 7)) ks i 0 h known)

    pub next-call : in_order (calls_in ws) (drop i ks) ≡ get_or (calls_in ws) (get_or ks i 0 - 1) nobody ∷ in_order (calls_in ws) (drop (i + 1) ks)
    next-call =
        ap (in_order (calls_in ws)) (drop_next ks i 0 h)
        ∙ ap (λ (c : Finished). c ∷ in_order (calls_in ws) (drop (i + 1) ks))
        (sym (number_is (get_or ks i 0) (get_or ks i 0 - 1) (let z = number-known.0 in omega arith)))
