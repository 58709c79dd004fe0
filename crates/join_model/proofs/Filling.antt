-- Rows filled from 1 up: the rows beyond, the rows filled, the length.
use mathlib.Core.{Path.{◌≡◌, refl, ◌∙◌}, List.List, Logic.{◌≢◌, ◌⊎◌, inl, inr}}
use Prim.Native.Nat.{ℕ, zero, suc, ◌/◌, ◌<◌, ◌≤◌}
use native.Mathlib.Omega.{arith}
use lib.{ListN.{length, get_or, length-set}, Seq.{get_or-set_same, get_or-set_other}}
use Rattle.model.{specs.Tables.marked, proofs.{Tests.Truth.decide_eq, Bridge.Marks.marked_other}}
use Rattle.join_model.specs.Closed.{filled, marked_to}

pub filled_length : (f : ℕ → ℕ) (n : ℕ) (l : List ℕ) → length (filled f n l) ≡ length l
filled_length f zero l = refl
filled_length f (suc n) l = length-set (filled f n l) (suc n) (f (suc n)) ∙ filled_length f n l

pub filled-beyond : (f : ℕ → ℕ) (n : ℕ) (l : List ℕ) (i : ℕ) → n < i → get_or (filled f n l) i 0 ≡ get_or l i 0
filled-beyond f zero l i h = refl
filled-beyond f (suc n) l i h =
    get_or-set_other (filled f n l) (suc n) i (f (suc n)) 0 (λ z. omega arith) ∙ filled-beyond f n l i (omega arith)

pub marked_length : (n : ℕ) (ws : List ℕ) → length (marked_to n ws) ≡ length ws
marked_length zero ws = refl
marked_length (suc n) ws = length-set (marked_to n ws) (suc n / 64) _ ∙ marked_length n ws

pub marked-beyond : (n : ℕ) (ws : List ℕ) (i : ℕ) → n < i → n / 64 < length ws → marked (marked_to n ws) i ≡ marked ws i
marked-beyond zero ws i h g = refl
marked-beyond (suc n) ws i h g =
    marked_other (marked_to n ws) (suc n) 1 (omega arith) (omega (arith, marked_length n ws)) i (λ z. omega arith)
    ∙ marked-beyond n ws i (omega arith) (omega arith)

pub filled_at : (f : ℕ → ℕ) (n : ℕ) (l : List ℕ) (i : ℕ) → 1 ≤ i → i ≤ n → n < length l → get_or (filled f n l) i 0 ≡ f i
filled_at f zero l i h g s = absurd (omega arith)
filled_at f (suc n) l i h g s = go (decide_eq i (suc n)) (λ z. filled_at f n l i h z (omega arith))
  where
    go : (i ≡ suc n) ⊎ (i ≢ suc n) → (i ≤ n → get_or (filled f n l) i 0 ≡ f i) → get_or (filled f (suc n) l) i 0 ≡ f i
    go (inl z) more = rw z (get_or-set_same (filled f n l) (suc n) (f (suc n)) 0 (omega (arith, filled_length f n l)))
    go (inr z) more = get_or-set_other (filled f n l) (suc n) i (f (suc n)) 0 z ∙ more (omega arith)
