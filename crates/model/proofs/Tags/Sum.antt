-- Sums over the numbers below n.
use mathlib.Core.{Logic.{◌≢◌, ◌⊎◌, inl, inr}, Path.{◌∙◌, ◌≡◌, ap, fun_ext, refl, subst, sym}}
use Prim.Native.Nat.{◌*◌, ◌+◌, ◌<◌, ◌≤◌, suc, zero, ℕ}
use native.Mathlib.Omega.{arith}
use Rattle.model.proofs.{Tests.Truth.decide_eq, Machine.{Laws.{upd_other, upd_same}, Machine.upd}}

unfoldable pub total : (ℕ → ℕ) → ℕ → ℕ
total f zero = 0
total f (suc n) = f n + total f n

total_out : (f : ℕ → ℕ) (t v n : ℕ) → n ≤ t → total (upd f t v) n ≡ total f n
unfolding total
total_out f t v zero h = refl
total_out f t v (suc n) h = let e = upd_other f t v n (omega arith) in let i = total_out f t v n (omega arith) in cc

pub total_upd : (f : ℕ → ℕ) (t v n : ℕ) → t < n → total (upd f t v) n + f t ≡ total f n + v
unfolding total
total_upd f t v zero h = absurd (omega arith)
total_upd f t v (suc n) h = go (λ l. total_upd f t v n l) (decide_eq n t)
  where
    go : (t < n → total (upd f t v) n + f t ≡ total f n + v) → (n ≡ t) ⊎ (n ≢ t) → upd f t v n + total (upd f t v) n + f t ≡ f n + total f n + v
    go ih (inl z) =
        let a = ap (λ (m : ℕ). upd f t v m) z ∙ upd_same f t v in
        let b = total_out f t v n (omega arith) in
        let c = ap f z in
        omega arith
    go ih (inr z) = let a = upd_other f t v n z in omega (arith, ih (omega arith))

-- The same of a function of records, one of which is replaced.
pub total_at : {A : Type 0} (g : A → ℕ) (f : ℕ → A) (t : ℕ) (v : A) (n : ℕ) → t < n → total (λ u. g (upd f t v u)) n + g (f t) ≡ total (λ u. g (f u)) n + g v
total_at g f t v n lt = ap (λ (k : ℕ → ℕ). total k n + g (f t)) (fun_ext (λ u. one u (decide_eq u t))) ∙ total_upd (λ u. g (f u)) t (g v) n lt
  where
    one : (u : ℕ) → (u ≡ t) ⊎ (u ≢ t) → g (upd f t v u) ≡ upd (λ u. g (f u)) t (g v) u
    one u (inl z) = subst (λ u. g (upd f t v u) ≡ upd (λ u. g (f u)) t (g v) u) (sym z) (ap g (upd_same f t v) ∙ sym (upd_same (λ u. g (f u)) t (g v)))
    one u (inr z) = ap g (upd_other f t v u z) ∙ sym (upd_other (λ u. g (f u)) t (g v) u z)

pub total_one : (f : ℕ → ℕ) (t n : ℕ) → t < n → f t ≤ total f n
total_one f t n h = omega (arith, total_upd f t 0 n h)

pub total_le : (f : ℕ → ℕ) (k n : ℕ) → ((t : ℕ) → f t ≤ k) → total f n ≤ k * n
unfolding total
total_le f k zero h = omega arith
total_le f k (suc n) h = omega (arith, h n, total_le f k n h)

-- Sums compared term by term.
pub total_keep : (f' f : ℕ → ℕ) (n : ℕ) → ((u : ℕ) → f' u ≤ f u) → total f' n ≤ total f n
unfolding total
total_keep f' f zero h = omega arith
total_keep f' f (suc n) h = omega (arith, h n, total_keep f' f n h)

pub total_drop : (f' f : ℕ → ℕ) (t n : ℕ) → t < n → ((u : ℕ) → f' u ≤ f u) → f' t < f t → total f' n < total f n
unfolding total
total_drop f' f t zero lt h d = absurd (omega arith)
total_drop f' f t (suc n) lt h d = go (decide_eq n t) (λ l. total_drop f' f t n l h d)
  where
    go : (n ≡ t) ⊎ (n ≢ t) → (t < n → total f' n < total f n) → f' n + total f' n < f n + total f n
    go (inl e) ih = let p = total_keep f' f n h in let z : f' n < f n = subst (λ u. f' u < f u) (sym e) d in omega arith
    go (inr e) ih = omega (arith, h n, ih (omega arith))
