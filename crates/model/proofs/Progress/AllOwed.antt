-- The sum of what all tasks owe, where one task's record and what the tasks share are replaced. A task that draws its slot may send each
-- other task at the head back, which is counted pair by pair.
use mathlib.Core.{Bool.{Bool, cond, true}, Logic.{◌≢◌, ◌⊎◌, inl, inr}, Path.{◌≡◌, ap, refl, subst, sym}}
use Prim.Native.Nat.{◌*◌, ◌+◌, ◌<◌, ◌≤◌, suc, zero, ℕ}
use native.Mathlib.Omega.{arith}
use Rattle.model.specs.Progress.{pairs}
use Rattle.model.proofs.{Tests.Truth.decide_eq, Machine.{Laws.{upd_other, upd_same}, Machine.upd}}
use Rattle.model.proofs.Tags.Sum.{total, total_at, total_drop, total_keep}
use Rattle.model.proofs.Progress.{Others.{heads, keep}, Scale.together}
use Rattle.model.proofs.Machine.Machine as M

-- How many of the first n tasks may find the head changed.
abbrev pub at_head : ℕ → (ℕ → M.Rec) → ℕ
at_head n f = total (λ u. heads (f u).place) n

-- What the first n tasks owe; in a pooled queue 3 more for each pair of those that may find the head changed.
abbrev pub all : Bool → ℕ → M.State → ℕ
all pooled n s = total (λ u. together s.shared (s.task u)) n + cond pooled (3 * pairs (at_head n s.task)) 0

pub pairs-up : (a b : ℕ) → a ≤ b → pairs a ≤ pairs b
unfolding pairs
pairs-up zero b le = omega arith
pairs-up (suc a) zero le = absurd (omega arith)
pairs-up (suc a) (suc b) le = omega (arith, pairs-up a b (omega arith))

thrice : (f g : ℕ → ℕ) (n : ℕ) → total (λ u. f u + 3 * g u) n ≡ total f n + 3 * total g n
unfolding total
thrice f g zero = refl
thrice f g (suc n) = omega (arith, thrice f g n)

module _ (s : M.Shared) (f : ℕ → M.Rec) (t : ℕ) (s' : M.Shared) (r' : M.Rec) (n : ℕ) where
  abbrev f' : ℕ → M.Rec
  f' = upd f t r'

  -- Term by term: what holds of the task's new record, and of any other record.
  each : (P : ℕ → M.Rec → Type 0) → P t r' → ((u : ℕ) → P u (f u)) → (u : ℕ) → P u (f' u)
  each P own others u = go (decide_eq u t)
    where
      go : (u ≡ t) ⊎ (u ≢ t) → P u (f' u)
      go (inl e) = subst (λ v. P v (f' v)) (sym e) (subst (P t) (sym (upd_same f t r')) own)
      go (inr e) = subst (P u) (sym (upd_other f t r' u e)) (others u)

  -- Nobody owes more, and no more find the head changed.
  module _ (lt : t < n) (fewer : heads r'.place ≤ heads (f t).place) (others : (u : M.Rec) → together s' u ≤ together s u) where
    sums : together s' r' ≤ together s (f t) → (u : ℕ) → together s' (f' u) ≤ together s (f u)
    sums own = each (λ u x. together s' x ≤ together s (f u)) own (λ u. others (f u))

    heads_keep : (pooled : Bool) → cond pooled (3 * pairs (at_head n f')) 0 ≤ cond pooled (3 * pairs (at_head n f)) 0
    heads_keep pooled =
        let e = total_at (λ (x : M.Rec). heads x.place) f t r' n lt in
        let p = pairs-up (at_head n f') (at_head n f) (omega (arith, fewer)) in
        keep pooled (omega arith) (omega arith)

    pub all_keep : (pooled : Bool) → together s' r' ≤ together s (f t)
        → all pooled n (record { shared = s'; task = f' }) ≤ all pooled n (record { shared = s; task = f })
    all_keep pooled own = omega (arith, total_keep _ _ n (sums own), heads_keep pooled)

    pub all_drop : (pooled : Bool) → together s' r' < together s (f t)
        → all pooled n (record { shared = s'; task = f' }) < all pooled n (record { shared = s; task = f })
    all_drop pooled own = omega (
      arith,
      total_drop _ _ t n lt (sums (omega arith)) (subst (λ (x : M.Rec). together s' x < together s (f t)) (sym (upd_same f t r')) own),
      heads_keep pooled,
    )

  -- The task draws its slot: one fewer may find the head changed, and each of them owes 3 more at the most.
  pub all-drawn : t < n → heads (f t).place ≡ 1 → heads r'.place ≡ 0 → ((u : M.Rec) → together s' u ≤ together s u + 3 * heads u.place)
      → together s' r' < together s (f t) → all true n (record { shared = s'; task = f' }) < all true n (record { shared = s; task = f })
  unfolding pairs
  all-drawn lt before after others own =
      let one = total_at (λ (x : M.Rec). heads x.place) f t r' n lt in
      let fewer : at_head n f ≡ suc (at_head n f') = omega arith in
      let drop = total_drop _ (λ u. together s (f u) + 3 * heads (f' u).place) t n lt
      (each (λ u x. together s' x ≤ together s (f u) + 3 * heads x.place) (omega arith) (λ u. others (f u)))
      (subst (λ (x : M.Rec). together s' x < together s (f t) + 3 * heads x.place) (sym (upd_same f t r')) (omega arith)) in
      let sum = thrice (λ u. together s (f u)) (λ u. heads (f' u).place) n in
      let p : pairs (at_head n f) ≡ at_head n f' + pairs (at_head n f') = ap pairs fewer in
      omega arith
