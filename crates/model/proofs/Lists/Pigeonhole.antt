-- A list of different numbers from 1 to n has at most n entries.
use mathlib.Core.{Bool.cond, Logic.◌≢◌, List.{List, [], ◌∷◌}, Path.{◌∙◌, sym}}
use Prim.Native.Nat.{◌≤◌, suc, zero, ℕ}
use native.Mathlib.Omega.{arith}
use lib.{Dec.eqb, ListN.length}
use borrow.Author.Tests.{eqb-false, eqb-true}
use Rattle.model.proofs.{Tests.Truth.by_test, Lists.{All.{all_both, all_map}, Deque.Distinct}}
use Rattle.model.specs.Lists.{All}

remove : ℕ → List ℕ → List ℕ
remove v [] = []
remove v (x ∷ l) = cond (eqb x v) l (x ∷ remove v l)

remove_length : (v : ℕ) (l : List ℕ) → length l ≤ suc (length (remove v l))
unfolding remove
remove_length v [] = omega arith
remove_length v (x ∷ l) = by_test (λ (z : List ℕ). suc (length l) ≤ suc (length z)) (eqb x v) (λ e. omega arith)
    (λ e. omega (arith, remove_length v l))

remove_all : (P : ℕ → Type 0) (v : ℕ) (l : List ℕ) → All P l → All P (remove v l)
unfolding remove
remove_all P v [] c = tt
remove_all P v (x ∷ l) c = by_test (All P) (eqb x v) (λ e. c.1) (λ e. (c.0, remove_all P v l c.1))

remove_distinct : (v : ℕ) (l : List ℕ) → Distinct l → Distinct (remove v l)
unfolding remove
remove_distinct v [] c = tt
remove_distinct v (x ∷ l) c = by_test Distinct (eqb x v) (λ e. c.1) (λ e. (remove_all _ v l c.0, remove_distinct v l c.1))

removed : (v : ℕ) (l : List ℕ) → Distinct l → All (λ y. y ≢ v) (remove v l)
unfolding remove
removed v [] c = tt
removed v (x ∷ l) c = by_test (All (λ y. y ≢ v)) (eqb x v) (λ e. all_map _ _ (λ y f z. f (z ∙ sym (eqb-true x v e))) l c.0)
    (λ e. (eqb-false x v e, removed v l c.1))

none : (l : List ℕ) → All (λ x. x ≢ 0) l → All (λ x. x ≤ 0) l → length l ≤ 0
none [] v w = omega arith
none (x ∷ l) v w = absurd (v.0 (omega (arith, w.0)))

-- (the list is no pattern here, so that the call below may have another one.)
pub pigeon : (n : ℕ) (l : List ℕ) → Distinct l → All (λ x. x ≢ 0) l → All (λ x. x ≤ n) l → length l ≤ n
pigeon zero l u v w = none l v w
pigeon (suc n) l u v w =
    let m = suc n in
    let ih = pigeon n (remove m l) (remove_distinct m l u) (remove_all _ m l v)
    (all_both (λ y. y ≢ m) (λ y. y ≤ m) (λ y. y ≤ n) (λ y f g. omega arith) (remove m l) (removed m l u) (remove_all _ m l w)) in
    omega (arith, remove_length m l)
