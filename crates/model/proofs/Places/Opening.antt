-- The invariant holds of an empty queue whose tasks are idle and whose free slots, all of them, are told apart.
use mathlib.Core.{Bool.{false, true}, List.[], Path.{◌≡◌, refl, subst, sym}}
use Prim.Native.Nat.{◌+◌, ◌<◌, ◌≤◌, suc, zero, ℕ}
use native.Mathlib.Omega.{arith}
use Rattle.model.proofs.Lists.{All.all_map, Range.{in_range, range, range_bounds, range_distinct}}
use Rattle.model.proofs.{Machine.{Book.{no_book, no_call}, Machine.{Rec, Shared, idle, stable}}, Chain.Sides.under}
use Rattle.model.proofs.Invariant.{Invariant.Inv, Tasks.Task, Owners.{Pool, Spare, Stack, free}}
use Rattle.model.proofs.Places.Owned.{held-free, queued_free}
use Rattle.model.specs.Lists.{All}

-- No entry, no call, an empty Anchor: whatever the links and the labels are.
pub fresh : (s : Shared) (f : ℕ → Rec) → s.anchor.status ≡ stable → s.anchor.left ≡ 0 → s.anchor.right ≡ 0 → ((t : ℕ) → (f t).place ≡ idle)
    → Spare s.pooled s.slots s.next s.head.slot (λ x. free) → ((x : ℕ) → x ≤ s.slots → s.mark x ≡ false)
    → Inv (record { state = record { shared = s; task = f }; book = no_book })
fresh s f st l r i spare unmarked = record {
  owner = λ x. free;
  whole = record {
    shape = record { linked = under s.link [] st tt; tips = elim [ false ↦ l | true ↦ r ]; distinct = tt; real = tt };
    owned = tt;
    listed = λ x e. queued_free (sym e);
    labels = tt;
    bounds = λ x n. absurd (n refl);
    spare = spare;
  };
  tasks = λ t. subst (λ p. Task p s (λ x. free) t (f t) no_call) (sym (i t)) (refl, λ y e. held-free (sym e));
  marks = unmarked;
  kept = tt;
}

-- All slots of 1 to n stacked, each one's next the one above.
pub all-stacked : (n : ℕ) (f : ℕ → ℕ) → 1 ≤ n → ((i : ℕ) → 1 ≤ i → i < n → f i ≡ suc i) → f n ≡ 0 → Pool n f 1 (λ x. free)
all-stacked n f some up end = record {
  stack = range 1 n;
  chain = chained n 1 (omega arith) some (omega arith);
  distinct = range_distinct 1 n;
  unowned = all_map (λ y. (1 ≤ y) × (y < suc n)) (λ x. free ≡ free) (λ y b. refl) (range 1 n) bounds;
  within = all_map (λ y. (1 ≤ y) × (y < suc n)) (λ x. x ≤ n) (λ y b. omega (arith, b.1)) (range 1 n) bounds;
  full = λ x nz le e. in_range x 1 n (omega arith) (omega arith);
}
  where
    bounds : All (λ y. (1 ≤ y) × (y < suc n)) (range 1 n)
    bounds = range_bounds 1 n 1 (suc n) (omega arith) (omega arith)

    chained : (m k : ℕ) → 1 ≤ k → 1 ≤ m → k + m ≡ suc n → Stack f k (range k m)
    chained zero k l h e = absurd (omega arith)
    chained (suc zero) k l h e = (refl, λ z. omega arith, subst (λ x. f x ≡ 0) (let z : n ≡ k = omega arith in z) end)
    chained (suc (suc m)) k l h e = (
      refl,
      λ z. omega arith,
      subst (λ x. Stack f x (range (suc k) (suc m))) (sym (up k l (omega arith)))
          (chained (suc m) (suc k) (omega arith) (omega arith) (omega arith)),
    )
