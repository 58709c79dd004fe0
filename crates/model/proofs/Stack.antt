-- A pooled opening stacks all slots, slot 1 on top.
use mathlib.Core.{Bool.true, List.{List, [], ◌++◌, ◌∷◌}, Path.{◌∙◌, ◌≡◌, ap, refl}}
use Prim.Native.Nat.{◌+◌, ◌-◌, ◌<◌, ◌≤◌, suc, zero, ℕ}
use native.Mathlib.Omega.{arith}
use lib.{Dec.eqb, ListN.{drop, get_or, length}, Seq.get_or-drop}
use borrow.Author.Tests.{eqb-true}
use Rattle.model.specs.{Calls.{open_as, opened}, Lists.climb, Refusals.open_refusal, Stack.{PoolStacked, Stacked}}
use Rattle.model.specs.Outcomes.{Opened, Refused}
use Rattle.model.specs.{Tables.Queue}
use Rattle.model.proofs.{Tests.Truth.split, Lists.Range.length_climb}
use Rattle.model.proofs.Ledger.Opened.{next_end, next_up, next_zero, some_slots}

-- What lies behind the first of two lists.
behind : (l m : List ℕ) (n : ℕ) → length l ≤ n → get_or (l ++ m) n 0 ≡ get_or m (n - length l) 0
behind [] m n h = ap (λ (k : ℕ). get_or m k 0) (let z : n ≡ n - 0 = omega arith in z)
behind (x ∷ l) m zero h = absurd (omega (arith, h))
behind (x ∷ l) m (suc n) h =
    behind l m n (omega (arith, h)) ∙ ap (λ (k : ℕ). get_or m k 0) (let z : n - length l ≡ suc n - suc (length l) = omega arith in z)

kept : (slots : ℕ) (l : List ℕ) (n : ℕ) → slots < n → get_or ((0 ∷ climb 2 slots) ++ drop (slots + 1) l) n 0 ≡ get_or l n 0
kept slots l n h =
    let long = length_climb 2 slots in
    behind (0 ∷ climb 2 slots) (drop (slots + 1) l) n (omega (arith, long, h))
    ∙ get_or-drop (slots + 1) l (n - suc (length (climb 2 slots))) 0
    ∙ ap (λ (k : ℕ). get_or l k 0) (let z : slots + 1 + (n - suc (length (climb 2 slots))) ≡ n = omega (arith, long, h) in z)

stacked-right : (q : Queue) (tasks slots tag : ℕ) → open_refusal true q tasks slots ≡ 0 → Stacked slots q.tables (opened true q tasks slots tag).tables
unfolding opened
stacked-right q tasks slots tag e = record {
  top = refl;
  rows = λ n low high. next_up true q tasks slots tag refl n low high ∙ (let z : suc n ≡ n + 1 = omega arith in z);
  none = next_zero true q tasks slots tag refl;
  last = next_end true q tasks slots tag refl (some_slots true q tasks slots e);
  beyond = λ n h. kept slots q.tables.next n h;
}

pub pool_stacked : PoolStacked
unfolding open_as
pool_stacked q tasks slots tag e = split (eqb (open_refusal true q tasks slots) 0)
    (λ z. rw z (stacked-right q tasks slots tag (eqb-true _ _ z)))
    (λ z. absurd (let f : Refused (open_refusal true q tasks slots) ≡ Opened = rw z at e in let w : ◌≡◌ {A = ℕ} 0 1 = cc in omega arith))
