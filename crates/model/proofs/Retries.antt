-- The counts of the tasks add up to the single count that control had.
use mathlib.Core.{Bool.{Bool, true, false}, List.{List, [], ◌∷◌}, Logic.{◌≢◌, ◌⊎◌, inl, inr}}
use mathlib.Core.Path.{◌≡◌, ◌∙◌, ap, fun_ext, refl, subst, sym}
use Prim.Native.Nat.{ℕ, zero, suc, ◌+◌, ◌<◌, ◌≤◌}
use native.Mathlib.Omega.{arith}
use lib.{Dec.{eqb, ltb}, ListN.{get_or, length, set}, Seq.{get_or-set_same, get_or-set_other}}
use borrow.Author.Tests.{eqb-true, lt-ltb}
use Rattle.model.specs.declared.{Op.{Op, TheVariants.{Push, Pop, PushPooled, Step}}, Record.Record}
use Rattle.model.specs.{Tables.{Queue, record_at, task_at, unused}, Route.counted, History.{Request, final}}
use Rattle.model.specs.Refusals.{among, pop_refusal, push_refusal, push_pooled_refusal, step_refusal}
use Rattle.model.specs.Calls.{Acted, act, act_on, finish, opened, pop_start, push_start, push_pooled_start, step}
use Rattle.model.specs.Retries.{RetriesSum, SumIsOld, fails, old_count, retries_below}
use Rattle.model.proofs.{Tests.Truth.{and-true, by_test, decide_eq, not_both, split}, Ledger.Opened.zeroed-at}
use Rattle.model.proofs.{Machine.{Laws.{upd_other, upd_same}, Machine.upd}, Laws.Sizes.act-tasks}
use Rattle.model.proofs.{Tags.Sum.{total, total_one, total_upd}, Bridge.Accepted.{Lies, step-accepted}}
use Rattle.model.proofs.Openings.{after-opening}

-- The count of a task.
abbrev own : Queue → ℕ → ℕ
own q t = (task_at q t).retries

below_total : (q : Queue) (n : ℕ) → retries_below q n ≡ total (own q) n
unfolding retries_below total
below_total q zero = refl
below_total q (suc n) = ap (λ (k : ℕ). own q n + k) (below_total q n)

-- What a start or step leaves of its task's count.
count_of : (q : Queue) (t : ℕ) (o : Op) → (act_on q.tables (among q t) (task_at q t) o).task.retries ≡ counted (own q t) (fails q t o)
unfolding act_on push_start pop_start push_pooled_start step finish fails counted
count_of q t (Push side slot label) =
    by_test (λ (a : Acted). a.task.retries ≡ own q t) (eqb (push_refusal q.tables (among q t) (record_at q t) side slot) 0) (λ e. refl) (λ e. refl)
count_of q t (Pop side) = by_test (λ (a : Acted). a.task.retries ≡ own q t) (eqb (pop_refusal q.tables (among q t) (record_at q t) side) 0)
    (λ e. refl) (λ e. refl)
count_of q t (PushPooled side label) = by_test (λ (a : Acted). a.task.retries ≡ own q t)
    (eqb (push_pooled_refusal q.tables (among q t) (record_at q t) side) 0)
    (λ e. refl) (λ e. refl)
count_of q t Step = split (eqb (step_refusal q.tables (among q t) (record_at q t)) 0) (λ e. rw e) (λ e. rw e)

-- A record put back with the same count.
same_column : (l : List Record) (t : ℕ) (x : Record) → x.retries ≡ (get_or l t unused).retries → (u : ℕ)
    → (get_or (set l t x) u unused).retries ≡ (get_or l u unused).retries
same_column [] t x e u = refl
same_column (r ∷ l) zero x e zero = e
same_column (r ∷ l) zero x e (suc u) = refl
same_column (r ∷ l) (suc t) x e zero = refl
same_column (r ∷ l) (suc t) x e (suc u) = same_column l t x e u

-- One with another.
other_column : (l : List Record) (t : ℕ) (x : Record) → t < length l
    → (λ (u : ℕ). (get_or (set l t x) u unused).retries) ≡ upd (λ u. (get_or l u unused).retries) t x.retries
other_column l t x h = fun_ext (λ u. go u (decide_eq u t))
  where
    go : (u : ℕ) → (u ≡ t) ⊎ (u ≢ t) → (get_or (set l t x) u unused).retries ≡ upd (λ u. (get_or l u unused).retries) t x.retries u
    go u (inl e) =
        subst (λ u. (get_or (set l t x) u unused).retries ≡ upd (λ u. (get_or l u unused).retries) t x.retries u) (sym e)
        (ap (λ (r : Record). r.retries) (get_or-set_same l t x unused h) ∙ sym (upd_same (λ u. (get_or l u unused).retries) t x.retries))
    go u (inr e) = ap (λ (r : Record). r.retries) (get_or-set_other l t u x unused e)
        ∙ sym (upd_other (λ u. (get_or l u unused).retries) t x.retries u e)

sum : Queue → ℕ
sum q = total (own q) q.tables.control.tasks

-- A step whose change fails has a record.
found : (q : Queue) (t : ℕ) (o : Op) → fails q t o ≡ true → Lies q t
unfolding fails
found q t (Push side slot label) e = absurd (not_both e refl)
found q t (Pop side) e = absurd (not_both e refl)
found q t (PushPooled side label) e = absurd (not_both e refl)
found q t Step e = (step-accepted q t (eqb-true _ _ (and-true _ _ e).0)).lies

-- The sum goes with the old count, as long as that is below its ceiling.
module _ (q : Queue) (t : ℕ) (o : Op) where
  abbrev q' : Queue
  q' = (act q t o).queue

  same-tasks : q'.tables.control.tasks ≡ q.tables.control.tasks
  unfolding act
  same-tasks = act-tasks q t o

  abbrev new : Record
  new = (act_on q.tables (among q t) (task_at q t) o).task

  kept : fails q t o ≡ false → sum q' ≡ sum q
  unfolding act sum counted
  kept e =
      let c : new.retries ≡ own q t = count_of q t o ∙ rw e in
      ap (λ (f : ℕ → ℕ). total f q'.tables.control.tasks) (fun_ext (same_column q.records t new c)) ∙ ap (total (own q)) same-tasks

  raised : fails q t o ≡ true → sum q < 4294967295 → sum q' ≡ suc (sum q)
  unfolding act sum counted
  raised e h =
      let z = found q t o e in
      let one = total_one (own q) t q.tables.control.tasks z.known in
      let c : new.retries ≡ own q t + 1 = count_of q t o ∙ rw (e, lt-ltb (own q t) 4294967295 (omega arith)) in
      let w : sum q' ≡ total (upd (own q) t new.retries) q.tables.control.tasks =
      ap (λ (f : ℕ → ℕ). total f q'.tables.control.tasks) (other_column q.records t new (omega (arith, z.length, z.known)))
      ∙ ap (total (upd (own q) t new.retries)) same-tasks in
      omega (arith, w, c, total_upd (own q) t new.retries q.tables.control.tasks z.known)

-- The old count never falls.
counted_rises : (n : ℕ) (b : Bool) → n ≤ counted n b
unfolding counted
counted_rises n false = omega arith
counted_rises n true = by_test (λ k. n ≤ k) (ltb n 4294967295) (λ e. omega arith) (λ e. omega arith)

old_rises : (n : ℕ) (q : Queue) (os : List Request) → n ≤ old_count n q os
unfolding old_count
old_rises n q [] = omega arith
old_rises n q (o ∷ os) =
    let b = fails q o.task o.op in
    omega (arith, counted_rises n b, old_rises (counted n b) (act q o.task o.op).queue os)

sums : (os : List Request) (n : ℕ) (q : Queue) → sum q ≡ n → old_count n q os < 4294967295 → sum (final q os) ≡ old_count n q os
unfolding old_count final counted
sums [] n q e h = e
sums (o ∷ os) n q e h = sums os (counted n b) (act q o.task o.op).queue (go b refl) h
  where
    b : Bool
    b = fails q o.task o.op

    low : n < 4294967295
    low = omega (arith, h, counted_rises n b, old_rises (counted n b) (act q o.task o.op).queue os)

    go : (c : Bool) → fails q o.task o.op ≡ c → sum (act q o.task o.op).queue ≡ counted n c
    go false z = kept q o.task o.op z ∙ e
    go true z = rw (lt-ltb n 4294967295 low) (let w = raised q o.task o.op z (omega (arith, e, low)) in omega (arith, e, w))

-- An opening zeroes the counts.
total-zero : (f : ℕ → ℕ) (n : ℕ) → ((t : ℕ) → t < n → f t ≡ 0) → total f n ≡ 0
unfolding total
total-zero f zero h = refl
total-zero f (suc n) h = omega (arith, h n (omega arith), total-zero f n (λ t l. h t (omega arith)))

open_sum : (pooled : Bool) (q : Queue) (tasks slots tag : ℕ) → sum (opened pooled q tasks slots tag) ≡ 0
unfolding sum opened
open_sum pooled q tasks slots tag = total-zero _ tasks (λ t l. ap (λ (r : Record). r.retries) (zeroed-at tasks unused q.records t l))

pub retries-sum : RetriesSum
unfolding sum
retries-sum pooled = after-opening pooled SumIsOld (λ q tasks slots tag e os h.
    below_total _ _ ∙ sums os 0 (opened pooled q tasks slots tag) (open_sum pooled q tasks slots tag) h)
