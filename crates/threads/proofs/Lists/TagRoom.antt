-- Anchor's tag has room for the changes still to come, if a push that has passed 33 and had no turn yet counts as one that owes two.
use mathlib.Core.{Path.{◌≡◌, refl, ap, sym, subst, fun_ext, ◌∙◌}, Bool.{Bool, true, false, cond}, List.List}
use mathlib.Core.Logic.{◌≢◌, ◌⊎◌, inl, inr}
use Prim.Native.Nat.{ℕ, ◌+◌, ◌<◌, ◌≤◌}
use native.Mathlib.Omega.{arith}
use lib.Dec.{eqb}
use borrow.Author.Tests.{eqb-true, eq-eqb, ne_eqb, ltb-false}
use Rattle.word.specs.Anchor.{anchor_of}
use Rattle.model.specs.declared.{Call.Call, Record.Record, Op.{Op, TheVariants.{Push, Pop, PushPooled, Step}}}
use Rattle.model.specs.Outcomes.{Refused}
use Rattle.model.specs.{Sound.control_sound, History.Ledger}
use Rattle.model.specs.{Tables.{Tables, Queue, record_at, started, task_at, unused, with_call}, Places.{move, word_found}}
use Rattle.model.specs.Refusals.{among, late, pop_refusal, push_refusal, push_pooled_refusal, step_refusal}
use Rattle.model.specs.Calls.{Acted, Done, act, act_on, back, finish, pop_start, push_start, push_pooled_start, step}
use Rattle.model.proofs.{Tests.Truth.{by_test, decide_eq, not_both, split}, Lists.Store.set_back}
use Rattle.model.proofs.{Machine.{Laws.{upd_other, upd_same}, Machine.upd}, Invariant.Tags.{cost, weight}}
use Rattle.model.proofs.Bridge.Accepted.{Lies, pop_accepted, push_accepted, push_pooled_accepted, step-accepted}
use Rattle.model.proofs.Bridge.{Decoded.seen_move, Facts.control_fine, Stores.touched_tasks, View.{rec_of, state_of, view}}
use Rattle.model.proofs.{Bridge.Operations.{put_back, state_is, task_of}, Ledger.Matched.Matched}
use Rattle.model.proofs.Tags.AnchorTag.{WeightKept, cost_small, unsettled_small}
use Rattle.model.proofs.Tags.Sum.{total, total_keep, total_le, total_upd}
use Rattle.model.proofs.Unsound.{Safe.Safe, StartSafe.Room, StepSound.{weight_kept, seen, stepping}}
use Rattle.model.proofs.Machine.Machine as M
use Rattle.threads_model.specs.Turns.{act_early, take_early}
use Rattle.threads.proofs.Lists.EarlyPush.{pushed, waited}

-- What task u owes; `early u`: its push has passed 33 and had no turn yet.
abbrev debt : (ℕ → Bool) → (ℕ → M.Rec) → ℕ → ℕ
debt early f u = cond (early u) 2 (cost (f u))

abbrev Fits : (ℕ → Bool) → ℕ → M.State → Type 0
Fits early n s = weight s.shared + total (debt early s.task) n ≤ 4294967295

abbrev pub Roomy : (ℕ → Bool) → Queue → Type 0
Roomy early q = Fits early q.tables.control.tasks (state_of q)

debt_small : (early : ℕ → Bool) (f : ℕ → M.Rec) (u : ℕ) → debt early f u ≤ 2
debt_small early f u = by_test (λ n. n ≤ 2) (early u) (λ _. omega arith) (λ _. cost_small (f u))

-- One term of a sum replaced.
total_swap : (f f' : ℕ → ℕ) (t n : ℕ) → t < n → ((u : ℕ) → u ≢ t → f' u ≡ f u) → total f' n + f t ≡ total f n + f' t
total_swap f f' t n lt same = ap (λ (k : ℕ → ℕ). total k n + f t) (fun_ext (λ u. one u (decide_eq u t))) ∙ total_upd f t (f' t) n lt
  where
    one : (u : ℕ) → (u ≡ t) ⊎ (u ≢ t) → f' u ≡ upd f t (f' t) u
    one u (inl z) = ap f' z ∙ sym (ap (λ (u : ℕ). upd f t (f' t) u) z ∙ upd_same f t (f' t))
    one u (inr z) = same u z ∙ sym (upd_other f t (f' t) u z)

-- At a tag up to 4,294,967,262 there is room, whatever the tasks owe.
pub early_roomy : (early : ℕ → Bool) (q : Queue) → control_sound q.tables.control ≡ true → late q.tables.control ≡ false → Roomy early q
unfolding view state_of
early_roomy early q sound e =
    let c = q.tables.control in
    let low = ltb-false _ (anchor_of c.anchor).tag e in
    let all = total_le (debt early (state_of q).task) 2 c.tasks (debt_small early (state_of q).task) in
    let one = unsettled_small (view q.tables).anchor.status in
    let few = (control_fine c sound).tasks in
    omega (arith, low, all, one, few)

-- Fewer that have passed 33.
pub fewer_roomy : (early early' : ℕ → Bool) (q : Queue) → ((u : ℕ) → early' u ≡ true → early u ≡ true) → Roomy early q → Roomy early' q
fewer_roomy early early' q less r =
    let f = (state_of q).task in
    let le = total_keep (debt early' f) (debt early f) q.tables.control.tasks (λ u. one f u (early' u) (early u) (less u)) in
    omega (arith, le, r)
  where
    one : (f : ℕ → M.Rec) (u : ℕ) (b a : Bool) → (b ≡ true → a ≡ true) → cond b 2 (cost (f u)) ≤ cond a 2 (cost (f u))
    one f u true a h = by_test (λ n. 2 ≤ n) a (λ _. omega arith) (λ e. absurd (not_both (h refl) e))
    one f u false a h = by_test (λ n. cost (f u) ≤ n) a (λ _. cost_small (f u)) (λ _. omega arith)

-- A start or step of a task that has not passed 33.
module _ (n : ℕ) (q : Queue) (l : Ledger) (g : Matched n q l) (s : Safe q) (t : ℕ) (early : ℕ → Bool) (none : early t ≡ false) (r : Roomy early q) where
  abbrev G : Tables
  G = q.tables

  abbrev After : Acted → Type 0
  After a = Roomy early (back q t a).queue

  refused : (why : ℕ) → After (record { tables = G; task = task_at q t; outcome = Refused why })
  refused why = subst (λ (x : List Record). Roomy early (record { tables = G; records = x })) (sym (set_back q.records t unused)) r

  module _ (z : Lies q t) (busy : (record_at q t).place ≢ 0) where
    abbrev m : M.Move
    m = seen_move G (record_at q t)

    keeps_weight : WeightKept (view G) ((state_of q).task t) m
    keeps_weight =
        subst (λ (x : M.Rec). WeightKept (view G) x m) (sym (task_of q t z.known))
        (subst (WeightKept (view G) (rec_of (record_at q t))) (seen n q l g s t z busy) (weight_kept n q l g s t z busy))

    swaps : total (debt early (upd (state_of q).task t m.rec)) G.control.tasks + cost ((state_of q).task t)
        ≡ total (debt early (state_of q).task) G.control.tasks + cost m.rec
    swaps =
        let f = (state_of q).task in
        let was : debt early f t ≡ cost (f t) = ap (λ (b : Bool). cond b 2 (cost (f t))) none in
        let now : debt early (upd f t m.rec) t ≡ cost m.rec =
        ap (λ (b : Bool). cond b 2 (cost (upd f t m.rec t))) none ∙ ap cost (upd_same f t m.rec) in
        let e = total_swap (debt early f) (debt early (upd f t m.rec)) t G.control.tasks z.known
        (λ u ne. ap (λ (x : M.Rec). cond (early u) 2 (cost x)) (upd_other f t m.rec u ne)) in
        omega (arith, was, now, e)

    stepped : After (finish G (task_at q t) (move G.control (record_at q t) (word_found G (record_at q t))))
    unfolding finish state_of
    stepped =
        subst (λ (k : ℕ). Fits early k (state_of (back q t (finish G (task_at q t) (move G.control (record_at q t) (word_found G (record_at q t))))).queue))
        (sym (touched_tasks (move G.control (record_at q t) (word_found G (record_at q t))).touch G))
        (subst (Fits early G.control.tasks) (sym (state_is q g.book g.inv g.links t (stepping n q l g s t z busy)))
        (let a = keeps_weight.less in let b = swaps in omega (arith, a, b, r)))

  pub act_roomy : (o : Op) → Roomy early (act q t o).queue
  unfolding act act_on push_start push_pooled_start pop_start step
  act_roomy (Push side x y) = by_test After (eqb (push_refusal G (among q t) (record_at q t) side x) 0)
      (λ e. early_roomy early (back q t (pushed q t side x y)).queue s.control (push_accepted q t side x (eqb-true _ _ e)).starting.early)
      (λ _. refused (push_refusal G (among q t) (record_at q t) side x))
  act_roomy (Pop side) = by_test After (eqb (pop_refusal G (among q t) (record_at q t) side) 0)
      (λ e. early_roomy early _ s.control (pop_accepted q t side (eqb-true _ _ e)).early)
      (λ _. refused (pop_refusal G (among q t) (record_at q t) side))
  act_roomy (PushPooled side y) = by_test After (eqb (push_pooled_refusal G (among q t) (record_at q t) side) 0)
      (λ e. early_roomy early _ s.control (push_pooled_accepted q t side (eqb-true _ _ e)).0.early)
      (λ _. refused (push_pooled_refusal G (among q t) (record_at q t) side))
  act_roomy Step = by_test After (eqb (step_refusal G (among q t) (record_at q t)) 0)
      (λ e. let a = step-accepted q t (eqb-true _ _ e) in stepped a.lies a.busy)
      (λ _. refused (step_refusal G (among q t) (record_at q t)))

-- The turn of a push that has passed 33: the two changes that it then owes were counted before.
module _ (q : Queue) (s : Safe q) (t : ℕ) (early : ℕ → Bool) (has : early t ≡ true) (r : Roomy early q) where
  -- The others.
  abbrev pub without : ℕ → Bool
  without u = cond (eqb u t) false (early u)

  less : (u : ℕ) → without u ≡ true → early u ≡ true
  less u e = split (eqb u t) (λ z. absurd (not_both (sym (ap (λ (b : Bool). cond b false (early u)) z) ∙ e) refl))
      (λ z. sym (ap (λ (b : Bool). cond b false (early u)) z) ∙ e)

  not_self : without t ≡ false
  not_self = ap (λ (b : Bool). cond b false (early t)) (eq-eqb t t refl)

  new_debt : (new : Call) (u : ℕ) → debt without (upd (state_of q).task t (rec_of new)) u ≤ debt early (state_of q).task u
  new_debt new u = go (decide_eq u t)
    where
      go : (u ≡ t) ⊎ (u ≢ t) → debt without (upd (state_of q).task t (rec_of new)) u ≤ debt early (state_of q).task u
      go (inl e) =
          let a = debt_small without (upd (state_of q).task t (rec_of new)) u in
          let b : debt early (state_of q).task u ≡ 2 =
          ap (λ (v : ℕ). debt early (state_of q).task v) e ∙ ap (λ (b : Bool). cond b 2 (cost ((state_of q).task t))) has in
          omega (arith, a, b)
      go (inr e) =
          let a : without u ≡ early u = ap (λ (b : Bool). cond b false (early u)) (ne_eqb u t e) in
          let b : debt without (upd (state_of q).task t (rec_of new)) u ≡ debt early (state_of q).task u =
          (λ i. cond (a i) 2 (cost (upd_other (state_of q).task t (rec_of new) u e i))) in
          omega (arith, b)

  early_debts : (new : Call) → weight (view q.tables) + total (debt without (upd (state_of q).task t (rec_of new))) q.tables.control.tasks ≤ 4294967295
  unfolding state_of
  early_debts new =
      let le = total_keep (debt without (upd (state_of q).task t (rec_of new))) (debt early (state_of q).task) q.tables.control.tasks (new_debt new) in
      omega (arith, le, r)

  pub early-room : (new : Call) → Room q t new
  early-room new =
      let f = upd (state_of q).task t (rec_of new) in
      let le = total_keep (λ u. cost (f u)) (debt without f) q.tables.control.tasks
      (λ u. by_test (λ n. cost (f u) ≤ n) (without u) (λ _. cost_small (f u)) (λ _. omega arith)) in
      let d = early_debts new in
      omega (arith, le, d)

  pub pushed_roomy : (side slot label : ℕ) → Lies q t → Roomy without (back q t (pushed q t side slot label)).queue
  unfolding state_of view
  pushed_roomy side slot label z =
      subst (λ (f : ℕ → M.Rec). weight (view q.tables) + total (debt without f) q.tables.control.tasks ≤ 4294967295)
      (sym (put_back q t z (with_call (task_at q t) (started 0 side slot label)))) (early_debts (started 0 side slot label))

  pub turn_roomy : (n : ℕ) (l : Ledger) → Matched n q l → (side slot label : ℕ)
      → Roomy without (take_early q (record { task = t; op = Push side slot label; early = true })).queue
  unfolding take_early act_early
  turn_roomy n l g side slot label =
      by_test (λ (d : Done). Roomy without d.queue) (eqb (push_refusal q.tables (among q t) (record_at q t) side slot) 33)
      (λ e. pushed_roomy side slot label (waited q t side slot (eqb-true _ _ e)).lies)
      (λ _. act_roomy n q l g s t without not_self (fewer_roomy early without q less r) (Push side slot label))
