-- Request #108's second bound, of threads: so many accepted steps among the turns of a stretch, and some call takes effect or answers.
use mathlib.Core.{Path.{◌∙◌, ◌≡◌, ap, refl, sym, subst}, Bool.{Bool, cond, false, true}, List.{List, [], ◌∷◌}}
use Prim.Native.Nat.{ℕ, suc, ◌+◌, ◌*◌, ◌<◌, ◌≤◌}
use native.Mathlib.Omega.{arith}
use lib.Dec.{eqb}
use borrow.Author.Tests.{eqb-true}
use Rattle.model.specs.{declared.{Control.Control, Op.{Op, TheVariants.{Push, Pop, PushPooled, Step}}}, History.Ledger}
use Rattle.model.specs.{Tables.{Queue, is_pooled, record_at, started, task_at, with_call}, Refusals.{among, push_refusal}}
use Rattle.model.specs.{Sound.{control_sound, control_tests}, Calls.{Done, back}, Lists.All}
use Rattle.model.specs.Progress.{any, pairs, stepping, steps, stretch_limit, took_effect_or_answered}
use Rattle.model.{specs.Progress.took_effect_or_answered_by, proofs.Bridge.View.{place_of, rec_of, state_of, view}}
use Rattle.model.proofs.{Tests.{Truth.{by_test, either, or-false, split}, Rules.tests}, Ledger.Matched.Matched}
use Rattle.model.proofs.Bridge.{Accepted.Lies, Facts.from1_true, Operations.{put_back, task_of}}
use Rattle.model.proofs.Progress.{AllOwed.{all, all_keep}, Measure.owed_at, Others.{heads, heads_most}}
use Rattle.model.proofs.Progress.{Scale.{scale, together}, TogetherSteps.{act-all, all-bound}}
use Rattle.model.proofs.Machine.Machine as M
use Rattle.model.proofs.Laws.Sizes as sizes
use Rattle.threads_model.specs.Turns.{Turn, act_early, take_early, run_turns, final_turns}
use Rattle.threads_model.specs.Crew.{Known, all_free, go_on, turns}
use Rattle.threads.specs.Consequences.{InstructionsStretch, ThreadsStretch}
use Rattle.threads.proofs.{Run.runs_on, Since.after-threads, RealTime.first-known}
use Rattle.threads.proofs.Lists.EarlyPush.{pushed, shown, take_good, waited}

module _ (n : ℕ) (q : Queue) (l : Ledger) (g : Matched n q l) (pooled : Bool) (way : is_pooled q.tables.control ≡ pooled) (t : ℕ) where
  abbrev tasks : ℕ
  tasks = q.tables.control.tasks

  abbrev Falls : Op → Done → Type 0
  Falls o d = took_effect_or_answered_by (shown q t o d) o d.outcome ≡ false
      → stepping o d.outcome + all pooled tasks (state_of d.queue) ≤ all pooled tasks (state_of q)

  -- A push that was asked 33 before is a start like any other: its task owes at 1 what it owed idle.
  early_falls : (side slot label : ℕ) → Lies q t → (record_at q t).place ≡ 0 → Falls (Push side slot label) (back q t (pushed q t side slot label))
  unfolding view state_of rec_of
  early_falls side slot label z free _ =
      let s = view q.tables in
      let new = started 0 side slot label in
      let idle : ℕ = owed_at 1 (scale s) s.pooled M.idle s (rec_of (record_at q t)) in
      let was : idle ≡ together s ((state_of q).task t) =
      sym (ap (together s) (task_of q t z.known) ∙ ap (λ (p : ℕ). owed_at 1 (scale s) s.pooled (place_of p) s (rec_of (record_at q t))) free) in
      let head : heads ((state_of q).task t).place ≡ 1 =
      ap (λ (x : M.Rec). heads x.place) (task_of q t z.known) ∙ ap (λ (p : ℕ). heads (place_of p)) free in
      let le : together s (rec_of new) ≤ idle = omega arith in
      let kept = subst (λ (k : ℕ → M.Rec). all pooled tasks (record { shared = s; task = k }) ≤ all pooled tasks (state_of q))
      (sym (put_back q t z (with_call (task_at q t) new)))
      (all_keep s (state_of q).task t s (rec_of new) tasks z.known (omega (arith, head, heads_most (rec_of new).place))
      (λ u. omega arith) pooled (omega (arith, le, was))) in
      omega (arith, kept)

  falls : (o : Op) (early : Bool) → Falls o (take_early q (record { task = t; op = o; early = early }))
  unfolding take_early act_early
  falls (Push side slot label) true =
      by_test (Falls (Push side slot label)) (eqb (push_refusal q.tables (among q t) (record_at q t) side slot) 33)
      (λ e. let w = waited q t side slot (eqb-true _ _ e) in early_falls side slot label w.lies w.free)
      (λ _. act-all n q l g pooled way t (Push side slot label))
  falls (Pop side) true = act-all n q l g pooled way t (Pop side)
  falls (PushPooled side label) true = act-all n q l g pooled way t (PushPooled side label)
  falls Step true = act-all n q l g pooled way t Step
  falls o false = act-all n q l g pooled way t o

-- A turn keeps the numbers of tasks and slots, and the kind of queue.
abbrev Sized : Queue → Done → Type 0
Sized q d = sizes.sizes d.queue.tables ≡ sizes.sizes q.tables

early_sizes : (q : Queue) (t : ℕ) (o : Op) → Sized q (act_early q t o)
unfolding act_early
early_sizes q t (Push side slot label) =
    either (Sized q) (eqb (push_refusal q.tables (among q t) (record_at q t) side slot) 33) refl (sizes.act_sizes q t (Push side slot label))
early_sizes q t (Pop side) = sizes.act_sizes q t (Pop side)
early_sizes q t (PushPooled side label) = sizes.act_sizes q t (PushPooled side label)
early_sizes q t Step = sizes.act_sizes q t Step

take_sizes : (q : Queue) (u : Turn) → Sized q (take_early q u)
unfolding take_early
take_sizes q u = either (Sized q) u.early (early_sizes q u.task u.op) (sizes.act_sizes q u.task u.op)

module _ (pooled : Bool) (tasks : ℕ) where
  -- A list of turns that tells nothing has no more accepted steps than the tasks owe at its beginning.
  turns-all : (us : List Turn) (n : ℕ) (q : Queue) (l : Ledger) → Matched n q l → is_pooled q.tables.control ≡ pooled → q.tables.control.tasks ≡ tasks
      → any took_effect_or_answered (run_turns q us) ≡ false → steps (run_turns q us) ≤ all pooled tasks (state_of q)
  unfolding run_turns any steps
  turns-all [] n q l g way many e = omega arith
  turns-all (u ∷ us) n q l g way many e =
      let d = take_early q u in
      let w = or-false _ (any took_effect_or_answered (run_turns d.queue us)) e in
      let same = take_sizes q u in
      let a : stepping u.op d.outcome + all pooled tasks (state_of d.queue) ≤ all pooled tasks (state_of q) =
      subst (λ n. stepping u.op d.outcome + all pooled n (state_of d.queue) ≤ all pooled n (state_of q)) many
      (falls n q l g pooled way u.task u.op u.early w.0) in
      let b = turns-all us (suc n) d.queue _ (take_good n q l g u.task u.op u.early)
      (ap (λ (s : sizes.Sizes). eqb s.pooled 1) same ∙ way) (ap (λ (s : sizes.Sizes). s.tasks) same ∙ many) w.1 in
      omega (arith, a, b)

  -- More than all tasks owe.
  enough : 1 ≤ tasks → 19 * tasks + cond pooled (3 * pairs tasks) 0 < stretch_limit pooled tasks
  enough some = go pooled
    where
      go : (b : Bool) → 19 * tasks + cond b (3 * pairs tasks) 0 < stretch_limit b tasks
      go true = omega arith
      go false = omega arith

-- A control that is sound has a task.
has-task : (c : Control) → control_sound c ≡ true → 1 ≤ c.tasks
unfolding control_sound
has-task c e = (from1_true 16 c.tasks (tests (control_tests c) e).0).0

pub instructions_stretch : InstructionsStretch
instructions_stretch = after-threads (λ past. ThreadsStretch) (λ tasks pooled slots past q k l h first second is le.
    let now = final_turns q (turns pooled slots (all_free q) first) in
    let us = turns pooled slots (go_on pooled slots (all_free q) first) second in
    let c = q.tables.control in
    let way = is_pooled c in
    let z = k.good in
    let g = (runs_on tasks pooled slots q z first (first-known tasks first second (subst (All (Known tasks)) is h))).good in
    split (any took_effect_or_answered (run_turns now us)) (λ e. e)
    (λ none. absurd (omega (
      arith,
      le,
      turns-all way c.tasks us g.position now g.ledger g.matched (ap (λ (p : ℕ). eqb p 1) (g.pool ∙ sym z.pool))
          (g.count ∙ sym z.count) none,
      all-bound way c.tasks now,
      enough way c.tasks (has-task c z.safe.control),
    ))))
