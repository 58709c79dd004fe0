-- Steps on lent records in the place of their tasks' steps.
use mathlib.Core.{Path.{◌≡◌, ◌∙◌, ap, refl, subst, sym}, Bool.true, Logic.◌≢◌, List.{List, [], ◌∷◌}}
use Prim.Native.Nat.{ℕ, ◌≤◌}
use native.Mathlib.Omega.{arith}
use lib.{Dec.eqb, ListN.length, Seq.set-get_or}
use Rattle.model.specs.Outcomes.{Refused}
use Rattle.model.specs.{declared.Op.TheVariants.Step, Lists.All}
use Rattle.model.specs.{Tables.{Queue, task_at, unused}, Refusals.{Rule, alone, first, step_refusal, step_rules}}
use Rattle.model.specs.{Calls.{Acted, Done, act, finish, step, step_lent}, History.{Event, Request, final, run}}
use Rattle.model.specs.LentSteps.{LentKnown, LentStand, Lendable, Turn, requested, final_turns, lent, request_of}
use Rattle.model.specs.LentSteps.{run_turns, take_turn}
use Rattle.model.proofs.Tests.Truth.{by_test, not_both, same_refusal}
use Rattle.model.proofs.Laws.{Lengths.act_lengths, Sizes.act-tasks, LentRecord.{lent_record, with_row}}

-- A task's own record, put where it lies.
own_row : (q : Queue) (t : ℕ) → with_row q t (task_at q t) ≡ q
own_row q t = λ i. record { tables = q.tables; records = set-get_or q.records t unused i }

turn_is : (q : Queue) (u : Turn) → q.tables.control.tasks ≤ length q.records → Lendable q.tables.control.tasks u
    → take_turn q u ≡ act q (request_of u).task (request_of u).op
unfolding take_turn
turn_is q (requested o) long h = refl
turn_is q (lent t) long h = sym (lent_record q t (task_at q t) h long) ∙ ap (λ (p : Queue). act p t Step) (own_row q t)

abbrev shown : Queue → Request → Done → Event
shown q o d = record {
  task = o.task;
  op = o.op;
  outcome = d.outcome;
  before = q.tables.control.anchor;
  after = d.queue.tables.control.anchor;
}

pub lent_stand : LentStand
unfolding run_turns final_turns run final
lent_stand q [] long h = record { events = refl; queue = refl }
lent_stand q (u ∷ us) long h =
    let o = request_of u in
    let d = act q o.task o.op in
    let e = turn_is q u long h.0 in
    let n = act-tasks q o.task o.op in
    let ih = lent_stand d.queue us (omega (arith, n, (act_lengths q o.task o.op).records))
    (subst (λ n. All (Lendable n) us) (sym n) h.1) in
    record {
      events =
          ap (λ (d : Done). shown q o d ∷ run_turns d.queue us) e
          ∙ ap (λ (es : List Event). shown q o d ∷ es) ih.events;
      queue = ap (λ (d : Done). final_turns d.queue us) e ∙ ih.queue;
    }

-- A number that no rule of a list gives where it applies.
not_given : (n : ℕ) (l : List Rule) → n ≢ 0 → All (λ (x : Rule). x.applies ≡ true → x.number ≢ n) l → first l ≢ n
not_given n [] z h = λ e. z (sym e)
not_given n (x ∷ l) z h = by_test (λ (k : ℕ). k ≢ n) x.applies (λ t. h.0 t) (λ f. not_given n l z h.1)

pub lent-known : LentKnown
unfolding step_lent step step_refusal finish
lent-known q r = by_test (λ (a : Acted). a.outcome ≢ Refused 13) (eqb (step_refusal q alone r.call) 0)
    (λ z e. let w : ◌≡◌ {A = ℕ} 0 1 = cc in omega arith)
    (λ z e. not_given 13 (step_rules q alone r.call) (λ w. omega arith) (
      (λ t w. omega arith),
      (
        (λ t w. omega arith),
        ((λ t. absurd (not_both t refl)), ((λ t w. omega arith), ((λ t w. omega arith), ((λ t w. omega arith), tt)))),
      ),
    ) (same_refusal e))
