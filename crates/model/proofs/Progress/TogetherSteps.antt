-- The same of the tables: an operation with no effect and no answer lets the sum of what all tasks owe fall by one at a step, and never rise.
use mathlib.Core.{Bool.{Bool, cond, false, true}, List.{List, [], ◌∷◌}, Logic.{◌⊎◌, inl, inr}}
use mathlib.Core.Path.{◌∙◌, ◌≡◌, ap, refl, subst, sym}
use Prim.Native.Nat.{◌*◌, ◌+◌, ◌<◌, ◌≤◌, suc, ℕ}
use native.Mathlib.Omega.{arith}
use lib.{Dec.eqb, ListN.set}
use borrow.Author.Tests.{eqb-true}
use Rattle.model.specs.Calls.{Acted, Done, act, act_on, back, finish, pop_start, push_start, push_pooled_start, step}
use Rattle.model.specs.{History.{Event, Ledger, Request, is_effect, run}, Places.{word_found, move}}
use Rattle.model.specs.{Ends.answer_ends, Progress.took_effect_or_answered, Tables.{task_at, unused}}
use Rattle.model.specs.Progress.{took_effect_or_answered_by, any, pairs, stepping, steps, stretch_limit}
use Rattle.model.specs.Tables.{with_call, with_taken, Queue, Tables, asking, is_pooled, record_at, started, tables_of}
use Rattle.model.specs.Refusals.{among, pop_refusal, push_refusal, push_pooled_refusal, step_refusal}
use Rattle.model.specs.declared.Answer.{TheVariants.{Empty, NoFreeSlot, Popped, Pushed, Running}, Answer}
use Rattle.model.specs.declared.{Op.{Op, TheVariants.{Pop, Push, PushPooled, Step}}, Call.Call, Record.Record}
use Rattle.model.specs.Outcomes.{Moved, Refused}
use Rattle.model.proofs.{Tests.Truth.{by_test, either, not_both, or-false, split}, Lists.Store.set_back}
use Rattle.model.proofs.{Machine.{Book.effect, Machine.upd}, Invariant.Tasks.Task, Tags.Sum.total_le}
use Rattle.model.proofs.Bridge.Accepted.{Lies, Stepping, pop_accepted, push_accepted, push_pooled_accepted}
use Rattle.model.proofs.Bridge.{Accepted.step-accepted, Decoded.seen_move, EveryPlace.step_seen}
use Rattle.model.proofs.Bridge.Operations.{not_idle, put_back, reply, state_is, stepped, task_of}
use Rattle.model.proofs.Bridge.View.{answer_seen, place_of, rec_of, state_of, view}
use Rattle.model.proofs.{Ledger.{Matched.Matched, Served.effect_is}, Progress.Others.{heads, heads_most, keep}}
use Rattle.model.proofs.Progress.{Reached.{Reached, act_reached}, Measure.owed_at, Bounds.owed-within}
use Rattle.model.proofs.Progress.AllOwed.{all, all-drawn, all_drop, all_keep, at_head, pairs-up}
use Rattle.model.proofs.Progress.Scale.{scale, scale_most, scale_some, together}
use Rattle.model.proofs.Progress.Together.{SilentFalls, Drawn, Silent, silent_falls}
use Rattle.model.proofs.Machine.Machine as M

-- A step that tells nothing is silent.
runs_on : (a : Answer) → answer_ends a ≡ false → answer_seen a ≡ M.running
runs_on (Running p) e = refl
runs_on Pushed e = absurd (not_both refl e)
runs_on Empty e = absurd (not_both refl e)
runs_on (Popped v) e = absurd (not_both refl e)
runs_on NoFreeSlot e = absurd (not_both refl e)

module _ (n : ℕ) (q : Queue) (l : Ledger) (g : Matched n q l) (pooled : Bool) (way : is_pooled q.tables.control ≡ pooled) (t : ℕ) where
  abbrev r : Call
  r = record_at q t

  abbrev G : Tables
  G = q.tables

  abbrev tasks : ℕ
  tasks = G.control.tasks

  -- An operation that tells nothing.
  abbrev FallsUnlessTold : Op → Done → Type 0
  FallsUnlessTold o d = took_effect_or_answered_by
      (record { task = t; op = o; outcome = d.outcome; before = G.control.anchor; after = d.queue.tables.control.anchor }) o
      d.outcome ≡ false
      → stepping o d.outcome + all pooled tasks (state_of d.queue) ≤ all pooled tasks (state_of q)

  abbrev Puts : Op → Acted → Type 0
  Puts o a = FallsUnlessTold o (back q t a)

  refused : (o : Op) (why : ℕ) → Puts o (record { tables = G; task = task_at q t; outcome = Refused why })
  refused o why z = subst (λ (x : List Record). stepping o (Refused why) + all pooled tasks
      (state_of (record { tables = G; records = x })) ≤ all pooled tasks (state_of q))
      (sym (set_back q.records t unused)) (go o)
    where
      go : (o : Op) → stepping o (Refused why) + all pooled tasks (state_of q) ≤ all pooled tasks (state_of q)
      go (Push side x y) = omega arith
      go (Pop side) = omega arith
      go (PushPooled side label) = omega arith
      go Step = omega arith

  -- A start: an idle task owes as much as one at place 1, in a pooled queue as one at 12.
  module _ (z : Lies q t) (free : r.place ≡ 0) (labels marks : List ℕ) (new : Call) where
    abbrev begun : Queue
    begun = record {
      tables = tables_of G.control G.lefts G.rights labels marks G.next;
      records = set q.records t (with_call (task_at q t) new);
    }

    abbrev unstarted : ℕ
    unstarted = owed_at 1 (scale (view G)) (view G).pooled M.idle (view G) (rec_of r)

    was_idle : unstarted ≡ together (view G) ((state_of q).task t)
    unfolding rec_of
    was_idle = sym (ap (together (view G)) (task_of q t z.known)
        ∙ ap (λ (p : ℕ). owed_at 1 (scale (view G)) (view G).pooled (place_of p) (view G) (rec_of r)) free)

    at_its_head : heads ((state_of q).task t).place ≡ 1
    unfolding rec_of
    at_its_head = ap (λ (x : M.Rec). heads x.place) (task_of q t z.known) ∙ ap (λ (p : ℕ). heads (place_of p)) free

    start-all : together (view G) (rec_of new) ≤ unstarted → all pooled tasks (state_of begun) ≤ all pooled tasks (state_of q)
    unfolding view state_of
    start-all le = subst (λ (k : ℕ → M.Rec). all pooled tasks (record { shared = view G; task = k }) ≤ all pooled tasks (state_of q))
        (sym (put_back q t z (with_call (task_at q t) new)))
        (all_keep (view G) (state_of q).task t (view G) (rec_of new) tasks z.known (omega (arith, at_its_head, heads_most (rec_of new).place))
        (λ u. omega arith) pooled (omega (arith, le, was_idle)))

  -- An accepted step.
  module _ (s : Stepping q t) where
    abbrev q' : Queue
    q' = stepped q g.book g.inv g.links t s

    abbrev a : Answer
    a = reply q g.book g.inv g.links t s

    abbrev ev : Event
    ev = record { task = t; op = Step; outcome = Moved a; before = G.control.anchor; after = q'.tables.control.anchor }

    abbrev owes : ℕ
    owes = together (view G) (rec_of r)

    abbrev FallsOrDraws : M.Move → Type 0
    FallsOrDraws m = SilentFalls owes (place_of r.place) (view G) m ⊎ Drawn owes (place_of r.place) (view G) m

    falls_or_draws : FallsOrDraws (seen_move G r)
    unfolding rec_of state_of view
    falls_or_draws = subst FallsOrDraws (step_seen G s.control g.links r s.fine s.busy s.room)
        (silent_falls (view G) (rec_of r) t g.inv.owner g.book.queue (g.book.calls t) g.inv.whole (place_of r.place)
        (not_idle r.place s.busy s.fine.place)
        (subst (λ (x : M.Rec). Task x.place (view G) g.inv.owner t x (g.book.calls t)) (task_of q t s.lies.known) (g.inv.tasks t)))

    abbrev next : M.State
    next = record { shared = M.apply (view G) (seen_move G r).touch; task = upd (state_of q).task t (seen_move G r).rec }

    same : together (view G) ((state_of q).task t) ≡ owes
    same = ap (together (view G)) (task_of q t s.lies.known)

    place : heads ((state_of q).task t).place ≡ heads (place_of r.place)
    unfolding rec_of
    place = ap (λ (x : M.Rec). heads x.place) (task_of q t s.lies.known)

    all_fall : Silent (view G) (seen_move G r) → FallsOrDraws (seen_move G r) → all pooled tasks next < all pooled tasks (state_of q)
    unfolding state_of view
    all_fall silent (inl c) = all_drop (view G) (state_of q).task t next.shared (seen_move G r).rec tasks s.lies.known
        (omega (arith, c.fewer silent, place)) (c.others silent) pooled (omega (arith, c.own silent, same))
    all_fall silent (inr c) = subst (λ w. all w tasks next < all w tasks (state_of q)) (sym c.pooled ∙ way)
        (all-drawn (view G) (state_of q).task t next.shared (seen_move G r).rec tasks s.lies.known (place ∙ c.before) c.after c.others
        (omega (arith, c.own, same)))

    step-all : took_effect_or_answered_by ev Step (Moved a) ≡ false → suc (all pooled tasks (state_of q')) ≤ all pooled tasks (state_of q)
    unfolding state_of view
    step-all z =
        let w = or-false (is_effect ev a) (answer_ends a) z in
        let is = state_is q g.book g.inv g.links t s in
        let silent : Silent (view G) (seen_move G r) =
        (runs_on a w.1, ap (λ (x : M.State). effect (view G).anchor x.shared.anchor (answer_seen a)) (sym is) ∙ effect_is ev a ∙ w.0) in
        subst (λ (x : M.State). suc (all pooled tasks x) ≤ all pooled tasks (state_of q)) (sym is) (omega (arith, all_fall silent falls_or_draws))

  push_put : (side x y : ℕ) → Lies q t → r.place ≡ 0
      → Puts (Push side x y) (record { tables = with_taken G x y; task = with_call (task_at q t) (started 0 side x y); outcome = Moved (Running 1) })
  unfolding rec_of
  push_put side x y z free _ = omega (arith, start-all z free (with_taken G x y).labels (with_taken G x y).marks (started 0 side x y) (omega arith))

  pop_put : (side : ℕ) → Lies q t → r.place ≡ 0 → Puts (Pop side) (record {
    tables = G;
    task = with_call (task_at q t) (started 1 side 0 0);
    outcome = Moved (Running 1);
  })
  unfolding rec_of
  pop_put side z free _ = omega (arith, start-all z free G.labels G.marks (started 1 side 0 0) (omega arith))

  push_pooled_put : (side y : ℕ) → Lies q t → r.place ≡ 0 → Puts (PushPooled side y) (record {
    tables = G;
    task = with_call (task_at q t) (asking side y);
    outcome = Moved (Running 12);
  })
  unfolding rec_of
  push_pooled_put side y z free _ = omega (arith, start-all z free G.labels G.marks (asking side y) (omega arith))

  step-put : Stepping q t → Puts Step (finish G (task_at q t) (move G.control r (word_found G r)))
  unfolding finish
  step-put s z = omega (arith, step-all s z)

  pub act-all : (o : Op) → FallsUnlessTold o (act q t o)
  unfolding act act_on push_start push_pooled_start pop_start step
  act-all (Push side x y) = by_test (Puts (Push side x y)) (eqb (push_refusal G (among q t) r side x) 0)
      (λ e. let p = push_accepted q t side x (eqb-true _ _ e) in push_put side x y p.starting.lies p.starting.free)
      (λ e. refused (Push side x y) (push_refusal G (among q t) r side x))
  act-all (Pop side) = by_test (Puts (Pop side)) (eqb (pop_refusal G (among q t) r side) 0)
      (λ e. let p = pop_accepted q t side (eqb-true _ _ e) in pop_put side p.lies p.free)
      (λ e. refused (Pop side) (pop_refusal G (among q t) r side))
  act-all (PushPooled side y) = by_test (Puts (PushPooled side y)) (eqb (push_pooled_refusal G (among q t) r side) 0)
      (λ e. let p = (push_pooled_accepted q t side (eqb-true _ _ e)).0 in push_pooled_put side y p.lies p.free)
      (λ e. refused (PushPooled side y) (push_pooled_refusal G (among q t) r side))
  act-all Step = by_test (Puts Step) (eqb (step_refusal G (among q t) r) 0)
      (λ e. step-put (step-accepted q t (eqb-true _ _ e))) (λ e. refused Step (step_refusal G (among q t) r))

-- More than all tasks owe.
enough : (pooled : Bool) (tasks : ℕ) → 1 ≤ tasks → 19 * tasks + cond pooled (3 * pairs tasks) 0 < stretch_limit pooled tasks
enough true tasks some = omega arith
enough false tasks some = omega arith

module _ (pooled : Bool) (tasks : ℕ) where
  -- A list of operations that tells nothing has no more accepted steps than the tasks owe at its beginning.
  pub run-all : (os : List Request) (q : Queue) → Reached pooled tasks q → any took_effect_or_answered (run q os) ≡ false
      → steps (run q os) ≤ all pooled tasks (state_of q)
  unfolding run any steps
  run-all [] q z e = omega arith
  run-all (o ∷ os) q z e =
      let d = act q o.task o.op in
      let w = or-false _ (any took_effect_or_answered (run d.queue os)) e in
      let a : stepping o.op d.outcome + all pooled tasks (state_of d.queue) ≤ all pooled tasks (state_of q) =
      subst (λ n. stepping o.op d.outcome + all pooled n (state_of d.queue) ≤ all pooled n (state_of q)) z.roomy.tasks_are
      (act-all z.position q z.ledger z.matched pooled z.roomy.way o.task o.op w.0) in
      let b = run-all os d.queue (act_reached pooled tasks q o.task o.op z) w.1 in
      omega arith

  -- They owe 16 each at the most, in a pooled queue 19, and 3 for each pair. (In a named queue the longest stretch that occurs has 15 steps
  -- a task, less 10.)
  pub all-bound : (q : Queue) → all pooled tasks (state_of q) ≤ 19 * tasks + cond pooled (3 * pairs tasks) 0
  all-bound q =
      let s = state_of q in
      let one : (t : ℕ) → together s.shared (s.task t) ≤ 19 = λ t.
      let w = (owed-within 1 (scale s.shared) s.shared.pooled (omega arith) (scale_some s.shared) s.shared (s.task t)).1 in
      let m : cond s.shared.pooled 3 0 ≤ 3 = either (λ z. z ≤ 3) s.shared.pooled (omega arith) (omega arith) in
      omega (arith, scale_most s.shared) in
      let p = pairs-up (at_head tasks s.task) tasks (omega (arith, total_le (λ u. heads (s.task u).place) 1 tasks (λ t. heads_most (s.task t).place))) in
      let k : cond pooled (3 * pairs (at_head tasks s.task)) 0 ≤ cond pooled (3 * pairs tasks) 0 = keep pooled (omega arith) (omega arith) in
      omega (arith, total_le _ 19 tasks one)

  pub stretch_progresses : (q : Queue) → Reached pooled tasks q → (os : List Request) → stretch_limit pooled tasks ≤ steps (run q os)
      → any took_effect_or_answered (run q os) ≡ true
  stretch_progresses q z os le = split (any took_effect_or_answered (run q os)) (λ e. e)
      (λ e. absurd (omega (arith, le, run-all os q z e, all-bound q, enough pooled tasks z.roomy.some)))
