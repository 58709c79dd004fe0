-- Tasks stepped alone, and stretches of starts and steps: the queue cut to its lengths does as the queue, and savings change nothing.
use mathlib.Core.{Bool.{Bool, true, false, cond, not}, List.{List, [], ◌∷◌}, Path.{◌≡◌, ◌∙◌, ap, refl, subst, sym}}
use Prim.Native.Nat.{ℕ, zero, suc, ◌<◌}
use lib.Dec.{eqb}
use borrow.Author.Tests.{eq-eqb, eqb-true, not-true}
use Rattle.model.specs.Outcomes.{Moved}
use Rattle.model.specs.declared.{Answer.TheVariants.Running, Op.TheVariants.Step}
use Rattle.model.specs.{declared.Record.Record, Tables.{Queue, task_at, unused}, Refusals.open_refusal}
use Rattle.model.specs.{Progress.AnsweredWithin, Calls.{Done, act, open_as}, Ends.{is_moved, is_running}}
use Rattle.model.specs.{History.{Event, Request, run}, Solo.{SoloDone, last_step, one_more, resting, solo_run, solo_steps}}
use Rattle.model.proofs.{Tests.Truth.{and-true, split}, Laws.Sizes.act-tasks}
use Rattle.shelf_model.specs.{Cut.cut, Shelves.{Shelves, return_refusal, returned}}
use Rattle.shelf_model.specs.Changeovers.{Action, Turn, World, asks, breaks, does, opens, returns, saves, event_of}
use Rattle.shelf_model.specs.Changeovers.{events_of, station, turned, unbroken}
use Rattle.shelf_model.proofs.{Lists.get_take, CutCalls.{act-cut, cut_done}}

pub task-cut : (q : Queue) (t : ℕ) → t < q.tables.control.tasks → task_at (cut q) t ≡ task_at q t
task-cut q t h = get_take q.tables.control.tasks q.records t unused h

-- A task stepped until it answers.
abbrev cut_solo : SoloDone → SoloDone
cut_solo d = record { queue = cut d.queue; outcome = d.outcome; steps = d.steps }

either : (b : Bool) (d e : SoloDone) → cond b (cut_solo d) (cut_solo e) ≡ cut_solo (cond b d e)
either true d e = refl
either false d e = refl

rests_cut : (q : Queue) (t : ℕ) → t < q.tables.control.tasks → resting (cut q) t ≡ cut_solo (resting q t)
rests_cut q t h =
    ap (λ (r : Record). record { queue = cut q; outcome = Moved (Running r.call.place); steps = 0 }) (task-cut q t h)

-- What a step d comes to, where `more` comes after it and `none` in place of it.
abbrev once_more : SoloDone → SoloDone → Done → SoloDone
once_more more none d = cond (is_running d.outcome) (one_more more) (cond (is_moved d.outcome) (last_step d) none)

steps-cut : (n : ℕ) (q : Queue) (t : ℕ) → t < q.tables.control.tasks → solo_steps n (cut q) t ≡ cut_solo (solo_steps n q t)
unfolding solo_steps
steps-cut zero q t h = rests_cut q t h
steps-cut (suc n) q t h =
    let d = act q t Step in
    let known = subst (λ k. t < k) (sym (act-tasks q t Step)) h in
    ap (λ (e : Done). once_more (solo_steps n e.queue t) (resting (cut q) t) e) (act-cut q t Step)
    ∙ ap (λ (s : SoloDone). once_more s (resting (cut q) t) (cut_done d)) (steps-cut n d.queue t known)
    ∙ ap (λ (s : SoloDone). once_more (cut_solo (solo_steps n d.queue t)) s (cut_done d)) (rests_cut q t h)
    ∙ ap (λ (s : SoloDone). cond (is_running d.outcome) (cut_solo (one_more (solo_steps n d.queue t))) s)
    (either (is_moved d.outcome) (last_step d) (resting q t))
    ∙ either (is_running d.outcome) (one_more (solo_steps n d.queue t)) (cond (is_moved d.outcome) (last_step d) (resting q t))

solo-cut : (n : ℕ) (q : Queue) (t : ℕ) → t < q.tables.control.tasks → solo_run n (cut q) t ≡ cut_solo (solo_run n q t)
unfolding solo_run
solo-cut n q t h =
    let d = act q t Step in
    ap (λ (e : Done). cond (is_moved e.outcome) (solo_steps n (cut q) t) (record { queue = cut q; outcome = e.outcome; steps = 0 })) (act-cut q t Step)
    ∙ ap (λ (s : SoloDone). cond (is_moved d.outcome) s (record { queue = cut q; outcome = d.outcome; steps = 0 })) (steps-cut n q t h)
    ∙ either (is_moved d.outcome) (solo_steps n q t) (record { queue = q; outcome = d.outcome; steps = 0 })

pub solo_alike : (n most : ℕ) (q p : Queue) (t : ℕ) → t < q.tables.control.tasks → t < p.tables.control.tasks → cut q ≡ cut p
    → AnsweredWithin most (solo_run n p t) → AnsweredWithin most (solo_run n q t)
solo_alike n most q p t h g e a =
    let same : cut_solo (solo_run n p t) ≡ cut_solo (solo_run n q t) =
    sym (solo-cut n p t g) ∙ ap (λ (x : Queue). solo_run n x t) (sym e) ∙ solo-cut n q t h in
    let z = subst (AnsweredWithin most) same (record { answered = a.answered; within = a.within }) in
    record { answered = z.answered; within = z.within }

-- The starts and steps of queue i in a stretch.
abbrev asking : Action → List Request → List Request
asking (opens pooled tasks slots tag) os = os
asking (asks o) os = o ∷ os
asking (saves n) os = os
asking (returns n) os = os

unfoldable pub requests_to : ℕ → List Turn → List Request
requests_to i [] = []
requests_to i (t ∷ l) = cond (eqb i t.queue) (asking t.action (requests_to i l)) (requests_to i l)

-- An opening or a return that is refused leaves the queue.
pub open_refused : (q : Queue) (pooled : Bool) (tasks slots tag : ℕ) → eqb (open_refusal pooled q tasks slots) 0 ≡ false
    → (open_as pooled q tasks slots tag).queue ≡ q
unfolding open_as
open_refused q pooled tasks slots tag e = rw e

pub return_refused : (q : Queue) (s : Shelves) (n : ℕ) → eqb (return_refusal q s n) 0 ≡ false → returned q s n ≡ q
unfolding returned
return_refused q s n e = rw e

-- A turn of queue i, and one of another.
abbrev pub turn : ℕ → Action → Turn
turn i a = record { queue = i; action = a }

turned_own : (w : World) (i : ℕ) (a : Action) → (turned w (turn i a)).queues i ≡ (does (station w i) a).queue
unfolding turned
turned_own w i a = rw (eq-eqb i i refl)

turned_other : (w : World) (i : ℕ) (t : Turn) → eqb i t.queue ≡ false → (turned w t).queues i ≡ w.queues i
unfolding turned
turned_other w i t e = rw e

-- They show what they show one after the other.
abbrev EventsAre : ℕ → List Turn → World → Type 0
EventsAre i l w = unbroken i w l ≡ true → events_of i w l ≡ run (w.queues i) (requests_to i l)

module _ (i : ℕ) (l : List Turn) (w : World) (ih : (v : World) → EventsAre i l v) where
  -- A queue that an action leaves as it was, or moves on.
  on : (a : Action) (q : Queue) → (does (station w i) a).queue ≡ q → unbroken i (turned w (turn i a)) l ≡ true
      → events_of i (turned w (turn i a)) l ≡ run q (requests_to i l)
  on a q e u = ih (turned w (turn i a)) u ∙ ap (λ (q : Queue). run q (requests_to i l)) (turned_own w i a ∙ e)

  whole : (a : Action) → unbroken i w (turn i a ∷ l) ≡ true → (not (breaks (station w i) a) ≡ true) × (unbroken i (turned w (turn i a)) l ≡ true)
  unfolding unbroken
  whole a u = and-true (not (breaks (station w i) a)) (unbroken i (turned w (turn i a)) l) (rw (eq-eqb i i refl) at u)

  own : (a : Action) → EventsAre i (turn i a ∷ l) w
  unfolding events_of requests_to run does
  own (opens pooled tasks slots tag) u =
      let z = whole (opens pooled tasks slots tag) u in
      rw (eq-eqb i i refl) (on (opens pooled tasks slots tag) (w.queues i) (open_refused (w.queues i) pooled tasks slots tag (not-true _ z.0)) z.1)
  own (asks o) u = rw (eq-eqb i i refl)
      (ap (λ (es : List Event). event_of (w.queues i) o ∷ es) (on (asks o) (act (w.queues i) o.task o.op).queue refl (whole (asks o) u).1))
  own (saves n) u = rw (eq-eqb i i refl) (on (saves n) (w.queues i) refl (whole (saves n) u).1)
  own (returns n) u =
      let z = whole (returns n) u in
      rw (eq-eqb i i refl) (on (returns n) (w.queues i) (return_refused (w.queues i) w.shelves n (not-true _ z.0)) z.1)

  others : (t : Turn) → eqb i t.queue ≡ false → EventsAre i (t ∷ l) w
  unfolding events_of requests_to unbroken
  others t e u = rw e (ih (turned w t) (rw e at u) ∙ ap (λ (q : Queue). run q (requests_to i l)) (turned_other w i t e))

pub events_are : (i : ℕ) (l : List Turn) (w : World) → EventsAre i l w
unfolding events_of requests_to run
events_are i [] w = λ u. refl
events_are i (t ∷ l) w = split (eqb i t.queue)
    (λ e. subst (λ j. EventsAre i (turn j t.action ∷ l) w) (eqb-true _ _ e) (own i l w (events_are i l) t.action))
    (λ e. others i l w (events_are i l) t e)
