-- What goes on in queue i across whatever ends no stretch of it: it is made, its sizes stay, and a busy task stays busy until one answers.
use mathlib.Core.{Bool.{Bool, ◌&&◌, cond, false, not, true}, List.{List, [], ◌∷◌}, Logic.{◌⊎◌, inl, inr}}
use mathlib.Core.Path.{◌≡◌, ◌∙◌, ap, refl, subst, sym}
use Prim.Native.Nat.{ℕ}
use native.Mathlib.Omega.{arith}
use lib.Dec.{eqb}
use borrow.Author.Tests.{eq-eqb, eqb-true, not-false, not-true}
use Rattle.model.specs.{Calls.act, Refusals.open_refusal, Report.busy, Tables.Queue, History.{Event, run}}
use Rattle.model.specs.Progress.{Busy, any, stepping, steps, took_effect_or_answered}
use Rattle.model.proofs.{Laws.Sizes.{act_sizes, sizes}, Tests.Rules.{cleared, tests}}
use Rattle.model.proofs.Tests.Truth.{and-true, by_test, either, not_both, or-false, or_second, split}
use Rattle.join_model.specs.Join.{any_late, at_rest, fresh, fresh_tests, join, join_refusal, join_rules, lanes, outcomes}
use Rattle.join_model.{specs.Join.pushes, proofs.Fresh.none_pass}
use Rattle.shelf_model.specs.Changeovers.{Action, Past, Station, Turn, World, asks, breaks, does, event_of, opens}
use Rattle.shelf_model.specs.{Changeovers.{returns, saves, station, turned, with_event}, Shelves.return_refusal}
use Rattle.shelf_model.specs.Joinings.{Deed, after_one, joined_in, joins, replaces, turns, with_deed}
use Rattle.shelf_model.proofs.{Busy.{act-busy, steps-busy}, Pasts.final_sizes}
use Rattle.shelf_model.proofs.Stretches.{open_refused, return_refused, turn}

abbrev SameSizes : Queue → Queue → Type 0
SameSizes p q = sizes p.tables ≡ sizes q.tables

abbrev pub progressed : List Event → Bool
progressed es = any took_effect_or_answered es

-- ---- an action of queue i
module _ (w : World) (i : ℕ) where
  abbrev q : Queue
  q = w.queues i

  abbrev GoesOn : Action → Type 0
  GoesOn a = not (breaks (station w i) a) ≡ true

  own_sizes : (a : Action) → GoesOn a → SameSizes (does (station w i) a).queue q
  unfolding does
  own_sizes (opens pooled tasks slots tag) u = ap (λ (x : Queue). sizes x.tables) (open_refused q pooled tasks slots tag (not-true _ u))
  own_sizes (asks o) u = act_sizes q o.task o.op
  own_sizes (saves n) u = refl
  own_sizes (returns n) u = ap (λ (x : Queue). sizes x.tables) (return_refused q w.shelves n (not-true _ u))

  own_made : (a : Action) → GoesOn a → (does (station w i) a).past.made ≡ (w.pasts i).made
  unfolding does
  own_made (opens pooled tasks slots tag) u = rw (not-true (eqb (open_refusal pooled q tasks slots) 0) u)
  own_made (asks o) u = refl
  own_made (saves n) u = refl
  own_made (returns n) u = rw (not-true (eqb (return_refusal q w.shelves n) 0) u)

  module _ (t : ℕ) (b : Busy q t) (es : List Event) where
    own_busy : (a : Action) → GoesOn a → progressed (with_event q a es) ≡ false → Busy (does (station w i) a).queue t
    unfolding does any
    own_busy (opens pooled tasks slots tag) u f =
        subst (λ (x : Queue). Busy x t) (sym (open_refused q pooled tasks slots tag (not-true _ u))) b
    own_busy (asks o) u f = act-busy q o t b (or-false (took_effect_or_answered (event_of q o)) (progressed es) f).0
    own_busy (saves n) u f = b
    own_busy (returns n) u f = subst (λ (x : Queue). Busy x t) (sym (return_refused q w.shelves n (not-true _ u))) b

-- ---- a turn of any queue
module _ (w : World) (i : ℕ) (t : Turn) (u : not (eqb i t.queue && breaks (station w i) t.action) ≡ true) where
  abbrev s : Station
  s = does (station w i) t.action

  by_turn : (P : Queue → Past → Type 0) → (eqb i t.queue ≡ true → GoesOn w i t.action → P s.queue s.past) → P (w.queues i) (w.pasts i)
      → P ((turned w t).queues i) ((turned w t).pasts i)
  unfolding turned
  by_turn P own other =
      split (eqb i t.queue)
      (λ e.
      let h = own e (subst (λ (b : Bool). not (b && breaks (station w i) t.action) ≡ true) e u) in
      let here : P ((turned w (turn i t.action)).queues i) ((turned w (turn i t.action)).pasts i) = rw (eq-eqb i i refl) h in
      subst (λ (j : ℕ). P ((turned w (turn j t.action)).queues i) ((turned w (turn j t.action)).pasts i)) (eqb-true _ _ e) here)
      (λ e. rw e other)

  turn_sizes : SameSizes ((turned w t).queues i) (w.queues i)
  turn_sizes = by_turn (λ x p. SameSizes x (w.queues i)) (λ _ h. own_sizes w i t.action h) refl

  turn_made : ((turned w t).pasts i).made ≡ (w.pasts i).made
  turn_made = by_turn (λ x p. p.made ≡ (w.pasts i).made) (λ _ h. own_made w i t.action h) refl

  pub turn_busy : (n : ℕ) (es : List Event) → Busy (w.queues i) n → progressed (with_deed i w (turns t) es) ≡ false → Busy ((turned w t).queues i) n
  turn_busy n es b f =
      by_turn (λ x p. Busy x n)
      (λ e h. own_busy w i n b es t.action h (subst (λ (c : Bool). progressed (cond c (with_event (w.queues i) t.action es) es) ≡ false) e f)) b

-- ---- a joining: its third is idle where it is accepted
pub filled-idle : (a b q : Queue) → eqb (join_refusal a b q) 0 ≡ true → (t : ℕ) → Busy q t → ⊥
unfolding join_refusal fresh at_rest busy
filled-idle a b q e t h =
    let z = cleared (join_rules a b q (any_late (outcomes (run q (pushes 1 (lanes a b)))))) refl (eqb-true _ _ e) in
    let f = (tests (at_rest a ∷ at_rest b ∷ fresh q ∷ []) (not-false _ z.1.1.1.1.1.1.0)).1.1.0 in
    let rest = and-true _ _ (tests (fresh_tests q) f).1.1.0 in
    h.place (eqb-true _ _ (not-false _ (none_pass _ q.tables.control.tasks (eqb-true _ _ rest.0) t h.known)))

module _ (w : World) (i j k third : ℕ) where
  join_sizes : SameSizes ((joined_in w j k third).queues i) (w.queues i)
  unfolding joined_in join
  join_sizes =
      by_test (λ (x : Queue). SameSizes x (w.queues i)) (eqb i third)
      (λ e. either (λ (x : Queue). SameSizes x (w.queues i)) (eqb (join_refusal (w.queues j) (w.queues k) (w.queues third)) 0)
      (final_sizes (pushes 1 (lanes (w.queues j) (w.queues k))) (w.queues third) ∙ same e) (same e))
      (λ _. refl)
    where
      same : eqb i third ≡ true → SameSizes (w.queues third) (w.queues i)
      same e = ap (λ (n : ℕ). sizes (w.queues n).tables) (sym (eqb-true _ _ e))

  join-made : ((joined_in w j k third).pasts i).made ≡ (w.pasts i).made
  unfolding joined_in
  join-made = either (λ (p : Past). p.made ≡ (w.pasts i).made)
      (eqb i third && eqb (join_refusal (w.queues j) (w.queues k) (w.queues third)) 0) refl refl

-- ---- a turn or a joining
module _ (w : World) (i : ℕ) where
  pub deed_sizes : (d : Deed) → not (replaces i w d) ≡ true → SameSizes ((after_one w d).queues i) (w.queues i)
  deed_sizes (turns t) u = turn_sizes w i t u
  deed_sizes (joins j k third) u = join_sizes w i j k third

  pub deed_made : (d : Deed) → not (replaces i w d) ≡ true → ((after_one w d).pasts i).made ≡ (w.pasts i).made
  deed_made (turns t) u = turn_made w i t u
  deed_made (joins j k third) u = join-made w i j k third

  -- Events before others hide nothing.
  pub deed_more : (d : Deed) (es : List Event) → progressed es ≡ true → progressed (with_deed i w d es) ≡ true
  unfolding any
  deed_more (joins j k third) es h = h
  deed_more (turns t) es h = either (λ (l : List Event). progressed l ≡ true) (eqb i t.queue) (go t.action) h
    where
      go : (a : Action) → progressed (with_event (w.queues i) a es) ≡ true
      go (opens pooled tasks slots tag) = h
      go (asks o) = or_second (took_effect_or_answered (event_of (w.queues i) o)) h
      go (saves n) = h
      go (returns n) = h

  pub deed_less : (d : Deed) (es : List Event) → progressed (with_deed i w d es) ≡ false → progressed es ≡ false
  deed_less d es f = split (progressed es) (λ e. absurd (not_both (deed_more d es e) f)) (λ e. e)

  -- No accepted step is among what it shows, or a task is busy before.
  abbrev pub Stepless : Deed → Type 0
  Stepless d = (es : List Event) → steps (with_deed i w d es) ≡ steps es

  abbrev pub SomeBusy : Type 0
  SomeBusy = (t : ℕ) × Busy (w.queues i) t

  pub deed_steps : (d : Deed) → SomeBusy ⊎ Stepless d
  unfolding steps
  deed_steps (joins j k third) = inr (λ es. refl)
  deed_steps (turns t) = go t.action (λ f es. either (λ (l : List Event). steps l ≡ steps es) (eqb i t.queue) (f es) refl)
    where
      go : (a : Action) → (((es : List Event) → steps (with_event (w.queues i) a es) ≡ steps es) → Stepless (turns t))
          → SomeBusy ⊎ Stepless (turns t)
      go (opens pooled tasks slots tag) h = inr (h (λ es. refl))
      go (saves n) h = inr (h (λ es. refl))
      go (returns n) h = inr (h (λ es. refl))
      go (asks o) h = asked (steps-busy (w.queues i) o.task o.op)
        where
          asked : Busy (w.queues i) o.task ⊎ (stepping o.op (act (w.queues i) o.task o.op).outcome ≡ 0) → SomeBusy ⊎ Stepless (turns t)
          asked (inl b) = inl (o.task, b)
          asked (inr z) = inr (h (λ es. rw z (omega arith)))
