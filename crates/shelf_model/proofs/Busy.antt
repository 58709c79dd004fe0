-- A call stays open until one of its steps answers: so a queue that is idle has answered the calls that it was stepped for.
use Rattle.std.specs.Prelude.{Err, Ok}
use mathlib.Core.{Bool.{false, not, true}, Logic.{◌≢◌, ◌⊎◌, inl, inr}, Path.{◌≡◌, ◌∙◌, ap, refl, subst, sym}}
use Prim.Native.Nat.{ℕ, ◌<◌}
use native.Mathlib.Omega.{arith}
use lib.{Dec.eqb, Seq.set-get_or}
use borrow.Author.Tests.{eqb-false, eqb-true, not-false}
use Rattle.model.specs.declared.{Answer.{Answer, TheVariants.Running}, Call.Call, Entry.Entry, Record.Record}
use Rattle.model.specs.{declared.Op.{Op, TheVariants.{Pop, Push, PushPooled, Step}}, Ends.{answer_ends, is_running}}
use Rattle.model.specs.Outcomes.{Moved, Outcome, Refused}
use Rattle.model.specs.History.{Event, Request, is_effect}
use Rattle.model.specs.Calls.{Acted, act, act_on, back, entry_of, finish, pop_start, push_start, push_pooled_start, step}
use Rattle.model.specs.{Places.{Move, move, word_found}, Tables.{Queue, is_pooled, record_at, task_at, unused}}
use Rattle.model.specs.Progress.{Busy, stepping, took_effect_or_answered, took_effect_or_answered_by}
use Rattle.model.specs.Refusals.{among, pop_refusal, push_refusal, push_pooled_refusal, step_refusal, step_rules}
use Rattle.model.specs.Route.{answer, empty, no_free_slot, onward, popped, pushed, route}
use Rattle.model.proofs.Bridge.Accepted.{pop_accepted, push_accepted, push_pooled_accepted, step-accepted}
use Rattle.model.proofs.Laws.{OneTouch.act-others, Onward.leads_on, Refusals.act-refused, Sizes.act-tasks}
use Rattle.model.proofs.{Tests.{Rules.cleared, Truth.{by_test, decide_eq, not_both, or-false}}, RunSteps.tells-place}
use Rattle.shelf_model.specs.Changeovers.{event_of}

-- ---- a step that answers *running* leads to a place other than 0
told-next : (n : ℕ) (e : Entry) (p : ℕ) → answer n e ≡ Running p → n ≡ p
unfolding answer
told-next n e p =
    by_test Goal (eqb n pushed) (λ _. no_run refl) (λ _. by_test Goal (eqb n empty) (λ _. no_run refl)
    (λ _. by_test Goal (eqb n popped) (λ _. no_run refl) (λ _. by_test Goal (eqb n no_free_slot) (λ _. no_run refl) (λ _ x. cc))))
  where
    Goal : Answer → Type 0
    Goal a = a ≡ Running p → n ≡ p

    no_run : {a : Answer} → answer_ends a ≡ true → Goal a
    no_run f x = absurd (not_both f (ap answer_ends x))

moved_same : {a b : Answer} → Moved a ≡ Moved b → a ≡ b
moved_same e = cc

module _ (q : Queue) (t : ℕ) where
  abbrev r : Call
  r = record_at q t

  abbrev m : Move
  m = move q.tables.control r (word_found q.tables r)

  abbrev next : ℕ
  next = onward (route r.place r.kind m.branch) m.task.finishing

  next_place : step_refusal q.tables (among q t) r ≡ 0 → next ≢ 0
  unfolding step_refusal
  next_place e =
      let z = cleared (step_rules q.tables (among q t) r) refl e in
      eqb-false next 0
      (leads_on (is_pooled q.tables.control) q.tables.control.slots q.tables.control r (word_found q.tables r)
      (not-false _ z.1.1.1.0) z.1.1.1.1.0)

  running_place : (p : ℕ) → (act q t Step).outcome ≡ Moved (Running p) → p ≢ 0
  unfolding act act_on step finish
  running_place p =
      by_test (λ (a : Acted). a.outcome ≡ Moved (Running p) → p ≢ 0) (eqb (step_refusal q.tables (among q t) r) 0)
      (λ z e f. next_place (eqb-true _ _ z) (told-next next (entry_of q.tables r) p (moved_same e) ∙ f))
      (λ _ e. absurd (let w : ◌≡◌ {A = ℕ} 0 1 = cc in omega arith))

  -- An accepted step is a busy task's.
  pub steps-busy : (o : Op) → Busy q t ⊎ (stepping o (act q t o).outcome ≡ 0)
  unfolding act act_on step finish
  steps-busy (Push side slot label) = inr refl
  steps-busy (Pop side) = inr refl
  steps-busy (PushPooled side label) = inr refl
  steps-busy Step =
      by_test (λ (a : Acted). Busy q t ⊎ (stepping Step a.outcome ≡ 0)) (eqb (step_refusal q.tables (among q t) r) 0)
      (λ z. let s = step-accepted q t (eqb-true _ _ z) in inl (record { known = s.lies.known; place = s.busy }))
      (λ _. inr refl)

  -- A start is refused where the task is busy.
  module _ (b : Busy q t) where
    abbrev StaysBusy : Acted → Type 0
    StaysBusy a = Busy (back q t a).queue t

    stays : StaysBusy (record { tables = q.tables; task = task_at q t; outcome = Refused 30 })
    stays = subst (λ (x : Queue). Busy x t) (λ i. record { tables = q.tables; records = sym (set-get_or q.records t unused) i }) b

    step-busy : (e : Event) → took_effect_or_answered_by e Step (act q t Step).outcome ≡ false → Busy (act q t Step).queue t
    step-busy e = go (act q t Step).outcome refl
      where
        left : is_running (act q t Step).outcome ≡ true → Busy (act q t Step).queue t
        left h = record {
          known = subst (λ n. t < n) (sym (act-tasks q t Step)) b.known;
          place = running_place _ (tells-place q t h);
        }

        go : (o : Outcome) → (act q t Step).outcome ≡ o → took_effect_or_answered_by e Step o ≡ false → Busy (act q t Step).queue t
        go (Err refusal) z f = subst (λ (x : Queue). Busy x t) (sym (act-refused q t Step refusal.number z)) b
        go (Ok a) z f = left (ap is_running z ∙ ap not (or-false (is_effect e a) (answer_ends a) f).1)

    own_busy : (o : Op) → took_effect_or_answered (event_of q (record { task = t; op = o })) ≡ false → Busy (act q t o).queue t
    unfolding act act_on push_start pop_start push_pooled_start
    own_busy (Push side slot label) f =
        by_test StaysBusy (eqb (push_refusal q.tables (among q t) r side slot) 0)
        (λ z. absurd (b.place (push_accepted q t side slot (eqb-true _ _ z)).starting.free)) (λ _. stays)
    own_busy (Pop side) f =
        by_test StaysBusy (eqb (pop_refusal q.tables (among q t) r side) 0)
        (λ z. absurd (b.place (pop_accepted q t side (eqb-true _ _ z)).free)) (λ _. stays)
    own_busy (PushPooled side label) f =
        by_test StaysBusy (eqb (push_pooled_refusal q.tables (among q t) r side) 0)
        (λ z. absurd (b.place (push_pooled_accepted q t side (eqb-true _ _ z)).0.free)) (λ _. stays)
    own_busy Step f = step-busy (event_of q (record { task = t; op = Step })) f

-- A busy task stays busy while no step takes effect or answers.
pub act-busy : (q : Queue) (o : Request) (u : ℕ) → Busy q u → took_effect_or_answered (event_of q o) ≡ false → Busy (act q o.task o.op).queue u
act-busy q o u b f = go (decide_eq u o.task)
  where
    go : (u ≡ o.task) ⊎ (u ≢ o.task) → Busy (act q o.task o.op).queue u
    go (inl e) = subst (λ (t : ℕ). Busy (act q o.task o.op).queue t) (sym e)
        (own_busy q o.task (subst (Busy q) e b) o.op f)
    go (inr e) = record {
      known = subst (λ n. u < n) (sym (act-tasks q o.task o.op)) b.known;
      place = subst (λ (x : Record). x.call.place ≢ 0) (sym (act-others q o.task u o.op e)) b.place;
    }
