-- A task stepped until it answers is a list of its steps; from an opening on it is never refused 34.
use Rattle.std.specs.Prelude.{Err, Ok}
use mathlib.Core.{Bool.{Bool, ◌&&◌, ◌||◌, cond, false, true}, List.{List, [], ◌∷◌}, Logic.◌≢◌}
use mathlib.Core.Path.{◌≡◌, ◌∙◌, ap, refl, sym}
use Prim.Native.Nat.{suc, zero, ℕ}
use native.Mathlib.Omega.{arith}
use lib.{Dec.{eqb, leb}, ListN.get_or, Seq.get_or-set_same}
use borrow.Author.Tests.{eqb-true}
use Rattle.model.specs.{Calls.{Acted, act, act_on, back, entry_of, finish, opened, step}, Ends.{is_moved, is_running}}
use Rattle.model.specs.{History.{Event, final, run}, Lists.All, Places.{Move, move, word_found}, Route.route}
use Rattle.model.specs.{Refusals.{among, step_refusal}, Tables.{Queue, record_at, unused}}
use Rattle.model.specs.Route.{answer, empty, goes, leave, no_free_slot, onward, pop_route, popped, push_route, pushed}
use Rattle.model.specs.Solo.{RunNever34, RunsAreSteps, SoloDone, last_told, solo_run, solo_steps, steps_of}
use Rattle.model.specs.declared.Answer.{TheVariants.{Empty, NoFreeSlot, Popped, Pushed, Running}, Answer}
use Rattle.model.specs.Outcomes.{Moved, Outcome, Refused}
use Rattle.model.specs.declared.{Call.Call, Entry.Entry}
use Rattle.model.specs.declared.{Record.Record, Op.TheVariants.Step}
use Rattle.model.proofs.{Tests.Truth.{and-true, by_test, not_both, or_left}, Bridge.Accepted.step-accepted}
use Rattle.model.proofs.{Laws.Runs.run-refused, Progress.Reached.{final_reached, open_reached}}
use Rattle.model.proofs.{Unsound.Runs.act_safe, Openings.after-opening}

-- ---- a route leads to a place or to an answer, so a task that is told *running* stands at the place told
abbrev ends : ℕ → Bool
ends n = eqb n leave || (eqb n pushed || (eqb n empty || (eqb n popped || eqb n no_free_slot)))

abbrev leads : ℕ → Bool
leads n = leb n 17 || ends n

abbrev all_lead : List ℕ → Bool
all_lead [] = true
all_lead (n ∷ l) = leads n && all_lead l

abbrev rows_lead : List (List ℕ) → Bool
rows_lead [] = true
rows_lead (l ∷ ls) = all_lead l && rows_lead ls

one_leads : (l : List ℕ) → all_lead l ≡ true → (i : ℕ) → leads (get_or l i 0) ≡ true
one_leads [] h i = refl
one_leads (n ∷ l) h zero = (and-true (leads n) (all_lead l) h).0
one_leads (n ∷ l) h (suc i) = one_leads l (and-true (leads n) (all_lead l) h).1 i

row_leads : (ls : List (List ℕ)) → rows_lead ls ≡ true → (i : ℕ) → all_lead (get_or ls i []) ≡ true
row_leads [] h i = refl
row_leads (l ∷ ls) h zero = (and-true (all_lead l) (rows_lead ls) h).0
row_leads (l ∷ ls) h (suc i) = row_leads ls (and-true (all_lead l) (rows_lead ls) h).1 i

route_leads : (place kind branch : ℕ) → leads (route place kind branch) ≡ true
unfolding route push_route pop_route
route_leads place kind branch =
    by_test (λ (ls : List (List ℕ)). leads (get_or (get_or ls place []) branch 0) ≡ true) (eqb kind 0)
    (λ _. one_leads (get_or push_route place []) (row_leads push_route refl place) branch)
    (λ _. one_leads (get_or pop_route place []) (row_leads pop_route refl place) branch)

abbrev Onward : ℕ → Type 0
Onward n = (leads n ≡ true) × (eqb n leave ≡ false)

onward_leads : (n finishing : ℕ) → leads n ≡ true → Onward (onward n finishing)
unfolding onward
onward_leads n finishing h =
    by_test Onward (eqb n leave) (λ _. by_test Onward (eqb finishing 1) (λ _. (refl, refl)) (λ _. (refl, refl))) (λ e. (h, e))

runs_to : (n : ℕ) (e : Entry) (p : ℕ) → Onward n → answer n e ≡ Running p → (n ≡ p) × (leb n 17 ≡ true)
unfolding answer
runs_to n e p h =
    by_test Goal (eqb n pushed) (λ _ x. no_run refl x)
    (λ a. by_test Goal (eqb n empty) (λ _ x. no_run refl x)
    (λ b. by_test Goal (eqb n popped) (λ _ x. no_run refl x)
    (λ c. by_test Goal (eqb n no_free_slot) (λ _ x. no_run refl x)
    (λ d x. (cc, or_left (leb n 17) (ends n) h.0 (rw (h.1, a, b, c, d)))))))
  where
    Goal : Answer → Type 0
    Goal a = a ≡ Running p → (n ≡ p) × (leb n 17 ≡ true)

    no_run : {a : Answer} → is_running (Moved a) ≡ false → Goal a
    no_run f x = absurd (not_both (ap (λ (b : Answer). is_running (Moved b)) x) f)

goes_to : (r : Call) (n p : ℕ) → (n ≡ p) × (leb n 17 ≡ true) → (goes r n).place ≡ p
unfolding goes
goes_to r n p h = rw h.1 h.0

leads_on : (r : Call) (branch finishing : ℕ) → Onward (onward (route r.place r.kind branch) finishing)
leads_on r branch finishing = onward_leads (route r.place r.kind branch) finishing (route_leads r.place r.kind branch)

moved_same : {a b : Answer} → Moved a ≡ Moved b → a ≡ b
moved_same e = cc

module _ (q : Queue) (t : ℕ) where
  abbrev r : Call
  r = record_at q t

  abbrev m : Move
  m = move q.tables.control r (word_found q.tables r)

  abbrev next : ℕ
  next = onward (route r.place r.kind m.branch) m.task.finishing

  stands_at : (p : ℕ) → (act q t Step).outcome ≡ Moved (Running p) → (record_at (act q t Step).queue t).place ≡ p
  unfolding act act_on step finish
  stands_at p =
      by_test (λ (a : Acted). a.outcome ≡ Moved (Running p) → (record_at (back q t a).queue t).place ≡ p)
      (eqb (step_refusal q.tables (among q t) r) 0)
      (λ z e.
      let s = (step-accepted q t (eqb-true _ _ z)).lies in
      ap (λ (x : Record). x.call.place) (get_or-set_same q.records t _ unused (omega (arith, s.length, s.known)))
      ∙ goes_to m.task next p (runs_to next (entry_of q.tables r) p (leads_on r m.branch m.task.finishing) (moved_same e)))
      (λ _ e. absurd (let w : ◌≡◌ {A = ℕ} 0 1 = cc in omega arith))

  -- What a step that answers running tells.
  pub tells-place : is_running (act q t Step).outcome ≡ true
      → (act q t Step).outcome ≡ Moved (Running (record_at (act q t Step).queue t).place)
  tells-place = go (act q t Step).outcome refl
    where
      go : (o : Outcome) → (act q t Step).outcome ≡ o → is_running o ≡ true
          → (act q t Step).outcome ≡ Moved (Running (record_at (act q t Step).queue t).place)
      go (Err why) e h = absurd (not_both h refl)
      go (Ok (Running p)) e h = e ∙ ap (λ (v : ℕ). Moved (Running v)) (sym (stands_at p e))
      go (Ok Pushed) e h = absurd (not_both h refl)
      go (Ok Empty) e h = absurd (not_both h refl)
      go (Ok (Popped x)) e h = absurd (not_both h refl)
      go (Ok NoFreeSlot) e h = absurd (not_both h refl)

-- ---- the steps that a run made, where o is told if it made none
abbrev Accepted : Event → Type 0
Accepted e = is_moved e.outcome ≡ true

record Made (o : Outcome) (q : Queue) (t : ℕ) (d : SoloDone) : Type 0 where
  queue : d.queue ≡ final q (steps_of t d.steps)
  accepted : All Accepted (run q (steps_of t d.steps))
  told : d.outcome ≡ last_told o (run q (steps_of t d.steps))

runs_moved : (o : Outcome) → is_running o ≡ true → is_moved o ≡ true
runs_moved (Err why) h = h
runs_moved (Ok a) h = refl

made : (n : ℕ) (q : Queue) (t : ℕ) → Made (Moved (Running (record_at q t).place)) q t (solo_steps n q t)
unfolding solo_steps run final last_told
made zero q t = record { queue = refl; accepted = tt; told = refl }
made (suc n) q t =
    let d = act q t Step in
    let o = Moved (Running (record_at q t).place) in
    by_test (Made o q t) (is_running d.outcome)
    (λ e.
    let h = made n d.queue t in
    record {
      queue = h.queue;
      accepted = (runs_moved d.outcome e, h.accepted);
      told = h.told ∙ ap (λ (x : Outcome). last_told x (run d.queue (steps_of t (solo_steps n d.queue t).steps))) (sym (tells-place q t e));
    })
    (λ _. by_test (Made o q t) (is_moved d.outcome)
    (λ e. record { queue = refl; accepted = (e, tt); told = refl })
    (λ _. record { queue = refl; accepted = tt; told = refl }))

pub runs_are_steps : RunsAreSteps
unfolding solo_run solo_steps run final last_told
runs_are_steps n q t = let m = go (is_moved (act q t Step).outcome) in record { queue = m.queue; accepted = m.accepted; told = m.told }
  where
    none : SoloDone
    none = record { queue = q; outcome = (act q t Step).outcome; steps = 0 }

    go : (b : Bool) → Made (cond b (solo_steps 0 q t) none).outcome q t (cond b (solo_steps n q t) none)
    go true = made n q t
    go false = record { queue = refl; accepted = tt; told = refl }

pub run_never_34 : RunNever34
run_never_34 pooled = after-opening pooled (λ q os. (n t : ℕ) → (solo_run n (final q os) t).outcome ≢ Refused 34) (λ q tasks slots tag e os n t refused.
    let now = final (opened pooled q tasks slots tag) os in
    let z = final_reached pooled tasks os (opened pooled q tasks slots tag) (open_reached pooled tasks q slots tag e) in
    (act_safe z.position now z.ledger z.matched z.safe t Step).0 (run-refused n now t 34 refused).0)
