-- A run of steps, one step after another: with k steps made of n, what is left leads where the whole run leads.
use Rattle.std.specs.Prelude.{Err, Ok}
use mathlib.Core.{Path.{◌≡◌, refl, sym, ap, ◌∙◌}, Bool.{true, false, cond}, List.List}
use Prim.Native.Nat.{ℕ, zero, suc, ◌+◌, ◌-◌, ◌<◌, ◌≤◌}
use native.Mathlib.Omega.{arith}
use lib.{Dec.eqb, ListN.set}
use borrow.Author.Tests.{eq-eqb, ne_eqb}
use Rattle.model.specs.declared.{Answer.TheVariants.{Running, Pushed, Empty, Popped, NoFreeSlot}, Op.TheVariants.Step}
use Rattle.model.specs.Outcomes.{Moved, Outcome}
use Rattle.model.specs.Tables.{Queue, record_at}
use Rattle.model.specs.{Calls.{Done, act}, Ends.{is_moved, is_running, ends_call}}
use Rattle.model.specs.Solo.{SoloDone, last_step, one_more, resting, solo_run, solo_steps}
use Rattle.model.proofs.{Tests.Truth.not_both, Laws.Refusals.act-refused}
use Rattle.capi_run.specs.{declared.RunReply.RunReply, Replies.{run_reply_of, Ran, ran}}

-- After k steps.
abbrev further : ℕ → SoloDone → SoloDone
further k d = record { queue = d.queue; outcome = d.outcome; steps = k + d.steps }

-- Another count.
abbrev counting : SoloDone → ℕ → SoloDone
counting d n = record { queue = d.queue; outcome = d.outcome; steps = n }

-- A step that answers running is made and ends no call; a refused one ends none either.
pub runs_on : (o : Outcome) → is_running o ≡ true → (is_moved o ≡ true) × (ends_call o ≡ false)
runs_on (Err w) h = absurd (not_both h refl)
runs_on (Ok (Running p)) h = (refl, refl)
runs_on (Ok Pushed) h = absurd (not_both h refl)
runs_on (Ok Empty) h = absurd (not_both h refl)
runs_on (Ok (Popped e)) h = absurd (not_both h refl)
runs_on (Ok NoFreeSlot) h = absurd (not_both h refl)

pub not_made : (o : Outcome) → is_moved o ≡ false → (is_running o ≡ false) × (ends_call o ≡ false)
not_made (Err w) h = (refl, refl)
not_made (Ok a) h = absurd (not_both refl h)

module _ (t : ℕ) where
  -- What is left of n steps once k are made.
  abbrev pub to-go : ℕ → ℕ → Queue → SoloDone
  to-go n k q = cond (eqb k 0) (solo_run n q t) (further k (solo_steps (n - k) q t))

  -- The next step d, where one is left.
  next : (n k : ℕ) (q : Queue) (d : Done) → k < n → d ≡ act q t Step
      → solo_steps (n - k) q t
      ≡ cond (is_running d.outcome) (one_more (solo_steps (n - (k + 1)) d.queue t)) (cond (is_moved d.outcome) (last_step d) (resting q t))
  unfolding solo_steps
  next n k q d h e = let one : n - k ≡ suc (n - (k + 1)) = omega arith in rw (one, e)

  -- If it is made, or if one was made before, steps are left and no refusal.
  begun : (n k : ℕ) (q : Queue) → is_moved (act q t Step).outcome ≡ true → further k (solo_steps (n - k) q t) ≡ to-go n k q
  unfolding solo_run
  begun n zero q m = let e : n - 0 ≡ n = omega arith in rw (e, m) (ap (counting (solo_steps n q t)) (omega arith))
  begun n (suc k) q m = rw (ne_eqb (suc k) 0 (λ z. omega arith))

  later : (n k : ℕ) (q : Queue) → (k ≡ 0 → ⊥) → further k (solo_steps (n - k) q t) ≡ to-go n k q
  later n k q h = rw (ne_eqb _ _ h)

  module _ (n k : ℕ) (q : Queue) (d : Done) (h : k < n) (e : d ≡ act q t Step) where
    was_made : is_moved d.outcome ≡ true → is_moved (act q t Step).outcome ≡ true
    was_made m = ap (λ (x : Done). is_moved x.outcome) (sym e) ∙ m

    pub to_go_more : is_running d.outcome ≡ true → to-go n (k + 1) d.queue ≡ to-go n k q
    to_go_more r =
        let rest = solo_steps (n - (k + 1)) d.queue t in
        sym (later n (k + 1) d.queue (λ z. omega arith))
        ∙ ap (counting rest) (let same : k + 1 + rest.steps ≡ k + suc rest.steps = omega arith in same)
        ∙ ap (further k) (sym (rw r at (next n k q d h e)))
        ∙ begun n k q (was_made (runs_on d.outcome r).0)

    to_go_answered : is_running d.outcome ≡ false → is_moved d.outcome ≡ true → further k (last_step d) ≡ to-go n k q
    to_go_answered r m = ap (further k) (sym (rw (r, m) at (next n k q d h e))) ∙ begun n k q (was_made m)

    to_go_stopped : is_moved d.outcome ≡ false → (k ≡ 0 → ⊥) → further k (resting q t) ≡ to-go n k q
    to_go_stopped m z = ap (further k) (sym (rw ((not_made _ m).0, m) at (next n k q d h e))) ∙ later n k q z

    to_go_refused : is_moved d.outcome ≡ false → k ≡ 0 → record { queue = q; outcome = d.outcome; steps = 0 } ≡ to-go n k q
    unfolding solo_run
    to_go_refused m z = rw (eq-eqb _ _ z, sym e, m)

    -- A refused step changes nothing.
    unchanged : is_moved d.outcome ≡ false → d.queue ≡ q
    unchanged m = go d.outcome refl
      where
        go : (o : Outcome) → d.outcome ≡ o → d.queue ≡ q
        go (Err refusal) z = ap (λ (x : Done). x.queue) e ∙ act-refused q t Step refusal.number (ap (λ (x : Done). x.outcome) (sym e) ∙ z)
        go (Ok a) z = absurd (not_both (ap is_moved z) m)

  to_go_none : (n k : ℕ) (q : Queue) → n ≤ k → (k ≡ 0 → ⊥) → further k (resting q t) ≡ to-go n k q
  unfolding solo_steps
  to_go_none n k q h z = let e : n - k ≡ 0 = omega arith in rw (ne_eqb _ _ z, e)

  -- ---- how the run ends
  module _ (n k : ℕ) (q₀ q : Queue) (us₀ us : List ℕ) (same : us ≡ us₀) (inv : to-go n k q ≡ solo_run n q₀ t) where
    abbrev Ends : Queue → List ℕ → RunReply → Type 0
    Ends q' us' r = ◌≡◌ {A = Ran} (record { queue = q'; uppers = us'; reply = r }) (ran t us₀ (solo_run n q₀ t))

    -- With the last step allowed.
    pub cut : (r : RunReply) → n ≤ k → (k ≡ 0 → ⊥) → r ≡ run_reply_of (Moved (Running (record_at q t).place)) k → Ends q us r
    cut r h z er =
        let count : k ≡ k + 0 = omega arith in
        rw (er ∙ ap (run_reply_of (Moved (Running (record_at q t).place))) count, same) (ap (ran t us₀) (to_go_none n k q h z ∙ inv))

    module _ (q' : Queue) (us' : List ℕ) (o : Outcome) (h : k < n) (e : ◌≡◌ {A = Done} (record { queue = q'; outcome = o }) (act q t Step))
        (eu : us' ≡ cond (ends_call o) (set us t 0) us) where
      abbrev d : Done
      d = record { queue = q'; outcome = o }

      -- With an answer.
      pub answered : (m : ℕ) (r : RunReply) → is_running o ≡ false → is_moved o ≡ true → m ≡ k + 1 → r ≡ run_reply_of o m → Ends q' us' r
      answered m r stops made em er = rw (er, em, eu, same) (ap (ran t us₀) (to_go_answered n k q d h e stops made ∙ inv))

      -- With a refused step, the first or a later one.
      pub refused : (r : RunReply) → is_moved o ≡ false → k ≡ 0 → r ≡ run_reply_of o 0 → Ends q' us' r
      refused r m z er =
          rw (er, eu, same, unchanged n k q d h e m) (ap (ran t us₀) (to_go_refused n k q d h e m z ∙ inv))

      pub stopped : (r : RunReply) → is_moved o ≡ false → (k ≡ 0 → ⊥) → r ≡ run_reply_of (Moved (Running (record_at q' t).place)) k → Ends q' us' r
      stopped r m z er =
          let count : k ≡ k + 0 = omega arith in
          rw (er ∙ ap (run_reply_of (Moved (Running (record_at q' t).place))) count, eu, (not_made o m).1, same, unchanged n k q d h e m)
          (ap (ran t us₀) (to_go_stopped n k q d h e m z ∙ inv))
