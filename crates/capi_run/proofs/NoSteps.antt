-- A run of no steps, by what a step would be refused by.
use mathlib.Core.{Path.{◌≡◌, refl, ap, sym, ◌∙◌}, Bool.{false, cond}, List.List}
use Prim.Native.Nat.{ℕ}
use lib.{Dec.{leb, ltb}, ListN.{length, set}}
use borrow.Author.Tests.{eq-eqb, ne_eqb}
use Rattle.model.specs.declared.{Control.Control, Call.Call, Answer.TheVariants.Running, Op.TheVariants.Step}
use Rattle.model.specs.Outcomes.{Moved, Refused}
use Rattle.model.specs.Tables.{Queue, record_at, tables_of}
use Rattle.model.specs.{Refusals.{among, step_refusal}, Calls.{act, act_on, finish, step}, Ends.{is_moved, ends_call}}
use Rattle.model.{specs.Solo.{SoloDone, solo_run, solo_steps}, proofs.Tests.Truth.by_test}
use Rattle.layout.{specs.Rows.{control_of, queue_in}, proofs.Rows.length_records}
use Rattle.capi_run.specs.{declared.RunReply.RunReply, Replies.{run_reply_of, Ran, ran}}
use Rattle.capi_run.proofs.StepsToGo.{not_made}

module _ (q : Queue) (t : ℕ) where
  abbrev pub fault : ℕ
  fault = step_refusal q.tables (among q t) (record_at q t)

  abbrev told : SoloDone → RunReply
  told d = run_reply_of d.outcome d.steps

  pub turned_away : (why : ℕ) → why ≡ fault → (why ≡ 0 → ⊥) → run_reply_of (Refused why) 0 ≡ told (solo_run 0 q t)
  unfolding solo_run act act_on step
  turned_away why e h = rw (e, ne_eqb fault 0 (λ z. h (e ∙ z)))

  pub free : (why : ℕ) → why ≡ fault → why ≡ 0 → run_reply_of (Moved (Running (record_at q t).place)) 0 ≡ told (solo_run 0 q t)
  unfolding solo_run solo_steps act act_on step finish
  free why e h = rw (eq-eqb fault 0 (sym e ∙ h))

  -- It changes nothing.
  abbrev Still : SoloDone → Type 0
  Still d = (d.queue ≡ q) × (ends_call d.outcome ≡ false)

  still : Still (solo_run 0 q t)
  unfolding solo_run solo_steps
  still = by_test Still (is_moved (act q t Step).outcome) (λ _. (refl, refl)) (λ m. (refl, (not_made (act q t Step).outcome m).1))

  pub none-ran : (n : ℕ) (us : List ℕ) (r : RunReply) → n ≡ 0 → r ≡ told (solo_run 0 q t)
      → ◌≡◌ {A = Ran} (record { queue = q; uppers = us; reply = r }) (ran t us (solo_run n q t))
  none-ran n us r z e =
      let d = solo_run 0 q t in
      (λ i. record { queue = sym still.0 i; uppers = us; reply = e i })
      ∙ ap (λ b. record { queue = d.queue; uppers = cond b (set us t 0) us; reply = told d }) (sym still.1)
      ∙ ap (λ k. ran t us (solo_run k q t)) (sym z)

-- The same of lent rows.
pub met : (ws : List ℕ) (rows : List (List ℕ)) (ls rs bs ms ns : List ℕ) (t : ℕ) (c : Control) (r : Call) (n why : ℕ)
    → c ≡ control_of ws → r ≡ record_at (queue_in ws rows ls rs bs ms ns) t → n ≡ length rows
    → why ≡ step_refusal (tables_of c ls rs bs ms ns) (record { enough = leb c.tasks n; known = ltb t c.tasks }) r
    → why ≡ fault (queue_in ws rows ls rs bs ms ns) t
met ws rows ls rs bs ms ns t c r n why ec er en e = e ∙ rw (ec, er, en, ← length_records rows)
