-- The same of the tables: a busy task stepped alone answers within as many steps as it owes.
use mathlib.Core.{Bool.{Bool, cond, false, true}, Logic.◌≢◌, Path.{◌∙◌, ◌≡◌, ap, refl, subst, subst₂, sym}}
use Prim.Native.Nat.{◌+◌, ◌<◌, ◌≤◌, suc, zero, ℕ}
use native.Mathlib.Omega.{arith}
use lib.{Dec.{eqb, leb}, Seq.get_or-set_same}
use borrow.Author.Tests.{eq-eqb}
use Rattle.model.specs.{Calls.{Acted, Done, act, act_on, back, finish, step}, History.Ledger}
use Rattle.model.specs.{Places.{Move, word_found, move}, Progress.{AnsweredWithin, Busy, limit}}
use Rattle.model.specs.{Solo.{solo_run, solo_steps}, Refusals.{among, step_refusal}, Route.{goes, counted}}
use Rattle.model.specs.Tables.{Queue, Tables, record_at, task_at, unused}
use Rattle.model.specs.declared.Answer.{TheVariants.{Empty, NoFreeSlot, Popped, Pushed, Running}, Answer}
use Rattle.model.specs.Outcomes.{Moved}
use Rattle.model.specs.declared.{Call.Call, Record.Record, Op.TheVariants.Step}
use Rattle.model.proofs.{Tests.Truth.{by_test, not_both, split}, Machine.{Answers.EndsAt, Laws.upd_same}}
use Rattle.model.proofs.{Bridge.{Accepted.Lies, Decoded.{next, seen_move}}, Ledger.Matched.Matched}
use Rattle.model.proofs.Bridge.Operations.{not_idle, reply, state_is, step-ends, stepped, task_of}
use Rattle.model.proofs.Bridge.View.{answer_seen, kind_of, place_of, rec_of, state_of, view}
use Rattle.model.proofs.Unsound.{Safe.Safe, StepSafe.keeps, StepSound.{h, own_task, seen, stepping}}
use Rattle.model.proofs.Progress.{Alone.{alone, alone_falls, alone-within, draws, spend}, Falls.Falls}
use Rattle.model.proofs.Progress.{Reached.{Reached, act_reached}, NotRefused.{Roomy, lies, not_refused}}
use Rattle.model.proofs.Machine.Machine as M

-- What task t owes, stepped alone as a call of kind k.
abbrev pub alone_of : Bool → M.Kind → ℕ → M.State → ℕ
alone_of pooled k t s = alone pooled k s.shared (s.task t)

-- The task's step is accepted; where it answers running, the task is still busy with the same call and owes less.
pub record Nearer (pooled : Bool) (q : Queue) (t : ℕ) (d : Done) : Type 0 where
  pub answer : Answer
  pub moved : d.outcome ≡ Moved answer
  pub busy : answer_seen answer ≡ M.running → (record_at d.queue t).place ≢ 0
  pub kind : answer_seen answer ≡ M.running → (record_at d.queue t).kind ≡ (record_at q t).kind
  pub less : answer_seen answer ≡ M.running
      → alone_of pooled (kind_of (record_at q t).kind) t (state_of d.queue) < alone_of pooled (kind_of (record_at q t).kind) t (state_of q)

module _ (n : ℕ) (q : Queue) (l : Ledger) (g : Matched n q l) (f : Safe q) (pooled : Bool) (tasks : ℕ) (y : Roomy pooled tasks q) (t : ℕ)
    (b : Busy q t) where
  abbrev r : Call
  r = record_at q t

  abbrev G : Tables
  G = q.tables

  abbrev k : M.Kind
  k = kind_of r.kind

  abbrev m : Move
  m = move G.control r (word_found G r)

  abbrev r' : Call
  r' = goes m.task (next r m)

  abbrev moved : Record
  moved = record { call = r'; retries = counted (task_at q t).retries m.failed }

  abbrev z : Lies q t
  z = lies n q l g f pooled tasks y t b

  abbrev q' : Queue
  q' = stepped q g.book g.inv g.links t (stepping n q l g f t z b.place)

  abbrev a : Answer
  a = reply q g.book g.inv g.links t (stepping n q l g f t z b.place)

  abbrev Fallen : Bool → M.Move → Type 0
  Fallen way m = Falls (spend way k) (spend way k + 4) (draws way k) (alone way k (view G) (rec_of r)) (view G) m

  falls : Fallen pooled (seen_move G r)
  unfolding rec_of state_of view
  falls = subst₂ Fallen y.way (seen n q l g f t z b.place)
      (alone_falls (view G) (rec_of r) g.inv.owner t g.book.queue (g.book.calls t) g.inv.whole (place_of r.place)
      (not_idle r.place b.place (h n q l g f t z b.place).place) (own_task n q l g f t z b.place))

  -- The record that is put back.
  own : record_at q' t ≡ r'
  unfolding finish
  own = ap (λ (x : Record). x.call) (get_or-set_same q.records t moved unused (omega (arith, z.length, z.known)))

  still : answer_seen a ≡ M.running → r'.place ≢ 0
  unfolding rec_of
  still e p = not_both (ap (λ (v : ℕ). M.is_idle (place_of v)) p)
      (subst (λ (w : M.Answer). EndsAt w (M.is_idle (place_of r'.place))) e
      (step-ends q g.book g.inv g.links t (stepping n q l g f t z b.place)).ends)

  -- A record gone on keeps its kind.
  same_kind : r'.place ≢ 0 → r'.kind ≡ r.kind
  unfolding goes
  same_kind = by_test (λ (x : Call). x.place ≢ 0 → x.kind ≡ r.kind) (leb (next r m) 17) (λ _ _. (keeps n q l g f t z b.place).kind)
      (λ _ e. absurd (e refl))

  nearer : answer_seen a ≡ M.running → alone_of pooled k t (state_of q') < alone_of pooled k t (state_of q)
  unfolding state_of
  nearer e =
      let p = ap (alone_of pooled k t) (state_is q g.book g.inv g.links t (stepping n q l g f t z b.place))
      ∙ ap (alone pooled k (M.apply (view G) (seen_move G r).touch)) (upd_same (state_of q).task t (seen_move G r).rec) in
      let w = ap (alone pooled k (view G)) (task_of q t b.known) in
      omega (arith, p, w, falls.less e)

  abbrev Put : Acted → Type 0
  Put x = Nearer pooled q t (back q t x)

  pub step_nearer : Nearer pooled q t (act q t Step)
  unfolding act act_on step finish
  step_nearer = by_test Put (eqb (step_refusal G (among q t) r) 0)
      (λ _. record {
        answer = a;
        moved = refl;
        busy = λ e. subst (λ (x : Call). x.place ≢ 0) (sym own) (still e);
        kind = λ e. ap (λ (x : Call). x.kind) own ∙ same_kind (still e);
        less = nearer;
      })
      (λ e. absurd (not_both (eq-eqb _ _ (not_refused n q l g f pooled tasks y t b)) e))

module _ (pooled : Bool) (tasks : ℕ) where
  -- Within j steps, where it owes no more.
  pub solo-answers : (j n : ℕ) (q : Queue) → Reached pooled tasks q → (t : ℕ) → Busy q t
      → alone_of pooled (kind_of (record_at q t).kind) t (state_of q) ≤ j → j ≤ n → AnsweredWithin j (solo_steps n q t)
  unfolding solo_steps
  solo-answers zero n q z t b le more =
      absurd (omega (arith, (alone-within pooled (kind_of (record_at q t).kind) (state_of q).shared ((state_of q).task t)).0))
  solo-answers (suc j) zero q z t b le more = absurd (omega (arith, more))
  solo-answers (suc j) (suc n) q z t b le more =
      run_on x.answer refl (λ e. solo-answers j n d.queue z' t (next e).0 (next e).1 (omega (arith, more)))
    where
      d : Done
      d = act q t Step

      x : Nearer pooled q t d
      x = step_nearer z.position q z.ledger z.matched z.safe pooled tasks z.roomy t b

      z' : Reached pooled tasks d.queue
      z' = act_reached pooled tasks q t Step z

      next : answer_seen x.answer ≡ M.running
          → (Busy d.queue t) × (alone_of pooled (kind_of (record_at d.queue t).kind) t (state_of d.queue) ≤ j)
      next e = (
        record { known = omega (arith, b.known, z.roomy.tasks_are, z'.roomy.tasks_are); place = x.busy e },
        subst (λ v. alone_of pooled (kind_of v) t (state_of d.queue) ≤ j) (sym (x.kind e)) (omega (arith, x.less e)),
      )

      run_on : (a : Answer) → x.answer ≡ a → (answer_seen x.answer ≡ M.running → AnsweredWithin j (solo_steps n d.queue t))
          → AnsweredWithin (suc j) (solo_steps (suc n) q t)
      run_on (Running p) e ih =
          let h = ih (ap answer_seen e) in
          rw (x.moved ∙ ap Moved e) (record { answered = h.answered; within = omega (arith, h.within) })
      run_on Pushed e ih = rw (x.moved ∙ ap Moved e) (record { answered = refl; within = omega arith })
      run_on Empty e ih = rw (x.moved ∙ ap Moved e) (record { answered = refl; within = omega arith })
      run_on (Popped v) e ih = rw (x.moved ∙ ap Moved e) (record { answered = refl; within = omega arith })
      run_on NoFreeSlot e ih = rw (x.moved ∙ ap Moved e) (record { answered = refl; within = omega arith })

  -- 18 steps for a push, 13 for a pop, in a pooled queue 21 and 16.
  pub solo-within : (q : Queue) → Reached pooled tasks q → (t n : ℕ) → Busy q t → limit pooled (record_at q t).kind ≤ n
      → AnsweredWithin (limit pooled (record_at q t).kind) (solo_run n q t)
  unfolding solo_run
  solo-within q z t n b more =
      let x = step_nearer z.position q z.ledger z.matched z.safe pooled tasks z.roomy t b in
      rw x.moved (solo-answers _ n q z t b (enough pooled (record_at q t).kind) more)
    where
      within : (way : Bool) (k : M.Kind) → alone_of way k t (state_of q) ≤ spend way k + 11 + cond (draws way k) 3 0
      within way k = (alone-within way k (state_of q).shared ((state_of q).task t)).1

      enough : (way : Bool) (k : ℕ) → alone_of way (kind_of k) t (state_of q) ≤ limit way k
      enough true k = split (eqb k 0) (λ e. rw e (omega (arith, within true M.push))) (λ e. rw e (omega (arith, within true M.pop)))
      enough false k = split (eqb k 0) (λ e. rw e (omega (arith, within false M.push))) (λ e. rw e (omega (arith, within false M.pop)))
