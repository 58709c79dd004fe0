-- No operation is refused 34, and each leaves the tables safe.
use mathlib.Core.{Bool.{Bool, ◌&&◌, false, not, true}, List.{List, [], ◌∷◌}, Logic.{◌≢◌, ◌⊎◌, inl, inr}}
use mathlib.Core.Path.{◌≡◌, ap, subst, sym}
use Prim.Native.Nat.{suc, ℕ}
use native.Mathlib.Omega.{arith}
use lib.Dec.{eqb, leb}
use borrow.Author.Tests.{eq-eqb, eqb-false, eqb-true, not-false}
use Rattle.model.specs.Calls.{Acted, Done, act, act_on, back, finish, pop_start, push_start, push_pooled_start, step}
use Rattle.model.specs.{History.{Ledger, NeverUnsound, Request, final, run}, Places.word_found}
use Rattle.model.specs.declared.{Asked.Asked, Answer.Answer, Op.{Op, TheVariants.{Pop, Push, PushPooled, Step}}}
use Rattle.model.specs.Outcomes.{Moved, Refused}
use Rattle.model.specs.declared.{Call.Call, Record.Record}
use Rattle.model.specs.Refusals.{among, fits, late, named_push, nothing_asked, pooled_push, pop_refusal, push_refusal}
use Rattle.model.specs.Refusals.{push_pooled_refusal, start_refusal, step_refusal, step_sound}
use Rattle.model.specs.Sound.{control_sound, record_sound}
use Rattle.model.specs.Tables.{Queue, Tables, asking, is_pooled, record_at, started, task_at, unused}
use Rattle.model.proofs.{Tests.Truth.{by_test, decide_eq, not_both, same_refusal}, Lists.Store.set_back}
use Rattle.model.proofs.Bridge.Accepted.{Lies, lies, pop_accepted, push_accepted, push_pooled_accepted}
use Rattle.model.proofs.{Bridge.Accepted.step-accepted, Ledger.{EveryOperation.act_good, Matched.Matched}}
use Rattle.model.proofs.Unsound.{Safe.Safe, StepSafe.step_safe, StepSound.{own_sound, step-sound}}
use Rattle.model.proofs.Unsound.StartSafe.{early-room, pop_begins, push_begins, push_pooled_begins, start_safe}

module _ (n : ℕ) (q : Queue) (l : Ledger) (g : Matched n q l) (f : Safe q) (t : ℕ) where
  abbrev r : Call
  r = record_at q t

  abbrev G : Tables
  G = q.tables

  -- No rule of 34 applies.
  record_passes : Lies q t → record_sound (is_pooled G.control) G.control.slots r ≡ true
  unfolding record_sound
  record_passes z = go (decide_eq r.place 0)
    where
      go : (r.place ≡ 0) ⊎ (r.place ≢ 0) → record_sound (is_pooled G.control) G.control.slots r ≡ true
      go (inl e) = rw (eq-eqb r.place 0 e)
      go (inr e) = own_sound n q l g f t z e

  never : {b : Bool} → b ≡ true → not b ≡ true → ⊥
  never e f = not_both f (ap not e)

  abbrev Not34 : ℕ → Type 0
  Not34 v = v ≢ 34

  abbrev enough : Bool
  enough = fits G && (among q t).enough

  found : not enough ≡ false → not (among q t).known ≡ false → Lies q t
  found e k = lies q t (not-false _ e) (not-false _ k)

  start_34 : (side : ℕ) (a : Asked) → Not34 (start_refusal G.control (fits G) (among q t) r side a)
  unfolding start_refusal
  start_34 side a =
      by_test Not34 (not (control_sound G.control)) (λ e. absurd (never f.control e))
      (λ e. by_test Not34 (not enough) (λ e. omega arith)
      (λ z. by_test Not34 (not (among q t).known) (λ e. omega arith)
      (λ k. by_test Not34 (not (leb side 1)) (λ e. omega arith)
      (λ e. by_test Not34 a.wrong (λ e. omega arith)
      (λ e. by_test Not34 a.outside (λ e. omega arith)
      (λ e. by_test Not34 (not (record_sound (is_pooled G.control) G.control.slots r)) (λ e. absurd (never (record_passes (found z k)) e))
      (λ e. by_test Not34 (not (eqb r.place 0)) (λ e. omega arith)
      (λ e. by_test Not34 a.taken (λ e. omega arith)
      (λ e. by_test Not34 (late G.control) (λ e. omega arith) (λ e. omega arith))))))))))

  step_34 : Not34 (step_refusal G (among q t) r)
  unfolding step_refusal
  step_34 =
      by_test Not34 (not (control_sound G.control)) (λ e. absurd (never f.control e))
      (λ e. by_test Not34 (not enough) (λ e. omega arith)
      (λ z. by_test Not34 (not (among q t).known) (λ e. omega arith)
      (λ k. by_test Not34 (not (record_sound (is_pooled G.control) G.control.slots r)) (λ e. absurd (never (record_passes (found z k)) e))
      (λ e. by_test Not34 (eqb r.place 0) (λ e. omega arith)
      (λ b. by_test Not34 (not (step_sound G.control r (word_found G r)))
      (λ e. absurd (never (step-sound n q l g f t (found z k) (eqb-false _ _ b)) e)) (λ e. omega arith))))))

  -- The outcome, and what it leaves.
  abbrev After : Done → Type 0
  After d = (d.outcome ≡ Refused 34 → ⊥) × Safe d.queue

  abbrev Puts : Acted → Type 0
  Puts a = After (back q t a)

  refused : (why : ℕ) → Not34 why → Puts (record { tables = G; task = task_at q t; outcome = Refused why })
  refused why h = (λ e. h (same_refusal e), subst (λ (x : List Record). Safe (record { tables = G; records = x })) (sym (set_back q.records t unused)) f)

  moved : (a : Answer) → Moved a ≡ Refused 34 → ⊥
  moved a e = let w : ◌≡◌ {A = ℕ} 0 1 = cc in omega arith

  pub act_safe : (o : Op) → After (act q t o)
  unfolding act act_on push_start push_pooled_start pop_start step finish
  act_safe (Push side x y) = by_test Puts (eqb (push_refusal G (among q t) r side x) 0)
      (λ e. let p = push_accepted q t side x (eqb-true _ _ e) in (
        moved _,
        start_safe q f t p.starting.lies p.starting.free _ _ (started 0 side x y)
            (push_begins (is_pooled G.control) G.control.slots side x y p.starting.side p.real p.within)
            (early-room q f t p.starting.lies.known (started 0 side x y) p.starting.early),
      ))
      (λ e. refused (push_refusal G (among q t) r side x) (start_34 side (named_push G x)))
  act_safe (Pop side) = by_test Puts (eqb (pop_refusal G (among q t) r side) 0)
      (λ e. let p = pop_accepted q t side (eqb-true _ _ e) in (
        moved _,
        start_safe q f t p.lies p.free _ _ (started 1 side 0 0) (pop_begins (is_pooled G.control) G.control.slots side p.side)
            (early-room q f t p.lies.known (started 1 side 0 0) p.early),
      ))
      (λ e. refused (pop_refusal G (among q t) r side) (start_34 side nothing_asked))
  act_safe (PushPooled side y) = by_test Puts (eqb (push_pooled_refusal G (among q t) r side) 0)
      (λ e. let p = push_pooled_accepted q t side (eqb-true _ _ e) in (
        moved _,
        start_safe q f t p.0.lies p.0.free _ _ (asking side y)
            (push_pooled_begins (is_pooled G.control) G.control.slots side y p.1 p.0.side)
            (early-room q f t p.0.lies.known (asking side y) p.0.early),
      ))
      (λ e. refused (push_pooled_refusal G (among q t) r side) (start_34 side (pooled_push G)))
  act_safe Step = by_test Puts (eqb (step_refusal G (among q t) r) 0)
      (λ e. let s = step-accepted q t (eqb-true _ _ e) in (moved _, step_safe n q l g f t s.lies s.busy))
      (λ e. refused (step_refusal G (among q t) r) step_34)

pub run_safe : (os : List Request) (n : ℕ) (q : Queue) (l : Ledger) → Matched n q l → Safe q → NeverUnsound q os × Safe (final q os)
unfolding run final
run_safe [] n q l g f = (record { operations = tt }, f)
run_safe (o ∷ os) n q l g f =
    let a = act_safe n q l g f o.task o.op in
    let h = run_safe os (suc n) (act q o.task o.op).queue _ (act_good n q l g o.task o.op) a.1 in
    (record { operations = (a.0, h.0.operations) }, h.1)
