-- Of two busy tasks a step is refused by 34 only.
use Rattle.model.proofs.Tests.Truth.{same_refusal}
use mathlib.Core.{Path.{◌≡◌, refl, sym, ap, ◌∙◌}, Bool.{Bool, true, false, not, cond}, List.{List, [], ◌∷◌}}
use Prim.Native.Nat.{ℕ, ◌<◌}
use native.Mathlib.Omega.{arith}
use lib.Dec.{eqb}
use borrow.Author.Tests.{lt-ltb, not-true, not-false, eqb-true}
use Rattle.model.specs.Outcomes.{Refused}
use Rattle.model.specs.declared.{Call.Call, Record.Record, Op.TheVariants.Step}
use Rattle.model.specs.{Tables.{Tables, Queue, is_pooled, task_at, record_at}, Places.{Move, move, apply}, History.final}
use Rattle.model.specs.Sound.{control_tests, control_sound, record_sound}
use Rattle.model.specs.Places.{Touch, nothing, set_anchor, set_link, clear_mark, take_slot, set_next, set_head, word_found}
use Rattle.model.specs.Refusals.{Lent, among, leaves_sound, step_tests, step_sound, step_rules, step_refusal}
use Rattle.model.specs.Calls.{Acted, decide, finish, step, act_on, act}
use Rattle.model.proofs.{Laws.Sizes.{fits, act-fits, act-tasks}, Tests.{Truth.by_test, Rules.{tests, passes, cleared}}}
use Rattle.schedule_model.specs.{Schedules.at_work, Allowed.after, Next.schedule_refusal, Claims.OnlyUnsound}
use Rattle.schedule_model.proofs.Admitted.{control, enough, tasks}

-- A change that leaves Anchor sound leaves control sound.
touched : (t : Touch) (q : Tables) → control_sound q.control ≡ true → leaves_sound q.control.slots t ≡ true
    → control_sound (apply t q).control ≡ true
unfolding control_sound
touched nothing q h s = h
touched (set_anchor w) q h s =
    let z = tests (control_tests q.control) h in
    passes (control_tests (apply (set_anchor w) q).control) (z.0, (z.1.0, (s, z.1.1.1)))
touched (set_link side x w) q h s = h
touched (clear_mark x) q h s = h
touched (take_slot w x l) q h s = h
touched (set_next x v) q h s = h
touched (set_head w) q h s = h

-- The move of a step that is not refused leaves Anchor sound.
lawful : (q : Tables) (p : Lent) (r : Call) → step_refusal q p r ≡ 0
    → leaves_sound q.control.slots (move q.control r (word_found q r)).touch ≡ true
unfolding step_refusal step_sound
lawful q p r e =
    let rules = cleared (step_rules q p r) refl e in
    (tests (step_tests q.control r (word_found q r)) (not-false _ rules.1.1.1.1.1.0)).1.1.0

sound-after : (q : Tables) (p : Lent) (r : Record) → control_sound q.control ≡ true → control_sound (step q p r).tables.control ≡ true
unfolding step finish control_sound
sound-after q p r h =
    by_test (λ (a : Acted). control_sound a.tables.control ≡ true) (eqb (step_refusal q p r.call) 0)
    (λ e. touched (move q.control r.call (word_found q r.call)).touch q h (lawful q p r.call (eqb-true _ _ e)))
    (λ _. h)

-- A queue whose control is sound, with tables long enough for its two tasks.
pub record Ready (q : Queue) : Type 0 where
  pub sound : control_sound q.tables.control ≡ true
  pub enough : fits q ≡ true
  pub tasks : q.tables.control.tasks ≡ 2

pub ready : (q : Queue) (ws : List ℕ) → schedule_refusal q ws ≡ 0 → Ready q
ready q ws ok = record { sound = control q ws ok; enough = enough q ws ok; tasks = tasks q ws ok }

pub stays : (q : Queue) (t : ℕ) → Ready q → Ready (act q t Step).queue
unfolding act act_on
stays q t h = record {
  sound = sound-after q.tables (among q t) (task_at q t) h.sound;
  enough = act-fits q t Step ∙ h.enough;
  tasks = act-tasks q t Step ∙ h.tasks;
}

tried : (q : Queue) (ts : List ℕ) → Ready q → Ready (after q ts)
unfolding final
tried q [] h = h
tried q (t ∷ ts) h = tried (act q t Step).queue ts (stays q t h)

-- 34 or none.
busy-refusal : (q : Queue) (t : ℕ) → Ready q → t < 2 → at_work q t ≡ true
    → let r = record_at q t in
    let c = q.tables.control in
    step_refusal q.tables (among q t) r
    ≡ cond (not (record_sound (is_pooled c) c.slots r)) 34 (cond (not (step_sound c r (word_found q.tables r))) 34 0)
unfolding step_refusal
busy-refusal q t h low busy = rw (h.sound, h.enough, h.tasks, lt-ltb t 2 low, not-true (eqb (record_at q t).place 0) busy) refl

refused_by : (a b : Bool) (q : Tables) (r : Record) (done : Acted) (n : ℕ) → (done.outcome ≡ Refused n → ⊥)
    → (decide (cond a 34 (cond b 34 0)) q r done).outcome ≡ Refused n → n ≡ 34
refused_by true b q r done n f e = sym (same_refusal e)
refused_by false true q r done n f e = sym (same_refusal e)
refused_by false false q r done n f e = absurd (f e)

moved : (q : Tables) (r : Record) (m : Move) (n : ℕ) → (finish q r m).outcome ≡ Refused n → ⊥
unfolding finish
moved q r m n e = let z : ◌≡◌ {A = ℕ} 0 1 = cc in omega arith

by34 : (q : Queue) (t n : ℕ) → Ready q → t < 2 → at_work q t ≡ true → (act q t Step).outcome ≡ Refused n → n ≡ 34
unfolding act act_on step
by34 q t n h low busy e =
    let r = record_at q t in
    let whole = task_at q t in
    let c = q.tables.control in
    let w = word_found q.tables r in
    let done = finish q.tables whole (move c r w) in
    refused_by (not (record_sound (is_pooled c) c.slots r)) (not (step_sound c r w)) q.tables whole done n (moved q.tables whole _ n)
    (ap (λ (why : ℕ). (decide why q.tables whole done).outcome) (sym (busy-refusal q t h low busy)) ∙ e)

pub only_unsound : OnlyUnsound
only_unsound q ws ts t n ok low busy e =
    by34 (after q ts) t n (tried q ts (ready q ws ok)) low busy e
