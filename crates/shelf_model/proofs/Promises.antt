-- The promises of a past hold of the queue that it leaves.
use Rattle.std.specs.Prelude.{Ok}
use mathlib.Core.{Bool.{Bool, true, false, not}, List.{List, [], ◌∷◌}, Logic.◌≢◌}
use mathlib.Core.Path.{◌≡◌, ◌∙◌, ap, refl, subst, subst₂, sym}
use Prim.Native.Nat.{ℕ, ◌<◌, ◌≤◌}
use native.Mathlib.Omega.{arith}
use lib.Dec.{eqb, leb}
use borrow.Author.Tests.{eqb-false, leb-true, not-false}
use Rattle.model.specs.{declared.{Entry.Entry, Record.Record, Op.TheVariants.Step}, Tables.{Queue, is_pooled}}
use Rattle.model.specs.{Sound.control_sound, Solo.solo_run, Retries.SumIsOld, Standing.Standing}
use Rattle.model.specs.{Refusals.{first, records_fit, report_refusal, rule}, Report.{busy, report, tell, told, waiting}}
use Rattle.model.specs.{History.{Event, final, run}, Progress.took_effect_or_answered}
use Rattle.model.specs.Progress.{AnsweredWithin, Busy, SoloWithin, StretchProgresses, any, limit, steps, stretch_limit}
use Rattle.model.proofs.{Tests.{Rules.{◌and◌, never}, Truth.not_both}, Laws.Runs.run-refused, Retries.retries-sum}
use Rattle.model.proofs.StepBounds.{solo-bound, stretch-bound}
use Rattle.shelf_model.specs.Shelves.{both_hold, return_refusal, save_refusal, save_rules, shelf_at}
use Rattle.shelf_model.specs.Changeovers.{Explained, Holds, Past, World, events_of}
use Rattle.shelf_model.specs.Promises.{Never34, Progresses, Promised, Promises}
use Rattle.shelf_model.proofs.{Stretches.{requests_to, events_are, solo_alike}, Changeovers.changeovers}
use Rattle.shelf_model.proofs.Pasts.{accounts, adds_up, all-served, counts, final-tasks, following-sound, stands}
use Rattle.shelf_model.proofs.Pasts.{marks_true, no_free_slot_lem, operations-sound, past-has, neighbours-joined}
use Rattle.shelf_model.proofs.Pasts.{same-pooled, same-run, same-task, same-tasks}

-- A report where control is sound, the tables are long enough and the walk meets what waits.
report-none : (q : Queue) (d : List Entry) → Standing q d → report_refusal q.tables (records_fit q.tables.control.tasks q) ≡ 0
unfolding report_refusal
report-none q d s = rw (s.control, s.long, s.walk)

report-told : (q : Queue) (d : List Entry) → Standing q d → report q ≡ Ok (told q.tables (busy q))
unfolding report tell
report-told q d s = rw (report-none q d s)

-- A queue that is made, in a world where every such queue has its past.
module _ (w : World) (h : Holds w) (i : ℕ) (made : (w.pasts i).made ≡ true) where
  abbrev p : Past
  p = w.pasts i

  abbrev q : Queue
  q = w.queues i

  abbrev told_by : Explained p q
  told_by = h.now i made

  abbrev then : Queue
  then = final p.opened p.since

  pooled : is_pooled q.tables.control ≡ is_pooled p.opened.tables.control
  pooled = same-pooled p q told_by

  -- #108.
  progresses : Progresses w i
  progresses = record {
    solo = λ t n b more.
        let same = same-task p q told_by t b.known in
        let known = subst (λ k. t < k) (same-tasks p q told_by) b.known in
        let busy : Busy then t = record { known = known; place = subst (λ (r : Record). r.call.place ≢ 0) same b.place } in
        let less = subst₂ (λ way (r : Record). limit way r.call.kind ≤ n) pooled same more in
        let z = past-has p q told_by SoloWithin (solo-bound told_by.begun.pooled) t n busy less in
        solo_alike n _ q then t b.known known told_by.leaves
        (subst₂ (λ way (r : Record). AnsweredWithin (limit way r.call.kind) (solo_run n then t)) (sym pooled) (sym same) z);
    stretch = λ l u enough.
        let same = events_are i l w u ∙ same-run p q told_by (requests_to i l) in
        let tasks = same-tasks p q told_by ∙ final-tasks p.since p.opened in
        let long = subst₂ (λ way n. stretch_limit way n ≤ steps (events_of i w l)) pooled tasks enough in
        subst (λ (es : List Event). any took_effect_or_answered es ≡ true) (sym same)
        (past-has p q told_by StretchProgresses (stretch-bound told_by.begun.pooled) (requests_to i l)
        (subst (λ (es : List Event). stretch_limit (is_pooled p.opened.tables.control) p.opened.tables.control.tasks ≤ steps es) same long));
  }

  sound : Never34 w i
  unfolding waiting save_refusal run
  sound =
      let s = stands p q told_by in
      record {
        operations = operations-sound p q told_by;
        following = following-sound p q told_by;
        runs = λ n t e.
            (following-sound p q told_by (record { task = t; op = Step } ∷ [])).0 (run-refused n q t 34 e).0;
        walks = s;
        told = told q.tables (busy q);
        is = report-told q _ s;
        waiting = rw s.walk;
        saving = λ n. never 34 (save_rules q w.shelves n) (λ e. omega arith) (ap not s.control and refl and refl and tt);
      }

  promised : Promised w i
  promised = record {
    explained = told_by;
    served = record { calls = all-served p q told_by; waits = (stands p q told_by).walk };
    sound = sound;
    retries = λ low. counts p q told_by ∙ past-has p q told_by SumIsOld (retries-sum told_by.begun.pooled) low;
    progress = progresses;
    no_free_slot_lem = no_free_slot_lem p q told_by;
    marks = marks_true p q told_by;
    neighbours = neighbours-joined p q told_by;
    accounted = accounts p q told_by;
    stock = adds_up p q told_by;
  }

-- A shelf that is not unfilled is sound.
return_sound : (a b c d : Bool) → (a ≡ false → b ≡ false → c ≡ true) → first (rule 43 a ∷ rule 44 b ∷ rule 34 (not c) ∷ rule 12 d ∷ []) ≢ 34
return_sound true b c d h = λ z. let y : ◌≡◌ {A = ℕ} 43 34 = z in omega arith
return_sound false true c d h = λ z. let y : ◌≡◌ {A = ℕ} 44 34 = z in omega arith
return_sound false false false d h = λ z. not_both refl (sym (h refl refl))
return_sound false false true true h = λ z. let y : ◌≡◌ {A = ℕ} 12 34 = z in omega arith
return_sound false false true false h = λ z. let y : ◌≡◌ {A = ℕ} 0 34 = z in omega arith

return_never : (w : World) → Holds w → (q : Queue) (n : ℕ) → return_refusal q w.shelves n ≢ 34
unfolding return_refusal
return_never w h q n =
    let c = (shelf_at w.shelves n).tables.control in
    return_sound (not (leb n 7)) (eqb c.tasks 0) (control_sound c) (not (both_hold c q w.shelves n))
    (λ low filled. h.sound n (leb-true _ _ (not-false _ low)) (eqb-false _ _ filled))

pub promises : Promises
promises w unfilled none l =
    let h = changeovers w unfilled none l in record { promised = promised _ h; returning = return_never _ h }
