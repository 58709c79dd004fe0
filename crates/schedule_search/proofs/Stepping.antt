-- A step, what is found below it, and back: the queue is as before, and the step stands in the memory.
use Rattle.std.specs.Prelude.{Err, Ok}
use mathlib.Core.{Path.{◌≡◌, refl, sym, ap, subst, ◌∙◌}, Bool.{Bool, true, false, ◌||◌, not, cond}}
use mathlib.Core.List.{List, [], ◌∷◌}
use Prim.Native.Nat.{ℕ, suc, ◌+◌, ◌-◌, ◌<◌, ◌≤◌}
use native.Mathlib.Omega.{arith}
use lib.{Dec.eqb, ListN.{length, get_or, set}, Seq.{sets, set_comm, set-get_or, set-set}}
use Rattle.model.specs.Outcomes.{Outcome}
use Rattle.model.specs.declared.{Call.Call, Record.Record}
use Rattle.model.specs.{Tables.{Tables, Queue, tables_of, task_at, unused}, Ends.is_moved, Places.{row, word_found}}
use Rattle.model.{specs.{Refusals.step_sound, Calls.{Acted, finish, Done, back}}, proofs.Tests.Truth.either}
use Rattle.engine.{specs.StepAdmitted.step_admitted, proofs.InParts.{fault, here}}
use Rattle.layout.specs.Rows.{control_of, call_of, record_of, queue_in}
use Rattle.rows.specs.Moved.{RowMoved}
use Rattle.layout.proofs.Rows.{record_read, record_put}
use Rattle.schedule_model.specs.{declared.Saved.Saved, Next.{Next, given, no_more}, Schedules.at_work}
use Rattle.schedule_model.specs.{Search.{prefixed, stepped, skips, frees}, Undo.{saved, put_back}}
use Rattle.schedule_model.proofs.Undone.{undoes}
use Rattle.schedule_search.specs.{declared.{Found.Found, undo.Kept.Kept}, Stepped.{moved, Steps, restored}}
use Rattle.schedule_search.specs.Sought.{seeking, branch, choice, found_of, written, Sought, sought, under}
use Rattle.schedule_search.proofs.Seeking.{handed, none_here}
use Rattle.std.specs.Prelude.{Option, Some, None, is_some}

stepped-is : (t : ℕ) (o : Outcome) (free : Bool) (m : Next) → stepped t o free m ≡ prefixed t (under (not (is_moved o)) free m)
stepped-is t (Err why) true m = refl
stepped-is t (Err why) false m = refl
stepped-is t (Ok a) free m = refl

-- A word stored before the run of words above it, or after.
pub sets_above : (l s : List ℕ) (i j t : ℕ) → j < i → set (sets l i s) j t ≡ sets (set l j t) i s
sets_above l [] i j t h = refl
sets_above l (x ∷ s) i j t h =
    sets_above (set l i x) s (suc i) j t (omega (arith, h))
    ∙ ap (λ (r : List ℕ). sets r (suc i) s) (set_comm l i j x t (λ e. omega (arith, h, e)))

-- The step found below is prefixed.
module _ (left t : ℕ) (some : 0 < left) (few : left ≤ 48) where
  prefix_found : (m : Next) → found_of (48 - (left - 1)) m ≡ found_of (48 - left) (prefixed t m)
  prefix_found (given s) =
      let z : 48 - (left - 1) + length s.steps ≡ 48 - left + suc (length s.steps) = omega (arith, some, few) in
      ap (λ (n : ℕ). Some (record { length = n; ending = s.ending })) z
  prefix_found no_more = refl

  prefix_written : (m : Next) (ws : List ℕ)
      → cond (is_some (found_of (48 - (left - 1)) m)) (set (written (49 - (left - 1)) m ws) (49 - left) t) (written (49 - (left - 1)) m ws)
      ≡ written (49 - left) (prefixed t m) ws
  prefix_written no_more ws = refl
  prefix_written (given s) ws =
      let z : 49 - (left - 1) ≡ suc (49 - left) = omega (arith, some, few) in
      ap (λ (n : ℕ). set (sets ws n s.steps) (49 - left) t) z ∙ sets_above ws s.steps (suc (49 - left)) (49 - left) t (omega arith)

-- The tables after a step and back.
tables-back : (q : Tables) (r : Record) → put_back (saved (row r.call) q) (step_admitted q r).tables ≡ q
unfolding step_admitted finish
tables-back q r =
    either Back (eqb (fault q r) 0)
    (subst Back (sym (here q r)) (either Back (eqb (cond (step_sound q.control r.call (word_found q r.call)) 0 34) 0) (undoes q r.call).1 refused))
    refused
  where
    Back : Acted → Type 0
    Back a = put_back (saved (row r.call) q) a.tables ≡ q

    refused : put_back (saved (row r.call) q) q ≡ q
    refused = (undoes q r.call).0

-- The queue after a step and back.
all_back : (q q₁ : Queue) (t : ℕ) (k : Kept) → Steps q t k q₁ → restored k t (moved q t).queue ≡ q
unfolding moved
all_back q q₁ t k s =
    let r = task_at q t in
    let a = step_admitted q.tables r in
    let tables : put_back k.saved a.tables ≡ q.tables =
    ap (λ (x : Saved). put_back x a.tables) s.words_kept ∙ tables-back q.tables r
    in
    let records : set (set q.records t a.task) t (record_of k.row) ≡ q.records =
    ap (set (set q.records t a.task) t) s.record_kept ∙ set-set q.records t a.task r ∙ set-get_or q.records t unused
    in
    λ i.
    record { tables = tables i; records = records i }

-- The queue of a search, lent as rows, and task t's row in it moved on: the step of the task.
module _ (control : List ℕ) (pair : List (List ℕ)) (lefts rights labels marks next : List ℕ) (t : ℕ) where
  abbrev Q : Queue
  Q = queue_in control pair lefts rights labels marks next

  abbrev was : List ℕ
  was = get_or pair t []

  pub steps : (control₁ row₁ lefts₁ rights₁ labels₁ marks₁ next₁ : List ℕ) (r : Call) (s : Saved) (o : Outcome) (moves : Bool)
      → r ≡ call_of was → s ≡ saved (row r) Q.tables
      → RowMoved Q.tables was (tables_of (control_of control₁) lefts₁ rights₁ labels₁ marks₁ next₁) row₁ o → moves ≡ is_moved o
      → Steps Q t (record { row = was; saved = s; stopped = not moves }) (queue_in control₁ (set pair t row₁) lefts₁ rights₁ labels₁ marks₁ next₁)
  unfolding moved record_of
  steps control₁ row₁ lefts₁ rights₁ labels₁ marks₁ next₁ r s o moves whose kept made told =
      let done : ◌≡◌ {A = Done} (record { queue = queue_in control₁ (set pair t row₁) lefts₁ rights₁ labels₁ marks₁ next₁; outcome = o }) (moved Q t) =
      rw (record_put pair t row₁) (ap (back Q t) (made.0 ∙ ap (step_admitted Q.tables) (record_read pair t)))
      in
      record {
        record_kept = record_read pair t;
        words_kept = kept ∙ ap (λ (x : Call). saved (row x) Q.tables) (whose ∙ ap (λ (x : Record). x.call) (record_read pair t));
        stopped = ap not (told ∙ ap (λ (d : Done). is_moved d.outcome) done);
        queue = ap (λ (d : Done). d.queue) done;
      }

-- c: whether task t may be next.
module _ (ws : List ℕ) (len left : ℕ) (free : Bool) (q : Queue) (t : ℕ) where
  abbrev skip : Bool
  skip = not (at_work q t) || skips ws len left free t

  passing : (skip any : Bool) → None ≡ cond skip None (Some any) → skip ≡ true
  passing true any e = refl
  passing false any e = absurd (cc)

  going : (skip any c : Bool) → Some c ≡ cond skip None (Some any) → (skip ≡ false) × (c ≡ any)
  going true any c e = absurd (cc)
  going false any c e = (refl, cc)

  pub passed_over : None ≡ choice ws len left free q t → handed None ws q ≡ sought left ws (branch ws len left free q t) q
  passed_over e = rw (passing skip (frees ws len left free t) e) (none_here left ws q)

  -- k: what is kept; the queue and the memory after the step (₁), after the search below it ('), and after putting back ('').
  pub there_and_back : 0 < left → left ≤ 48 → (c : Bool) (k : Kept) (q₁ q' q'' : Queue) (f : Option Found) (ws' ws'' : List ℕ)
      → Some c ≡ choice ws len left free q t → Steps q t k q₁
      → handed f ws' q' ≡ sought (left - 1) ws (under k.stopped c (seeking ws len (left - 1) c q₁)) q₁
      → q'' ≡ restored k t q'
      → ws'' ≡ cond (is_some f) (set ws' (49 - left) t) ws'
      → handed f ws'' q'' ≡ sought left ws (branch ws len left free q t) q
  unfolding sought
  there_and_back some few c k q₁ q' q'' f ws' ws'' chosen step found put noted =
      let d = moved q t in
      let beneath : Bool → Bool → Queue → Next = λ stopped any p. under stopped any (seeking ws len (left - 1) any p) in
      let any = frees ws len left free t in
      let may = going skip any c chosen in
      let u = beneath (not (is_moved d.outcome)) any d.queue in
      let all : handed f ws' q' ≡ sought (left - 1) ws u d.queue =
      found
      ∙ ap (λ (x : Bool). sought (left - 1) ws (beneath k.stopped x q₁) q₁) may.1
      ∙ ap (λ (x : Bool). sought (left - 1) ws (beneath x any q₁) q₁) step.stopped
      ∙ ap (λ (p : Queue). sought (left - 1) ws (beneath (not (is_moved d.outcome)) any p) p) step.queue
      in
      let fs : f ≡ found_of (48 - (left - 1)) u = ap (λ (z : Sought). z.found) all in
      let ms : ws' ≡ written (49 - (left - 1)) u ws = ap (λ (z : Sought). z.memory) all in
      let memory : ws'' ≡ written (49 - left) (prefixed t u) ws =
      noted
      ∙ ap (λ (g : Option Found). cond (is_some g) (set ws' (49 - left) t) ws') fs
      ∙ ap (λ (l : List ℕ). cond (is_some (found_of (48 - (left - 1)) u)) (set l (49 - left) t) l) ms
      ∙ prefix_written left t some few u ws
      in
      let queue : q'' ≡ q = put ∙ ap (λ (z : Sought). restored k t z.queue) all ∙ all_back q q₁ t k step in
      rw may.0
      ((λ i. handed ((fs ∙ prefix_found left t some few u) i) (memory i) (queue i))
      ∙ ap (λ (m : Next). sought left ws m q) (sym (stepped-is t d.outcome any (seeking ws len (left - 1) any d.queue))))
