-- How many steps may pass before a call takes effect or answers. (Request #108.)
use Rattle.std.specs.Prelude.{Err, Ok}
use mathlib.Core.{Bool.{Bool, true, false, ◌||◌, cond}, List.{List, [], ◌∷◌}, Logic.◌≢◌, Path.◌≡◌}
use Rattle.std.specs.Prelude.{ℕ, zero, suc, ◌+◌, ◌*◌, ◌<◌, ◌≤◌, eqb}
use Rattle.model.specs.Outcomes.{Outcome}
use Rattle.model.specs.Ends.{answer_ends, ends_call}
use Rattle.model.specs.{declared.Op.{Op, TheVariants.{Push, Pop, PushPooled, Step}}, Solo.{SoloDone, solo_run}}
use Rattle.model.specs.Tables.{Queue, is_pooled, record_at}
use Rattle.model.specs.History.{Request, Event, run, final, is_effect, AfterOpening}

-- A call takes effect or answers: only an accepted step does.
abbrev pub took_effect_or_answered_by : Event → Op → Outcome → Bool
took_effect_or_answered_by e (Push side slot label) o = false
took_effect_or_answered_by e (Pop side) o = false
took_effect_or_answered_by e (PushPooled side label) o = false
took_effect_or_answered_by e Step (Err refusal) = false
took_effect_or_answered_by e Step (Ok a) = is_effect e a || answer_ends a

abbrev pub took_effect_or_answered : Event → Bool
took_effect_or_answered e = took_effect_or_answered_by e e.op e.outcome

-- Some event of a list passes a test.
unfoldable pub any : (Event → Bool) → List Event → Bool
any test [] = false
any test (e ∷ es) = test e || any test es

-- One for an accepted step; a start or a refused step is none.
abbrev pub stepping : Op → Outcome → ℕ
stepping (Push side slot label) o = 0
stepping (Pop side) o = 0
stepping (PushPooled side label) o = 0
stepping Step (Err refusal) = 0
stepping Step (Ok a) = 1

-- The number of accepted steps among the events.
unfoldable pub steps : List Event → ℕ
steps [] = 0
steps (e ∷ es) = stepping e.op e.outcome + steps es

-- Within 18 steps for a push and 13 for a pop; in a pooled queue 21 and 16. (Request #108 asks for the first two.)
abbrev pub limit : Bool → ℕ → ℕ
limit pooled kind = cond (eqb kind 0) (cond pooled 21 18) (cond pooled 16 13)

-- The number of pairs among n tasks.
unfoldable pub pairs : ℕ → ℕ
pairs zero = 0
pairs (suc n) = n + pairs n

-- 26 steps for each task opened. In a pooled queue 20 for each, and 3 for each pair of them: a task that draws its slot, which is no
-- effect, may send each other one back to 12 or 15. (Request #108 asks for the first.)
abbrev pub stretch_limit : Bool → ℕ → ℕ
stretch_limit pooled tasks = cond pooled (20 * tasks + 3 * pairs tasks) (26 * tasks)

-- Task t is one of the queue's, and has a call that is not answered.
pub record Busy (q : Queue) (t : ℕ) : Type 0 where
  pub known : t < q.tables.control.tasks
  pub place : (record_at q t).place ≢ 0

-- A run of steps ended in an answer, after so many steps at the most. (So none of them was refused.)
pub record AnsweredWithin (most : ℕ) (d : SoloDone) : Type 0 where
  pub answered : ends_call d.outcome ≡ true
  pub within : d.steps ≤ most

-- After the list os, wherever it leaves the others: a busy task stepped alone, as often as its limit or more, answers within its limit.
abbrev pub SoloWithin : Queue → List Request → Type 0
SoloWithin q os =
    let now = final q os in
    (t n : ℕ) → Busy now t → let most = limit (is_pooled q.tables.control) (record_at now t).kind in
    most ≤ n → AnsweredWithin most (solo_run n now t)

-- After the list os: a stretch that holds so many accepted steps holds a call that takes effect or answers.
-- (Starts and refused operations may stand between them.)
abbrev pub StretchProgresses : Queue → List Request → Type 0
StretchProgresses q os =
    let now = final q os in
    let c = q.tables.control in
    (stretch : List Request) → stretch_limit (is_pooled c) c.tasks ≤ steps (run now stretch) → any took_effect_or_answered (run now stretch) ≡ true

abbrev pub SoloBound : Type 0
SoloBound = AfterOpening SoloWithin

abbrev pub StretchBound : Type 0
StretchBound = AfterOpening StretchProgresses
