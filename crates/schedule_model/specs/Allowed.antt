-- Which schedules the tables allow, of any list of tasks. (Document 02, #107.)
use Rattle.std.specs.Prelude.{Err, Ok}
use mathlib.Core.{Path.◌≡◌, Bool.{Bool, true, false, ◌||◌, cond}, List.{List, [], ◌∷◌, ◌++◌, Memᴰ}}
use Rattle.std.specs.Prelude.{ℕ, ◌<◌}
use lib.{Dec.eqb, ListN.length}
use Rattle.model.specs.Outcomes.{Outcome}
use Rattle.model.specs.{declared.Op.TheVariants.Step, Tables.Queue}
use Rattle.model.specs.{Calls.act, History.{Request, final}}
use Rattle.schedule_model.specs.Schedules.{Schedule, answered_both, was_cut, was_refused, at_work, both_answered}
use Rattle.schedule_model.specs.Schedules.{all_schedules}

-- A step of each task of a list, and the queue after them.
abbrev pub tries : List ℕ → List Request
tries [] = []
tries (t ∷ ts) = record { task = t; op = Step } ∷ tries ts

abbrev pub after : Queue → List ℕ → Queue
after q ts = final q (tries ts)

abbrev pub is_refused : Outcome → Bool
is_refused (Err refusal) = true
is_refused (Ok a) = false

-- The last of these steps is refused.
unfoldable pub last_refused : Queue → List ℕ → Bool
last_refused q [] = false
last_refused q (t ∷ []) = is_refused (act q t Step).outcome
last_refused q (t ∷ u ∷ ts) = last_refused (act q t Step).queue (u ∷ ts)

-- A schedule ends when both calls are answered, after n steps, or at a refused step.
unfoldable pub has_ended : ℕ → Queue → List ℕ → Bool
has_ended n q ts = last_refused q ts || both_answered (after q ts) || eqb (length ts) n

-- Its mark; a last step that is refused is marked so, even as the n-th.
unfoldable pub ending_of : Queue → List ℕ → ℕ
ending_of q ts = cond (last_refused q ts) was_refused (cond (both_answered (after q ts)) answered_both was_cut)

-- A schedule that is cut after n steps: each of its steps is of a task then still busy, it has not ended before the step, and with the
-- last of them it has ended.
pub record Allowed (n : ℕ) (q : Queue) (s : Schedule) : Type 0 where
  pub busy : (before : List ℕ) (t : ℕ) (rest : List ℕ) → s.steps ≡ before ++ (t ∷ rest) → (t < 2) × (at_work (after q before) t ≡ true)
  pub goes_on : (before : List ℕ) (t : ℕ) (rest : List ℕ) → s.steps ≡ before ++ (t ∷ rest) → has_ended n q before ≡ false
  pub ended : has_ended n q s.steps ≡ true
  pub ending : s.ending ≡ ending_of q s.steps

-- The schedules handed out are those that are allowed, cut after 48 steps, and none besides.
abbrev pub OnlyAllowed : Type 0
OnlyAllowed = (q : Queue) (s : Schedule) → Memᴰ s (all_schedules q) → Allowed 48 q s

abbrev pub EveryAllowed : Type 0
EveryAllowed = (q : Queue) (s : Schedule) → Allowed 48 q s → Memᴰ s (all_schedules q)
