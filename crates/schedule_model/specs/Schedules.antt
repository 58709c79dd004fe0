-- Every order for two tasks. (Document 02, #107.)
use Rattle.std.specs.Prelude.{Err, Ok}
use mathlib.Core.{Bool.{Bool, ◌||◌, not, cond}, List.{List, [], ◌∷◌, ◌++◌, map}}
use Rattle.std.specs.Prelude.{ℕ, zero, suc}
use Rattle.model.specs.Outcomes.{Outcome}
use Rattle.model.specs.{declared.Op.TheVariants.Step, Calls.act}
use Rattle.model.specs.{Tables.{Queue, record_at}, Refusals.is_busy}

-- How a schedule ends, by the number that the caller reads: both calls answered, cut, its last step refused. There is none: no more.
abbrev pub answered_both : ℕ
answered_both = 0

abbrev pub was_cut : ℕ
was_cut = 1

abbrev pub was_refused : ℕ
was_refused = 2

abbrev pub said_no_more : ℕ
said_no_more = 3

-- The numbers of the tasks stepped, and how it ends.
pub record Schedule : Type 0 where
  pub steps : List ℕ
  pub ending : ℕ

-- A schedule with no more steps, that ends so.
abbrev pub ends : ℕ → Schedule
ends e = record { steps = []; ending = e }

-- A step of task t, and then the schedule s.
abbrev pub begun : ℕ → Schedule → Schedule
begun t s = record { steps = t ∷ s.steps; ending = s.ending }

-- A task still busy.
abbrev pub at_work : Queue → ℕ → Bool
at_work q t = is_busy (record_at q t)

abbrev pub both_answered : Queue → Bool
both_answered q = not (at_work q 0 || at_work q 1)

-- A step refused is the last; after any other come the schedules l of the queue that it left.
abbrev pub onwards : ℕ → Outcome → List Schedule → List Schedule
onwards t (Err refusal) l = begun t (ends was_refused) ∷ []
onwards t (Ok a) l = map (begun t) l

-- Those that begin with task t, if it is still busy.
abbrev pub through : Queue → ℕ → List Schedule → List Schedule
through q t l = cond (at_work q t) (onwards t (act q t Step).outcome l) []

-- The schedules of a queue with n steps to go, smallest first in dictionary order.
unfoldable pub schedules : Queue → ℕ → List Schedule
schedules q zero = ends (cond (both_answered q) answered_both was_cut) ∷ []
schedules q (suc n) =
    cond (both_answered q) (ends answered_both ∷ [])
    (through q 0 (schedules (act q 0 Step).queue n) ++ through q 1 (schedules (act q 1 Step).queue n))

-- With 48 steps to go, as document 02 counts them.
abbrev pub all_schedules : Queue → List Schedule
all_schedules q = schedules q 48
