-- One call: the schedule after the one that the lent memory holds. (Document 02, #107.)
use mathlib.Core.{Bool.{Bool, true, false, ◌&&◌, ◌||◌, not, cond}, List.{List, [], ◌∷◌, ◌++◌}}
use Rattle.std.specs.Prelude.{ℕ}
use lib.{Dec.{ltb, leb, eqb}, ListN.{length, get_or, take, drop}, Seq.sets}
use Rattle.model.specs.{Tables.Queue, Report.waiting, Walk.{contents, is_broken}}
use Rattle.model.specs.Refusals.{Rule, rule, first, fits, records_fit, table_rules}
use Rattle.schedule_model.specs.declared.ScheduleReply.{ScheduleReply}
use Rattle.schedule_model.specs.Schedules.{Schedule, said_no_more, at_work, all_schedules}

-- Dictionary order.
unfoldable pub precedes : List ℕ → List ℕ → Bool
precedes g [] = false
precedes [] (t ∷ s) = true
precedes (u ∷ g) (t ∷ s) = ltb u t || (eqb u t && precedes g s)

pub data Next : Type 0 where
  given : Schedule → Next
  no_more : Next

-- The first of them after the list g.
unfoldable pub first_after : List ℕ → List Schedule → Next
first_after g [] = no_more
first_after g (s ∷ l) = cond (precedes g s.steps) (given s) (first_after g l)

-- The search memory holds the schedule handed out last: word 0 its length, taken as at most 48, then the numbers of its tasks.
abbrev pub memory_length : List ℕ → ℕ
memory_length ws = cond (leb (get_or ws 0 0) 48) (get_or ws 0 0) 48

unfoldable pub remembered : List ℕ → List ℕ
remembered ws = take (memory_length ws) (drop 1 ws)

-- Words beyond keep their values.
unfoldable pub storing : List ℕ → List ℕ → List ℕ
storing l ws = sets ws 0 (length l ∷ l)

-- 42: tasks not 2, one idle, or more than four labels waiting.
abbrev pub two_at_work : Queue → Bool
two_at_work q = eqb q.tables.control.tasks 2 && at_work q 0 && at_work q 1

abbrev pub schedule_rules : Queue → List ℕ → List Rule
schedule_rules q ws =
    let c = q.tables.control in
    table_rules c (fits q.tables && records_fit c.tasks q && leb 49 (length ws))
    ++ (rule 34 (is_broken (contents q.tables))
    ∷ rule 42 (not (two_at_work q && leb (waiting q.tables) 4))
    ∷ [])

unfoldable pub schedule_refusal : Queue → List ℕ → ℕ
schedule_refusal q ws = first (schedule_rules q ws)

-- What a call answers, and the memory after it. The queue is as before.
pub record Handed : Type 0 where
  pub reply : ScheduleReply
  pub memory : List ℕ

abbrev pub handing : List ℕ → Next → Handed
handing ws (given s) = record { reply = record { code = 0; ending = s.ending; length = length s.steps }; memory = storing s.steps ws }
handing ws no_more = record { reply = record { code = 0; ending = said_no_more; length = 0 }; memory = ws }

abbrev pub refused : List ℕ → ℕ → Handed
refused ws why = record { reply = record { code = why; ending = 0; length = 0 }; memory = ws }

unfoldable pub next_schedule : Queue → List ℕ → Handed
next_schedule q ws =
    let why = schedule_refusal q ws in
    cond (eqb why 0) (handing ws (first_after (remembered ws) (all_schedules q))) (refused ws why)
