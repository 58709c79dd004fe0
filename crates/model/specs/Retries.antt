-- The failed changes of each task, and of all together. (Request #101.)
use mathlib.Core.{Path.◌≡◌, Bool.{Bool, false, ◌&&◌}, List.{List, [], ◌∷◌}}
use Rattle.std.specs.Prelude.{ℕ, zero, suc, ◌+◌, ◌<◌, eqb}
use Rattle.model.specs.{declared.Op.{Op, TheVariants.{Push, Pop, PushPooled, Step}}, Places.{word_found, move}}
use Rattle.model.specs.{Tables.{Queue, task_at, record_at}, Route.counted, Calls.act, Refusals.{among, step_refusal}}
use Rattle.model.specs.History.{Request, final, AfterOpening}

-- A step that is carried out and whose change fails: at 2, 4, 9, 10, 14 or 17.
unfoldable pub fails : Queue → ℕ → Op → Bool
fails q t (Push side slot label) = false
fails q t (Pop side) = false
fails q t (PushPooled side label) = false
fails q t Step =
    let r = record_at q t in
    eqb (step_refusal q.tables (among q t) r) 0 && (move q.tables.control r (word_found q.tables r)).failed

-- The single count that control had: one for each of them, up to the ceiling.
unfoldable pub old_count : ℕ → Queue → List Request → ℕ
old_count n q [] = n
old_count n q (o ∷ os) = old_count (counted n (fails q o.task o.op)) (act q o.task o.op).queue os

-- The counts of the tasks below n, added up.
unfoldable pub retries_below : Queue → ℕ → ℕ
retries_below q zero = 0
retries_below q (suc n) = (task_at q n).retries + retries_below q n

-- From an opening on their sum is the old count, as long as that is below its ceiling.
abbrev pub SumIsOld : Queue → List Request → Type 0
SumIsOld q os =
    let now = final q os in
    old_count 0 q os < 4294967295 → retries_below now now.tables.control.tasks ≡ old_count 0 q os

abbrev pub RetriesSum : Type 0
RetriesSum = AfterOpening SumIsOld
