-- The step at one place, once all that is tested before the place has passed.
use mathlib.Core.{Path.◌≡◌, Bool.cond, List.List}
use Rattle.std.specs.Prelude.{ℕ}
use Rattle.model.specs.{declared.{Control.Control, Call.Call, Transition.Transition}, Places.{word_found, move}}
use Rattle.model.specs.{Tables.{Tables, at_place, tables_of}, Refusals.step_sound, Calls.{Acted, decide, finish}}
use Rattle.table.specs.Lent.{with_tables}

-- 34 for what place n touches, else what it does, for a task with so many retries.
unfoldable pub step_at : ℕ → Tables → Call → ℕ → Acted
step_at n q r retries =
    let s = at_place r n in
    let w = word_found q s in
    decide (cond (step_sound q.control s w) 0 34) q (record { call = r; retries = retries })
    (finish q (record { call = s; retries = retries }) (move q.control s w))

-- A function carries out the step at place n, whatever the tables hold that it is not lent: none, the links, labels and marks, the next table.
abbrev pub Steps : ℕ → Control → Call → Transition → Type 0
Steps n c r m =
    (lefts rights labels marks next : List ℕ) (retries : ℕ)
    → with_tables m lefts rights labels marks next retries ≡ step_at n (tables_of c lefts rights labels marks next) r retries

abbrev pub StepsOnLinks : ℕ → Control → Call → List ℕ → List ℕ → Transition → List ℕ → List ℕ → Type 0
StepsOnLinks n c r lefts rights m lefts' rights' =
    (labels marks next : List ℕ) (retries : ℕ)
    → with_tables m lefts' rights' labels marks next retries ≡ step_at n (tables_of c lefts rights labels marks next) r retries

abbrev pub StepsOnMarks : ℕ → Control → Call → List ℕ → List ℕ → Transition → List ℕ → List ℕ → Type 0
StepsOnMarks n c r labels marks m labels' marks' =
    (lefts rights next : List ℕ) (retries : ℕ)
    → with_tables m lefts rights labels' marks' next retries ≡ step_at n (tables_of c lefts rights labels marks next) r retries

abbrev pub StepsOnNext : ℕ → Control → Call → List ℕ → Transition → List ℕ → Type 0
StepsOnNext n c r next m next' =
    (lefts rights labels marks : List ℕ) (retries : ℕ)
    → with_tables m lefts rights labels marks next' retries ≡ step_at n (tables_of c lefts rights labels marks next) r retries
