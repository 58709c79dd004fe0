-- Rows and records item by item; and what is done with a record lent alone, as the meaning has it.
use mathlib.Core.{Path.{◌≡◌, refl, ap, ◌∙◌}, List.{List, [], ◌∷◌}}
use Prim.Native.Nat.{ℕ, suc, ◌<◌}
use native.Mathlib.Omega.{arith}
use lib.ListN.{length, get_or, set}
use Rattle.model.specs.{declared.Record.Record, LentSteps.{take_turn, lent}}
use Rattle.model.specs.{Tables.{Queue, unused}, Calls.{Acted, Done, back, step_lent}}
use Rattle.layout.specs.Rows.{record_of, records_of}

pub records_at : (rows : List (List ℕ)) (rs : List Record) → length rows ≡ length rs
    → ((i : ℕ) → i < length rs → record_of (get_or rows i []) ≡ get_or rs i unused) → records_of rows ≡ rs
unfolding records_of
records_at [] [] e h = refl
records_at [] (r ∷ rs) e h = absurd (omega (arith, e))
records_at (w ∷ rows) [] e h = absurd (omega (arith, e))
records_at (w ∷ rows) (r ∷ rs) e h =
    λ i. h 0 (omega arith) i ∷ records_at rows rs (omega (arith, e)) (λ k l. h (suc k) (omega (arith, l))) i

pub lent_back : (q : Queue) (t : Record) (a : Acted) (rs : List Record) → t ≡ get_or q.records 1 unused → a ≡ step_lent q.tables t
    → rs ≡ set q.records 1 a.task
    → ◌≡◌ {A = Done} (record { queue = record { tables = a.tables; records = rs }; outcome = a.outcome }) (take_turn q (lent 1))
unfolding take_turn
lent_back q t a rs et e er =
    ap (λ (l : List Record). record { queue = record { tables = a.tables; records = l }; outcome = a.outcome }) er
    ∙ ap (back q 1) (e ∙ ap (step_lent q.tables) et)
