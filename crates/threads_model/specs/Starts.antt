-- A start split at its touches of shared memory: `plan_start`, what its own numbers and record say that it does first; `settle_start`, what it comes to
-- once a touch has found a word: one more touch, or an outcome. Neither sees a shared table.
use mathlib.Core.{Bool.{Bool, false, not, cond}, List.{List, [], ◌∷◌}}
use Rattle.std.specs.Prelude.{ℕ, eqb, leb, ltb}
use Rattle.word.specs.Anchor.{anchor_of}
use Rattle.model.specs.Outcomes.{Moved, Outcome, Refused}
use Rattle.model.specs.declared.{Call.Call, Record.Record}
use Rattle.model.specs.{declared.Answer.TheVariants.Running, Tables.{with_call, started, asking}}
use Rattle.model.specs.{Sound.{from1, record_sound}, Refusals.{Rule, rule, first, is_busy}}
use Rattle.threads_model.specs.declared.{PlannedTouch.PlannedTouch, Start.Start}
use Rattle.threads_model.specs.Split.{plan_of, refuses, loads_anchor}

-- The three starts: a push that names a slot, a pop, a push that names none.
abbrev pub names : ℕ → ℕ → ℕ → Start
names side slot label = record { operation = 0; side = side; slot = slot; label = label }

abbrev pub pops : ℕ → Start
pops side = record { operation = 1; side = side; slot = 0; label = 0 }

abbrev pub puts : ℕ → ℕ → Start
puts side label = record { operation = 2; side = side; slot = 0; label = label }

abbrev pub is_named : Start → Bool
is_named s = eqb s.operation 0

abbrev pub is_plain_pop : Start → Bool
is_plain_pop s = eqb s.operation 1

-- PLAN. What a start is asked of its own numbers and record, before it looks at a shared word: 14, 41, 15, 34 and 30.
abbrev pub own_rules : ℕ → ℕ → Call → ℕ → Bool → Bool → List Rule
own_rules pooled slots r side wrong outside =
    rule 14 (not (leb side 1))
    ∷ rule 41 wrong
    ∷ rule 15 outside
    ∷ rule 34 (not (record_sound (eqb pooled 1) slots r))
    ∷ rule 30 (is_busy r)
    ∷ []

unfoldable pub own_refusal : ℕ → ℕ → Call → ℕ → Bool → Bool → ℕ
own_refusal pooled slots r side wrong outside = first (own_rules pooled slots r side wrong outside)

-- 41: the wrong kind of push for the queue. 15: no such slot.
abbrev pub wrong_push : ℕ → Start → Bool
wrong_push pooled s = cond (is_named s) (eqb pooled 1) (cond (is_plain_pop s) false (not (eqb pooled 1)))

abbrev pub outside : ℕ → Start → Bool
outside slots s = cond (is_named s) (not (from1 slots s.slot)) false

abbrev pub start_why : ℕ → ℕ → Call → Start → ℕ
start_why pooled slots r s = own_refusal pooled slots r s.side (wrong_push pooled s) (outside slots s)

-- Else it loads Anchor, for 33.
unfoldable pub plan_start : ℕ → ℕ → Call → Start → PlannedTouch
plan_start pooled slots r s =
    let why = start_why pooled slots r s in
    cond (eqb why 0) loads_anchor (refuses why)

-- Two touches besides those of steps. 12: set the mark of a slot; if it was clear, store the label. 13: read the mark. Found is 1 or 0.
abbrev pub takes_slot : ℕ → ℕ → PlannedTouch
takes_slot slot label = plan_of 12 0 slot 0 0 label

abbrev pub loads_mark : ℕ → PlannedTouch
loads_mark slot = plan_of 13 0 slot 0 0 0

-- SETTLE. The call that a start writes.
abbrev pub first_call : Start → Call
first_call s =
    cond (is_named s) (started 0 s.side s.slot s.label) (cond (is_plain_pop s) (started 1 s.side 0 0) (asking s.side s.label))

-- One more touch; or the record, and the outcome.
pub data Begins : Type 0 where
  touches : PlannedTouch → Begins
  answers : Record → Outcome → Begins

abbrev pub judged : Record → Start → ℕ → Begins
judged r s why =
    cond (eqb why 0) (answers (with_call r (first_call s)) (Moved (Running (first_call s).place))) (answers r (Refused why))

-- 33: the tag of the Anchor found is above 4,294,967,262.
abbrev pub late_word : ℕ → Bool
late_word w = ltb 4294967262 (anchor_of w).tag

-- Anchor found (1): a pop, and a push that names no slot, are refused 33 or carried out. A push that names a slot then takes it (12), or, since 32 comes
-- before 33, only looks at it (13). The mark found: 32 where it was set.
unfoldable pub settle_start : Record → Start → ℕ → ℕ → Begins
settle_start r s act w =
    cond (eqb act 1)
    (cond (is_named s) (touches (cond (late_word w) (loads_mark s.slot) (takes_slot s.slot s.label))) (judged r s (cond (late_word w) 33 0)))
    (judged r s (cond (eqb w 0) (cond (eqb act 12) 0 33) 32))
