-- The joining of two queues in a third. (Document 02, #113.)
use Rattle.std.specs.Prelude.{Err, Ok}
use mathlib.Core.{Bool.{Bool, true, false, ◌&&◌, ◌||◌, not, cond}, List.{List, [], ◌∷◌, ◌++◌, map}}
use Rattle.std.specs.Prelude.{ℕ, zero, suc, ◌+◌, ◌/◌}
use lib.{Dec.{ltb, eqb}, ListN.{length, get_or, replicate}}
use Rattle.word.specs.{declared.Anchor.Anchor, Anchor.anchor_of}
use Rattle.model.specs.Outcomes.{Outcome}
use Rattle.model.specs.declared.Op.TheVariants.{Push, Step}
use Rattle.model.specs.{Tables.{Queue, is_pooled}, Sound.control_sound, Report.busy, Sides.is_empty, Lists.every}
use Rattle.model.specs.{Walk.{contents, is_broken}, Refusals.{Rule, rule, first, records_fit}}
use Rattle.model.specs.History.{Request, Event, run, final}
use Rattle.stock_model.specs.Accounts.{waiting_labels}
use Rattle.join_model.specs.Merge.{merge}

abbrev pub anchor_in : Queue → Anchor
anchor_in q = anchor_of q.tables.control.anchor

-- At rest: no busy task, STABLE.
unfoldable pub at_rest : Queue → Bool
at_rest q = eqb (busy q) 0 && eqb (anchor_in q).status 0

-- The first n entries are zero.
abbrev pub blank : ℕ → List ℕ → Bool
blank zero l = true
blank (suc n) l = blank n l && eqb (get_or l n 0) 0

-- Fresh: named, empty, at rest, zero in rows 0 to slots and their whole mark words.
abbrev pub fresh_tests : Queue → List Bool
fresh_tests q =
    let slots = q.tables.control.slots in
    not (is_pooled q.tables.control)
    ∷ is_empty (anchor_in q)
    ∷ at_rest q
    ∷ blank (slots + 1) q.tables.lefts
    ∷ blank (slots + 1) q.tables.rights
    ∷ blank (slots + 1) q.tables.labels
    ∷ blank (slots / 64 + 1) q.tables.marks
    ∷ []

unfoldable pub fresh : Queue → Bool
fresh q = every (fresh_tests q)

-- The labels waiting in both queues, as the third receives them.
abbrev pub lanes : Queue → Queue → List ℕ
lanes a b = merge (waiting_labels a.tables) (waiting_labels b.tables)

-- The requests of task 0 that push a label at the right into slot k, alone: the start, and the steps to its answer, 2 on the empty queue, else 9.
abbrev pub push_alone : ℕ → ℕ → List Request
push_alone k label =
    record { task = 0; op = Push 1 k label } ∷ replicate (cond (eqb k 1) 2 9) (record { task = 0; op = Step })

-- Each label in turn, into slots k, k + 1 and so on.
abbrev pub pushes : ℕ → List ℕ → List Request
pushes k [] = []
pushes k (x ∷ l) = push_alone k x ++ pushes (suc k) l

abbrev pub outcomes : List Event → List Outcome
outcomes l = map (λ (e : Event). e.outcome) l

-- 33 if such a push would meet it.
abbrev pub is_late : Outcome → Bool
is_late (Err refusal) = eqb refusal.number 33
is_late (Ok a) = false

abbrev pub any_late : List Outcome → Bool
any_late [] = false
any_late (o ∷ l) = is_late o || any_late l

-- Of a source control, rows and records are lent, and nothing more counts.
abbrev pub source_tests : Queue → List Bool
source_tests q =
    let slots = q.tables.control.slots in
    ltb slots (length q.tables.lefts)
    ∷ ltb slots (length q.tables.rights)
    ∷ ltb slots (length q.tables.labels)
    ∷ records_fit q.tables.control.tasks q
    ∷ []

unfoldable pub source_fits : Queue → Bool
source_fits q = every (source_tests q)

-- The third has marks besides; a next table counts in a pooled queue alone, which 47 refuses.
unfoldable pub third_fits : Queue → Bool
third_fits q = source_fits q && ltb (q.tables.control.slots / 64) (length q.tables.marks)

-- 34 for all controls and Anchors, 12, 34 for the two walks, 47, 48; then 33.
abbrev pub rules_before33 : Queue → Queue → Queue → List Rule
rules_before33 a b q =
    rule 34 (not (control_sound a.tables.control))
    ∷ rule 34 (not (control_sound b.tables.control))
    ∷ rule 34 (not (control_sound q.tables.control))
    ∷ rule 12 (not (every (source_fits a ∷ source_fits b ∷ third_fits q ∷ [])))
    ∷ rule 34 (is_broken (contents a.tables))
    ∷ rule 34 (is_broken (contents b.tables))
    ∷ rule 47 (not (every (at_rest a ∷ at_rest b ∷ fresh q ∷ [])))
    ∷ rule 48 (ltb q.tables.control.slots (length (lanes a b)))
    ∷ []

abbrev pub join_rules : Queue → Queue → Queue → Bool → List Rule
join_rules a b q late = rules_before33 a b q ++ (rule 33 late ∷ [])

unfoldable pub join_refusal : Queue → Queue → Queue → ℕ
join_refusal a b q = first (join_rules a b q (any_late (outcomes (run q (pushes 1 (lanes a b))))))

-- What the joining answers, 0 or a refusal, and the third queue then: as if its task 0 had pushed each label in turn at the right, alone.
-- A refusal changes nothing. The two sources are only read.
pub record Joined : Type 0 where
  pub code : ℕ
  pub third : Queue

abbrev pub joined : ℕ → Queue → Queue → Joined
joined why q after = record { code = why; third = cond (eqb why 0) after q }

unfoldable pub join : Queue → Queue → Queue → Joined
join a b q = joined (join_refusal a b q) q (final q (pushes 1 (lanes a b)))

-- Labels were laid into the third: the joining is not refused, and there are some.
unfoldable pub laid : Queue → Queue → Queue → Bool
laid a b q = eqb (join_refusal a b q) 0 && not (eqb (length (lanes a b)) 0)
