-- Why a call is refused: the first number that applies. (Document 01: Refused .., and their order.)
use mathlib.Core.{Bool.{Bool, true, false, ◌&&◌, ◌||◌, not, cond}, List.{List, [], ◌∷◌, ◌++◌}}
use Rattle.std.specs.Prelude.{ℕ}
use lib.{Dec.{ltb, leb, eqb}, ListN.length}
use Rattle.word.specs.{Anchor.anchor_of, Link.link_of}
use Rattle.model.specs.{declared.{Control.Control, Call.Call, Asked.Asked}, Walk.{contents, is_broken}}
use Rattle.model.specs.{Tables.{Tables, Queue, is_pooled, marked}, Places.{set_head, move}, Lists.every}
use Rattle.model.specs.Sound.{from1, anchor_sound, link_sound, control_sound, record_sound, rows_fit}
use Rattle.model.specs.Places.{row, word_found, Touch, nothing, set_anchor, set_link, clear_mark, take_slot, set_next}

-- A test with its number.
pub record Rule : Type 0 where
  pub applies : Bool
  pub number : ℕ

abbrev pub rule : ℕ → Bool → Rule
rule n b = record { applies = b; number = n }

-- The number of the first rule that applies; 0: none does.
abbrev pub first : List Rule → ℕ
first [] = 0
first (r ∷ l) = cond r.applies r.number (first l)

-- 16: the run file is malformed. It is asked of the file, before any call.
abbrev pub malformed : ℕ
malformed = 16

-- As many records as tasks.
abbrev pub records_fit : ℕ → Queue → Bool
records_fit tasks q = leb tasks (length q.records)

-- When opening: 10, 11, 12. Fit: every table is long enough.
abbrev pub opening_rules : ℕ → ℕ → Bool → List Rule
opening_rules tasks slots fit = rule 10 (not (from1 16 tasks)) ∷ rule 11 (not (from1 1023 slots)) ∷ rule 12 (not fit) ∷ []

-- A pooled queue, or a named one.
abbrev pub open_rules : Bool → Queue → ℕ → ℕ → List Rule
open_rules pooled q tasks slots = opening_rules tasks slots (rows_fit pooled slots q.tables && records_fit tasks q)

unfoldable pub open_refusal : Bool → Queue → ℕ → ℕ → ℕ
open_refusal pooled q tasks slots = first (open_rules pooled q tasks slots)

-- What 12 and 13 see of the records: they are as many as the tasks, and the task is one of these.
pub record Lent : Type 0 where
  pub enough : Bool
  pub known : Bool

-- Task t among the records; and a record lent alone, where 13 can't occur and 12 looks at no records.
abbrev pub among : Queue → ℕ → Lent
among q t = record { enough = records_fit q.tables.control.tasks q; known = ltb t q.tables.control.tasks }

abbrev pub alone : Lent
alone = record { enough = true; known = true }

-- 30: the task is busy.
abbrev pub is_busy : Call → Bool
is_busy r = not (eqb r.place 0)

-- 33: the Anchor tag is above 4,294,967,262.
abbrev pub late : Control → Bool
late c = ltb 4294967262 (anchor_of c.anchor).tag

-- What the starts, the steps, the report, the schedules and the labels written out are asked first: 34 for control and Anchor, 12. Fit: the
-- tables are long enough.
abbrev pub table_rules : Control → Bool → List Rule
table_rules c fit = rule 34 (not (control_sound c)) ∷ rule 12 (not fit) ∷ []

-- Then 13: what is asked before the task's record is looked at.
abbrev pub admission_rules : Control → Bool → Lent → List Rule
admission_rules c fit p = table_rules c (fit && p.enough) ++ (rule 13 (not p.known) ∷ [])

unfoldable pub admission : Control → Bool → Lent → ℕ
admission c fit p = first (admission_rules c fit p)

-- The rows are long enough for the queue's own slots.
abbrev pub fits : Tables → Bool
fits q = rows_fit (is_pooled q.control) q.control.slots q

-- Then a start's, in the document's order; 41, 15 and 32 are what a push alone is asked (`Asked`).
abbrev pub asked_rules : Control → Call → ℕ → Asked → List Rule
asked_rules c r side a =
    rule 14 (not (leb side 1))
    ∷ rule 41 a.wrong
    ∷ rule 15 a.outside
    ∷ rule 34 (not (record_sound (is_pooled c) c.slots r))
    ∷ rule 30 (is_busy r)
    ∷ rule 32 a.taken
    ∷ rule 33 (late c)
    ∷ []

abbrev pub start_rules : Control → Bool → Lent → Call → ℕ → Asked → List Rule
start_rules c fit p r side a = admission_rules c fit p ++ asked_rules c r side a

unfoldable pub start_refusal : Control → Bool → Lent → Call → ℕ → Asked → ℕ
start_refusal c fit p r side a = first (start_rules c fit p r side a)

-- A push that names a slot; one that names none, which has neither 15 nor 32 and does not look at the head; a pop.
abbrev pub named_push : Tables → ℕ → Asked
named_push q slot =
    record { wrong = is_pooled q.control; outside = not (from1 q.control.slots slot); taken = marked q.marks slot }

abbrev pub pooled_push : Tables → Asked
pooled_push q = record { wrong = not (is_pooled q.control); outside = false; taken = false }

abbrev pub nothing_asked : Asked
nothing_asked = record { wrong = false; outside = false; taken = false }

abbrev pub push_refusal : Tables → Lent → Call → ℕ → ℕ → ℕ
push_refusal q p r side slot = start_refusal q.control (fits q) p r side (named_push q slot)

abbrev pub push_pooled_refusal : Tables → Lent → Call → ℕ → ℕ
push_pooled_refusal q p r side = start_refusal q.control (fits q) p r side (pooled_push q)

abbrev pub pop_refusal : Tables → Lent → Call → ℕ → ℕ
pop_refusal q p r side = start_refusal q.control (fits q) p r side nothing_asked

-- 34 for what the step touches. It needs a slot row at 3, 5, 7, 9 and 11, and looks at a link word's soundness at 3, 5 and 7.
abbrev pub needs_row : Call → Bool
needs_row r = eqb r.place 3 || eqb r.place 5 || eqb r.place 7 || eqb r.place 9 || eqb r.place 11

abbrev pub meets_link : Call → Bool
meets_link r = eqb r.place 3 || eqb r.place 5 || eqb r.place 7

-- It looks at the head's soundness at 12 and 15, and at a next slot at 13.
abbrev pub meets_head : Call → Bool
meets_head r = eqb r.place 12 || eqb r.place 15

-- A change leaves Anchor sound.
abbrev pub leaves_sound : ℕ → Touch → Bool
leaves_sound slots nothing = true
leaves_sound slots (set_anchor w) = anchor_sound slots (anchor_of w)
leaves_sound slots (set_link side x w) = true
leaves_sound slots (clear_mark x) = true
leaves_sound slots (take_slot w x l) = true
leaves_sound slots (set_next x v) = true
leaves_sound slots (set_head w) = true

-- A change raises no tag past 32 bits; place 3 raises none.
abbrev pub has_room : Call → Touch → Bool
has_room r nothing = true
has_room r (set_anchor w) = ltb (anchor_of r.seen).tag 4294967295
has_room r (set_link side x w) = eqb r.place 3 || ltb (link_of r.link).tag 4294967295
has_room r (clear_mark x) = true
has_room r (take_slot w x l) = ltb (link_of r.link).tag 4294967295
has_room r (set_next x v) = true
has_room r (set_head w) = ltb (link_of r.link).tag 4294967295

abbrev pub step_tests : Control → Call → ℕ → List Bool
step_tests c r w =
    (not (needs_row r) || from1 c.slots (row r))
    ∷ (not (meets_link r) || link_sound c.slots w)
    ∷ leaves_sound c.slots (move c r w).touch
    ∷ has_room r (move c r w).touch
    ∷ (not (meets_head r) || link_sound c.slots c.head)
    ∷ (not (eqb r.place 13) || leb w c.slots)
    ∷ []

unfoldable pub step_sound : Control → Call → ℕ → Bool
step_sound c r w = every (step_tests c r w)

-- A step's: 34 and 31 for the record, then 34 for what it touches.
abbrev pub record_rules : Bool → ℕ → Call → List Rule
record_rules pooled slots r = rule 34 (not (record_sound pooled slots r)) ∷ rule 31 (eqb r.place 0) ∷ []

unfoldable pub record_refusal : Bool → ℕ → Call → ℕ
record_refusal pooled slots r = first (record_rules pooled slots r)

abbrev pub step_rules : Tables → Lent → Call → List Rule
step_rules q p r =
    admission_rules q.control (fits q) p
    ++ (record_rules (is_pooled q.control) q.control.slots r ++ (rule 34 (not (step_sound q.control r (word_found q r))) ∷ []))

unfoldable pub step_refusal : Tables → Lent → Call → ℕ
step_refusal q p r = first (step_rules q p r)

-- The report names no task and no slot; 34 for the walk comes last.
abbrev pub report_rules : Tables → Bool → List Rule
report_rules q enough = table_rules q.control (fits q && enough) ++ (rule 34 (is_broken (contents q)) ∷ [])

unfoldable pub report_refusal : Tables → Bool → ℕ
report_refusal q enough = first (report_rules q enough)
