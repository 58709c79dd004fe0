-- The labels waiting and their slots, from left to right, in two lent tables. (Document 01: Labels waiting, in order; document 02, #102.)
use mathlib.Core.{Path.◌≡◌, Bool.{Bool, false, ◌||◌, cond}, List.{List, [], ◌∷◌, ◌++◌, map}}
use Rattle.std.specs.Prelude.{ℕ}
use lib.{Dec.{ltb, eqb}, ListN.{length, drop}}
use Rattle.model.specs.{declared.Entry.Entry, Tables.{Tables, Queue}, Sound.rows_fit, Report.waiting, Standing.Standing}
use Rattle.model.specs.{Walk.{contents, is_broken, met, Walk, entries, broken}, Refusals.{Rule, rule, first, table_rules}}
use Rattle.model.specs.History.{AfterOpening, final, ledger, run}
use Rattle.waiting.specs.declared.WaitingReply.{WaitingReply}

-- The slots of some entries, and their labels.
abbrev pub slots_of : List Entry → List ℕ
slots_of l = map (λ (e : Entry). e.slot) l

abbrev pub labels_of : List Entry → List ℕ
labels_of l = map (λ (e : Entry). e.label) l

-- Some numbers written over the first entries of a table; those beyond keep.
abbrev pub onto : List ℕ → List ℕ → List ℕ
onto xs t = xs ++ drop (length xs) t

-- What is answered, and what the two tables then hold.
pub record Written : Type 0 where
  pub reply : WaitingReply
  pub slots : List ℕ
  pub labels : List ℕ

abbrev pub refused : ℕ → WaitingReply
refused n = record { code = n; count = 0 }

-- A refusal is its number alone.
abbrev pub kept : ℕ → List ℕ → List ℕ → Written
kept why slots labels = record { reply = refused why; slots = slots; labels = labels }

abbrev pub written : List Entry → List ℕ → List ℕ → Written
written l slots labels = record {
  reply = record { code = 0; count = length l };
  slots = onto (slots_of l) slots;
  labels = onto (labels_of l) labels;
}

-- One of the two tables is too short for so many.
abbrev pub too_short : ℕ → List ℕ → List ℕ → Bool
too_short n slots labels = ltb (length slots) n || ltb (length labels) n

-- What comes of a walk: 34, 12, or its entries written.
abbrev pub written_out : Walk → List ℕ → List ℕ → Written
written_out (entries l) slots labels = cond (too_short (length l) slots labels) (kept 12 slots labels) (written l slots labels)
written_out broken slots labels = kept 34 slots labels

-- As the report: 34 for control and Anchor, 12, 34 for the walk; then 12 for the two tables.
-- No records and no next table are lent, so 12 looks at neither.
abbrev pub waiting_rules : Tables → List ℕ → List ℕ → List Rule
waiting_rules q slots labels =
    table_rules q.control (rows_fit false q.control.slots q)
    ++ (rule 34 (is_broken (contents q)) ∷ rule 12 (too_short (waiting q) slots labels) ∷ [])

unfoldable pub waiting_refusal : Tables → List ℕ → List ℕ → ℕ
waiting_refusal q slots labels = first (waiting_rules q slots labels)

unfoldable pub read_out : Tables → List ℕ → List ℕ → Written
read_out q slots labels =
    let why = waiting_refusal q slots labels in
    cond (eqb why 0) (written (met (contents q)) slots labels) (kept why slots labels)

-- Of a queue on which a call that walks may rely, as after a return to a shelf: never 34, and its entries are written; 12 where a table is too
-- short for them.
abbrev pub StandingReadsOut : Type 0
StandingReadsOut = (q : Queue) (d : List Entry) → Standing q d → (slots labels : List ℕ)
    → read_out q.tables slots labels ≡ cond (too_short (length d) slots labels) (kept 12 slots labels) (written d slots labels)

-- After any list following an opening these are the sequential deque's queue.
abbrev pub ReadsOut : Type 0
ReadsOut =
    AfterOpening (λ q os. (slots labels : List ℕ)
    → read_out (final q os).tables slots labels
    ≡ cond (too_short (length (ledger (run q os)).deque) slots labels) (kept 12 slots labels) (written (ledger (run q os)).deque slots labels))
