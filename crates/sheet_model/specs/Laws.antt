-- What is promised of the sheets, beyond what each call answers. (Document 02, #111 and #112.)
use mathlib.Core.{Path.◌≡◌, Bool.{true, false, cond}, List.List, Logic.◌≢◌}
use Rattle.std.specs.Prelude.{ℕ, suc, ◌/◌, ◌%◌, ◌^◌, ◌≤◌, ◌<◌}
use lib.{Dec.leb, ListN.{length, get_or}}
use Rattle.model.specs.{declared.Entry.Entry, Tables.{Tables, Queue}, Standing.Standing, Walk.{contents, met}}
use Rattle.model.specs.History.{AfterOpening, final, ledger, run}
use Rattle.sheet_model.specs.{declared.SheetReply.SheetReply, Sheet.{Sheet, Chained, malformed, chained}}
use Rattle.sheet_model.specs.{Verdict.{kept, refused, verdict, sheet, sheet_words}, Pairs.{NoneBroken, Rightly}}

-- The test is passed exactly where place a is chained before place b.
pub record ChainedWhere (s : Sheet) (a b : ℕ) : Type 0 where
  pub only : chained s a b ≡ true → Chained s.rules a b
  pub all : Chained s.rules a b → chained s a b ≡ true

abbrev pub ChainedExactly : Type 0
ChainedExactly = (s : Sheet) → malformed s ≡ false → (a b : ℕ) → ChainedWhere s a b

-- A well-formed sheet is judged on the entries d by either call, the smaller printer's only with 32 words; 34 never occurs.
pub record JudgedOn (q : Tables) (d : List Entry) (s : Sheet) : Type 0 where
  pub bytes : sheet q s ≡ cond (malformed s) (refused 46) (verdict s d)
  pub words : (words : List ℕ)
      → (sheet_words q s words).reply ≡ cond (malformed s) (refused 46) (cond (leb 32 (length words)) (verdict s d) (refused 12))

-- Of a queue on which a call that walks may rely, as after a return to a shelf.
abbrev pub StandingSheets : Type 0
StandingSheets = (q : Queue) (d : List Entry) (s : Sheet) → Standing q d → JudgedOn q.tables d s

-- From an opening on it is judged on the sequential deque's queue.
abbrev pub SheetsOfQueues : Type 0
SheetsOfQueues = AfterOpening (λ q os. (s : Sheet) → JudgedOn (final q os).tables (ledger (run q os)).deque s)

-- With 32 words the smaller printer's answer is the byte square's.
abbrev pub SameAnswer : Type 0
SameAnswer = (q : Tables) (s : Sheet) (words : List ℕ) → 32 ≤ length words → (sheet_words q s words).reply ≡ sheet q s

-- A refusal leaves the lent words.
abbrev pub RefusalKeeps : Type 0
RefusalKeeps = (q : Tables) (s : Sheet) (words : List ℕ) → (sheet_words q s words).reply.code ≢ 0 → (sheet_words q s words).words ≡ words

-- A mark is 1 exactly when place a is chained before place b.
pub record MarkIsChained (m : ℕ) (rules : List ℕ) (a b : ℕ) : Type 0 where
  pub only : m ≡ 1 → Chained rules a b
  pub all : Chained rules a b → m ≡ 1

-- After kept or a broken pair, bit b of word a is set exactly when place a + 1 is chained before place b + 1.
abbrev pub BitsAreChained : Type 0
BitsAreChained = (q : Tables) (s : Sheet) (words : List ℕ) → (sheet_words q s words).reply.code ≡ 0 → (a b : ℕ) → a < 32 → b < 32
    → MarkIsChained (get_or (sheet_words q s words).words a 0 / 2 ^ b % 2) s.rules (suc a) (suc b)

-- The answer is right: of a well-formed sheet on any entries, and so where a call is not refused; and it is kept exactly where no pair is broken.
abbrev pub VerdictRight : Type 0
VerdictRight = (s : Sheet) (l : List Entry) → malformed s ≡ false → Rightly s l (verdict s l)

abbrev pub SheetRight : Type 0
SheetRight = (q : Tables) (s : Sheet) → (sheet q s).code ≡ 0 → Rightly s (met (contents q)) (sheet q s)

pub record KeptWhere (s : Sheet) (l : List Entry) (r : SheetReply) : Type 0 where
  pub only : r ≡ kept → NoneBroken s l
  pub all : NoneBroken s l → r ≡ kept

abbrev pub KeptExactly : Type 0
KeptExactly = (q : Tables) (s : Sheet) → (sheet q s).code ≡ 0 → KeptWhere s (met (contents q)) (sheet q s)
