-- What a sheet is answered. (Document 02, #111 and #112.)
use mathlib.Core.{Bool.{Bool, true, false, ◌&&◌, not, cond}, List.{List, [], ◌∷◌, ◌++◌, map}}
use Rattle.std.specs.Prelude.{ℕ, zero, suc, ◌+◌}
use lib.{Dec.{eqb, leb}, ListN.{length, drop}}
use Rattle.model.specs.{declared.Entry.Entry, Tables.Tables, Sound.{control_sound, rows_fit}}
use Rattle.model.specs.{Refusals.{Rule, rule, first}, Walk.{contents, is_broken, met}}
use Rattle.sheet_model.specs.{declared.SheetReply.SheetReply, Words.{linked, words_of}}
use Rattle.sheet_model.specs.Sheet.{Sheet, malformed, breaks}

-- What is answered: refused with a number, kept, or broken at a pair of places.
abbrev pub refused : ℕ → SheetReply
refused number = record { code = number; first = 0; second = 0 }

abbrev pub kept : SheetReply
kept = record { code = 0; first = 0; second = 0 }

abbrev pub broken_by : ℕ → ℕ → SheetReply
broken_by a b = record { code = 0; first = a; second = b }

-- Two places in the sheet.
pub record Pair : Type 0 where
  pub first : ℕ
  pub second : ℕ

-- n places from k on.
unfoldable pub places : ℕ → ℕ → List ℕ
places k zero = []
places k (suc n) = k ∷ places (k + 1) n

-- The pairs of such places, by first then second place.
unfoldable pub pairs : List ℕ → List ℕ → List Pair
pairs [] l = []
pairs (a ∷ k) l = map (λ (b : ℕ). record { first = a; second = b }) l ++ pairs k l

-- The first of them that is broken; kept where none is.
unfoldable pub first_broken : (ℕ → ℕ → Bool) → List Pair → SheetReply
first_broken broken [] = kept
first_broken broken (x ∷ l) = cond (broken x.first x.second) (broken_by x.first x.second) (first_broken broken l)

-- Kept, or the first broken pair, by first then second place in the sheet.
unfoldable pub verdict : Sheet → List Entry → SheetReply
verdict s l = let all = places 1 (length s.listed) in first_broken (breaks s l) (pairs all all)

-- 34 for control and Anchor, 46, 12, and 34 for the walk. Enough: the words that #112 lends. No next table is lent, so 12 looks at none.
abbrev pub sheet_rules : Tables → Sheet → Bool → List Rule
sheet_rules q s enough =
    rule 34 (not (control_sound q.control))
    ∷ rule 46 (malformed s)
    ∷ rule 12 (not (rows_fit false q.control.slots q && enough))
    ∷ rule 34 (is_broken (contents q))
    ∷ []

-- The first rule that applies refuses; else the queue's labels are judged.
unfoldable pub judge : Tables → Sheet → Bool → SheetReply
judge q s enough =
    let why = first (sheet_rules q s enough) in
    cond (eqb why 0) (verdict s (met (contents q))) (refused why)

-- The order sheet, #111.
unfoldable pub sheet : Tables → Sheet → SheetReply
sheet q s = judge q s true

-- The sheet on a smaller printer, #112: what it answers, and the lent words then.
pub record Printed : Type 0 where
  pub reply : SheetReply
  pub words : List ℕ

-- Kept or broken, the first 32 words hold the chained rules; a refusal leaves the words.
unfoldable pub sheet_words : Tables → Sheet → List ℕ → Printed
sheet_words q s words =
    let r = judge q s (leb 32 (length words)) in
    let n = length s.listed in
    record { reply = r; words = cond (eqb r.code 0) (words_of (linked s.rules n) ++ drop 32 words) words }
