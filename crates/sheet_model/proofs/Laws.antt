-- The laws of the sheets.
use mathlib.Core.{Bool.{Bool, true, false, cond}, List.{List, ◌++◌}, Path.{◌≡◌, refl, sym, ap, subst, ◌∙◌}}
use Prim.Native.Nat.{ℕ, suc, ◌/◌, ◌%◌, ◌^◌, ◌<◌}
use native.Mathlib.Omega.{arith}
use lib.{Dec.{eqb, leb}, ListN.{length, get_or, drop, get_or-append}}
use borrow.Author.Tests.{le-leb, eq-eqb, ne_eqb, eqb-true}
use Rattle.model.specs.{declared.Entry.Entry, Tables.{Queue, Tables, is_pooled}, Standing.Standing, Walk.{contents, met}}
use Rattle.model.specs.{Sound.{row_tests, rows_fit}, Refusals.{first, records_fit}, Calls.open_as}
use Rattle.model.specs.History.{final, ledger, run}
use Rattle.model.proofs.{Tests.{Truth.{split, and-true}, Rules.{cleared, tests}}, Standing.standing}
use Rattle.sheet_model.specs.{Sheet.{Sheet, malformed, chained}, Words.{list_of, bits_of, linked, mark, words_of}}
use Rattle.sheet_model.specs.{Verdict.{refused, verdict, judge, sheet, sheet_rules, sheet_words}, Pairs.Rightly}
use Rattle.sheet_model.specs.Laws.{ChainedExactly, StandingSheets, SheetsOfQueues, SameAnswer, RefusalKeeps}
use Rattle.sheet_model.specs.Laws.{BitsAreChained, KeptExactly, SheetRight}
use Rattle.sheet_model.proofs.{Formed.formed, Words.{bit_at, marked-is}, Chained.{chained_of, chained_in}}
use Rattle.sheet_model.proofs.{Pairs.{kept-told, none_told, verdict-right}, ListOf.{length_list_of, get_d_list_of}}

pub chained_exactly : ChainedExactly
unfolding chained
chained_exactly s e a b = record {
  only = chained_of s.rules (length s.listed) a b;
  all = chained_in s.rules (length s.listed) (formed s e).inside a b;
}

-- By either call: enough words were lent or not.
judged : (q : Queue) (d : List Entry) (s : Sheet) (enough : Bool) → Standing q d
    → judge q.tables s enough ≡ cond (malformed s) (refused 46) (cond enough (verdict s d) (refused 12))
unfolding judge rows_fit
judged q d s enough h =
    let c = q.tables.control in
    let pooled = is_pooled c in
    let long = (and-true (rows_fit pooled c.slots q.tables) (records_fit c.tasks q) h.long).0 in
    let rows = tests (row_tests pooled c.slots q.tables) long in
    split (malformed s) (λ e. rw (h.control, e))
    (λ e. split enough
    (λ z. rw (h.control, e, z, rows.0, rows.1.0, rows.1.1.0, rows.1.1.1.0, h.walk))
    (λ z. rw (h.control, e, z, rows.0, rows.1.0, rows.1.1.0, rows.1.1.1.0)))

pub standing_sheets : StandingSheets
unfolding sheet sheet_words
standing_sheets q d s h = record { bytes = judged q d s true h; words = λ words. judged q d s (leb 32 (length words)) h }

pub sheets_of_queues : SheetsOfQueues
sheets_of_queues pooled q tasks slots tag e os s =
    let o = (open_as pooled q tasks slots tag).queue in
    standing_sheets (final o os) (ledger (run o os)).deque s (standing pooled q tasks slots tag e os)

pub same_answer : SameAnswer
unfolding sheet_words sheet
same_answer q s words h = ap (judge q s) (le-leb 32 (length words) h)

-- A call that is not refused has a well-formed sheet, and answers the verdict.
module _ (q : Tables) (s : Sheet) (enough : Bool) (e : (judge q s enough).code ≡ 0) where
  no-rule : first (sheet_rules q s enough) ≡ 0
  unfolding judge
  no-rule = split (eqb (first (sheet_rules q s enough)) 0) (λ z. eqb-true _ _ z)
      (λ z. let w : (refused (first (sheet_rules q s enough))).code ≡ 0 = rw z at e in w)

  well_formed_lem : malformed s ≡ false
  well_formed_lem = (cleared (sheet_rules q s enough) refl no-rule).1.0

  answers : judge q s enough ≡ verdict s (met (contents q))
  unfolding judge
  answers = rw no-rule

pub sheet-right : SheetRight
unfolding sheet
sheet-right q s e = subst (Rightly s (met (contents q))) (sym (answers q s true e)) (verdict-right s (met (contents q)) (well_formed_lem q s true e))

pub kept_exactly : KeptExactly
unfolding sheet
kept_exactly q s e =
    let form = well_formed_lem q s true e in
    let r = sheet-right q s e in
    record { only = none_told s (met (contents q)) form (sheet q s) r; all = kept-told s (met (contents q)) form (sheet q s) r }

-- By the test that the words are written under.
pub refusal-keeps : RefusalKeeps
unfolding sheet_words
refusal-keeps q s words h =
    let written = words_of (linked s.rules (length s.listed)) ++ drop 32 words in
    ap (λ (told : Bool). cond told written words) (ne_eqb _ 0 h)

bits_marked : (q : Tables) (s : Sheet) (words : List ℕ) → (sheet_words q s words).reply.code ≡ 0 → (a b : ℕ) → a < 32 → b < 32
    → get_or (sheet_words q s words).words a 0 / 2 ^ b % 2 ≡ mark (chained s (suc a) (suc b))
unfolding sheet_words words_of chained
bits_marked q s words e a b f g =
    let n = length s.listed in
    let rows = list_of (λ a. bits_of (linked s.rules n a) 32) 32 in
    rw (eq-eqb _ 0 e)
    (ap (λ (w : ℕ). w / 2 ^ b % 2)
    (get_or-append rows (drop 32 words) 0 a (omega (arith, length_list_of (λ a. bits_of (linked s.rules n a) 32) 32))
    ∙ get_d_list_of (λ a. bits_of (linked s.rules n a) 32) 32 a 0 f)
    ∙ bit_at 32 (linked s.rules n a) b g)

pub bits_are_chained : BitsAreChained
unfolding sheet_words
bits_are_chained q s words e a b f g =
    let is = bits_marked q s words e a b f g in
    let c = chained_exactly s (well_formed_lem q s (leb 32 (length words)) e) (suc a) (suc b) in
    record { only = λ z. c.only (marked-is _ (sym is ∙ z)); all = λ z. is ∙ ap mark (c.all z) }
