-- The smaller printer's answer and words, from what the call does.
use mathlib.Core.{Bool.{Bool, true, false, cond}, List.{List, ◌++◌}, Path.{◌≡◌, refl, sym, ap, ◌∙◌}}
use Prim.Native.Nat.{ℕ, zero, suc, ◌+◌}
use lib.{Dec.{eqb, leb}, ListN.{length, drop}}
use borrow.Author.Tests.{eq-eqb, ne_eqb}
use Rattle.model.specs.Tables.{Tables}
use Rattle.sheet_model.specs.{declared.SheetReply.SheetReply, Sheet.Sheet, Words.{linked, words_of}}
use Rattle.sheet_model.specs.Verdict.{broken_by, judge, Printed, sheet_words}
use Rattle.sheet.specs.Search.{in_row, in_rows}

row-code : (p : ℕ → ℕ → Bool) (a b n : ℕ) (o : SheetReply) → o.code ≡ 0 → (in_row p a b n o).code ≡ 0
unfolding in_row
row-code p a b zero o h = h
row-code p a b (suc n) o h = go (p a b) (row-code p a (b + 1) n o h)
  where
    go : (t : Bool) → (in_row p a (b + 1) n o).code ≡ 0 → (cond t (broken_by a b) (in_row p a (b + 1) n o)).code ≡ 0
    go true ih = refl
    go false ih = ih

-- A verdict is no refusal.
pub rows_code : (p : ℕ → ℕ → Bool) (m a n : ℕ) → (in_rows p m a n).code ≡ 0
unfolding in_rows
rows_code p m a zero = refl
rows_code p m a (suc n) = row-code p a 1 m (in_rows p m (a + 1) n) (rows_code p m (a + 1) n)

module _ (q : Tables) (s : Sheet) (words : List ℕ) where
  abbrev answer : SheetReply
  answer = judge q s (leb 32 (length words))

  abbrev filled : List ℕ
  filled = words_of (linked s.rules (length s.listed)) ++ drop 32 words

  abbrev printed : SheetReply → List ℕ → Printed
  printed r ws = record { reply = r; words = ws }

  pub printed-refused : (r : SheetReply) → r ≡ answer → (r.code ≡ 0 → ⊥) → printed r words ≡ sheet_words q s words
  unfolding sheet_words
  printed-refused r e h =
      λ i. printed (e i) (sym (ap (λ b. cond b filled words) (ap (λ (x : SheetReply). eqb x.code 0) (sym e) ∙ ne_eqb r.code 0 h)) i)

  pub printed-told : (r : SheetReply) (ws : List ℕ) → r ≡ answer → r.code ≡ 0 → ws ≡ filled → printed r ws ≡ sheet_words q s words
  unfolding sheet_words
  printed-told r ws e h f =
      λ i. printed (e i) ((f ∙ sym (ap (λ b. cond b filled words) (ap (λ (x : SheetReply). eqb x.code 0) (sym e) ∙ eq-eqb r.code 0 h))) i)
