-- The words zeroed, marked and joined are those of the chained rules.
use Rattle.std.proofs.Common.{◌≡◌, ap, ◌∙◌, List, ℕ, ◌++◌, ◌≤◌, length, drop, replicate}
use borrow.Author.Tests.{le-leb}
use Rattle.table.specs.Filling.{filling}
use Rattle.sheet.specs.Squares.{bit_row, rules_marked, rounds}
use Rattle.sheet.proofs.BitRows.{words-chained}
use Rattle.sheet.proofs.words.closure.Goals as goal

zeroed-all : (l : List ℕ) → 32 ≤ length l → filling 32 0 l ≡ replicate 32 0 ++ drop 32 l
unfolding filling
zeroed-all l h = rw (le-leb 32 (length l) h)

pub returns : goal.returns
returns c =
    let w = c.args.words.now in
    let l = c.args.rules.now in
    let n = c.args.n in
    c.join.ensures
    ∙ ap (rounds bit_row n 0 n) (c.mark.ensures ∙ ap (rules_marked bit_row l) (c.fill.ensures ∙ zeroed-all w c.requires.0))
    ∙ words-chained l n (drop 32 w) c.requires.1 c.requires.2
