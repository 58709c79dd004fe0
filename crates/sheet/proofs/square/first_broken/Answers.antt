-- The square that is searched is that of the chained rules.
use Rattle.std.proofs.Common.{ap, ◌∙◌, List, ℕ}
use Rattle.sheet.specs.{Squares.{byte_row, crossed, rounds}, Search.in_rows}
use Rattle.sheet.proofs.ByteRows.{square_chained}
use Rattle.sheet.proofs.square.first_broken.Goals as goal

pub returns : goal.returns
returns c =
    let a = c.args in
    let e = a.seen.now in
    c.first_broken.ensures
    ∙ ap (λ (s : List (List ℕ)). in_rows (crossed byte_row s e.low e.high) a.n 1 a.n)
    (c.join.ensures ∙ ap (rounds byte_row a.n 0 a.n) c.mark.ensures ∙ square_chained a.rules.now a.n c.requires.0 c.requires.1)
