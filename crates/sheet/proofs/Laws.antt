-- The law of the square.
use mathlib.Core.{List.{List, []}, Path.{◌≡◌, sym, ap, ◌∙◌}}
use Prim.Native.Nat.{ℕ, suc}
use lib.ListN.{length, get_or}
use Rattle.sheet_model.specs.{Sheet.chained, Words.{mark, linked}}
use Rattle.sheet_model.proofs.{Laws.chained_exactly, ListOf.get_d_list_of, Words.marked-is}
use Rattle.sheet.specs.{Squares.square_of, Laws.SquareIsChained}
use Rattle.sheet.proofs.ByteRows.{bytes}

pub square_is_chained : SquareIsChained
unfolding square_of chained
square_is_chained s e a b f g =
    let row = linked s.rules (length s.listed) in
    let is : get_or (get_or (square_of row) a []) b 0 ≡ mark (chained s (suc a) (suc b)) =
    ap (λ (l : List ℕ). get_or l b 0) (get_d_list_of (λ i. bytes (row i)) 32 a [] f) ∙ get_d_list_of (λ i. mark (row a i)) 32 b 0 g in
    let c = chained_exactly s e (suc a) (suc b) in
    record { only = λ z. c.only (marked-is _ (sym is ∙ z)); all = λ z. is ∙ ap mark (c.all z) }
