-- The first broken pair as the code searches for it: row by row.
use Rattle.std.specs.Prelude.{Bool, cond, ℕ, zero, suc, ◌+◌}
use Rattle.sheet_model.specs.{declared.SheetReply.SheetReply, Verdict.{broken_by, kept}}

-- The first broken pair with first place a and one of n second places from b on; else another answer.
unfoldable pub in_row : (ℕ → ℕ → Bool) → ℕ → ℕ → ℕ → SheetReply → SheetReply
in_row p a b zero other = other
in_row p a b (suc n) other = cond (p a b) (broken_by a b) (in_row p a (b + 1) n other)

-- The same among n first places from a on, each with m second places from 1 on.
unfoldable pub in_rows : (ℕ → ℕ → Bool) → ℕ → ℕ → ℕ → SheetReply
in_rows p m a zero = kept
in_rows p m a (suc n) = in_row p a 1 m (in_rows p m (a + 1) n)
