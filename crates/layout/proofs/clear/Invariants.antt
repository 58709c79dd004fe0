use Rattle.std.proofs.Common.{◌≡◌, length}
use Rattle.model.specs.{Tables.unused, Lists.zeroed}
use Rattle.layout.specs.Rows.{records_of, uppers_of}
use Rattle.layout.proofs.clear.Given as goal

-- The rows below i are zero, the others as before.
abbrev pub invariant-loop-i : goal.invariant-loop-i
invariant-loop-i l =
    (length l.rows ≡ length l.fn.rows)
    × (records_of l.rows ≡ zeroed l.i unused (records_of l.fn.rows)) × (uppers_of l.rows ≡ zeroed l.i 0 (uppers_of l.fn.rows))
