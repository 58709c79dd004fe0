use Rattle.std.proofs.Common.{◌≤◌, set}
use Rattle.table.proofs.Stack.{Stacked}
use Rattle.table.proofs.fill_stack.Given as goal

-- The loop finds row 0 stored.
abbrev pub invariant-loop-i : goal.invariant-loop-i
invariant-loop-i l = (1 ≤ l.i) × ((l.i ≤ l.slots) × Stacked (set l.fn.t 0 0) l.slots l.t l.i)
