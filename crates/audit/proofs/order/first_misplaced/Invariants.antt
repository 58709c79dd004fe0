-- Of the numbers that are not behind: the least answer event of those behind, and the first of them that stands too early.
use Rattle.std.proofs.Common.{◌≡◌, ◌+◌, ◌++◌, length, ℕ, List}
use Rattle.std.specs.Slice.Iter.{iter_rest}
use Rattle.std.specs.Iterator.Adapters.{enumerate_count, enumerate_source, rev_source}
use Rattle.audit_model.specs.{Audit.in_order, LentHistory.calls_in}
use Rattle.audit.specs.FirstMisplaced.{first_misplaced}
use Rattle.audit.proofs.Misplaced.{least_end}
use Rattle.audit.proofs.order.first_misplaced.Given as goal

pub record Behind (words order : List ℕ) (rest : List ℕ) (count least first : ℕ) : Type 0 where
  pub behind : List ℕ
  pub parts : rest ++ behind ≡ order
  pub from_zero : count ≡ 0
  pub least_is : least ≡ least_end (in_order (calls_in words) behind)
  pub first_is : first ≡ length rest + first_misplaced (in_order (calls_in words) behind)

abbrev pub invariant-loop-i : goal.invariant-loop-i
invariant-loop-i l =
    let it = rev_source l.i-iterator in
    Behind l.fn.words l.fn.order (iter_rest (enumerate_source it)) (enumerate_count it) l.least l.first
