-- Of the numbers that are not behind: those behind are of calls, none is listed twice, and they have their marks set.
use Rattle.std.proofs.Common.{◌≡◌, ◌++◌, true, length, ℕ, List}
use Rattle.std.specs.Slice.Iter.{iter_rest}
use Rattle.std.specs.Iterator.Adapters.{rev_source}
use Rattle.model.specs.Sound.{from1}
use Rattle.audit_model.specs.Audit.{differ}
use Rattle.audit.proofs.{Listed.Listed, Loops.passes}
use Rattle.audit.proofs.order.is_rearranged.Given as goal

pub record Behind (order : List ℕ) (n : ℕ) (rest : List ℕ) (listed : List ℕ) : Type 0 where
  pub behind : List ℕ
  pub parts : rest ++ behind ≡ order
  pub size : length listed ≡ 1
  pub pass : passes (from1 n) differ behind ≡ true
  pub marks : Listed listed behind

abbrev pub invariant-loop-k : goal.invariant-loop-k
invariant-loop-k l = Behind l.fn.order l.fn.n (iter_rest (rev_source l.k-iterator)) l.listed
