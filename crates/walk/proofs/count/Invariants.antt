-- With n slots met, what comes of n along the rest of the walk is what the whole walk counts.
use Rattle.std.proofs.Common.{◌-◌, ℕ, List, ◌≡◌, true}
use Rattle.model.specs.Sound.{from1}
use Rattle.walk.specs.{Ways.ahead, Over.over}
use Rattle.walk.proofs.{Along.comes, Counting.one_more}
use Rattle.walk.proofs.count.Given as goal

abbrev pub invariant-loop-n : goal.invariant-loop-n
invariant-loop-n l = record {
  at : from1 l.w.slots l.x ≡ true;
  counts : (labels : List ℕ) → comes one_more l.w l.lefts l.rights labels l.n l.n l.x ≡ over one_more 0 (ahead l.w l.lefts l.rights labels);
}

abbrev pub decreases-loop-n : goal.decreases-loop-n
decreases-loop-n l = l.w.slots - l.n
