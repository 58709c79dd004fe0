-- With i slots stored: what is still to be stored, beside what is, comes to what the call owes.
use Rattle.std.proofs.Common.{◌≡◌, ◌-◌}
use Rattle.waiting.specs.{Waiting.{slots_of, labels_of}, Laid.{Inside, trail, laid}}
use Rattle.waiting.proofs.lay.Given as goal

abbrev pub invariant-loop-i : goal.invariant-loop-i
invariant-loop-i l = record {
  inside : Inside l.w.slots (trail l.links l.labels (l.n - l.i) l.x);
  owed : laid l.w.rightward l.n l.i (slots_of (trail l.links l.labels (l.n - l.i) l.x)) l.slots
      ≡ laid l.w.rightward l.n 0 (slots_of (trail l.links l.labels l.n l.w.first)) l.fn.slots;
  due : laid l.w.rightward l.n l.i (labels_of (trail l.links l.labels (l.n - l.i) l.x)) l.copies
      ≡ laid l.w.rightward l.n 0 (labels_of (trail l.links l.labels l.n l.w.first)) l.fn.copies;
}
