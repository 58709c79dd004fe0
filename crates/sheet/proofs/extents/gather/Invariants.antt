-- With so many labels met: what comes of the positions noted along the rest of the walk is what the whole walk notes.
use Rattle.std.proofs.Common.{◌≡◌, true}
use Rattle.model.specs.Sound.{from1}
use Rattle.walk.{specs.{Ways.ahead, Over.over}, proofs.Along.comes}
use Rattle.sheet.specs.Extents.{begun, noted}
use Rattle.sheet.proofs.Turns.{position}
use Rattle.sheet.proofs.extents.gather.Given as goal

abbrev pub invariant-loop : goal.invariant-loop
invariant-loop l = record {
  on : from1 l.w.slots l.x ≡ true;
  place : l.at ≡ position l.w.rightward l.counter;
  notes : comes (noted l.w.rightward l.listed) l.w l.lefts l.rights l.labels l.counter (record { at = l.at; low = l.seen.low; high = l.seen.high }) l.x
      ≡ over (noted l.w.rightward l.listed) (begun l.w.rightward l.fn.seen) (ahead l.w l.lefts l.rights l.labels);
}
