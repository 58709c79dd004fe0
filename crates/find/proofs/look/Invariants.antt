-- With n slots met: what comes of the positions noted along the rest of the walk is what the whole walk notes.
use Rattle.std.proofs.Common.{◌≡◌, true}
use Rattle.model.specs.Sound.{from1}
use Rattle.walk.{specs.{Ways.ahead, Over.over}, proofs.Along.comes}
use Rattle.find.specs.{Sieve.Ready, Looked.note_on}
use Rattle.find.proofs.Searching.{with}
use Rattle.find.proofs.look.Given as goal

abbrev pub invariant-loop-n : goal.invariant-loop-n
invariant-loop-n l = record {
  at : from1 l.w.slots l.x ≡ true;
  ready : Ready l.n l.wanted l.sieve;
  notes : comes (note_on l.w.rightward l.wanted) l.w l.lefts l.rights l.labels l.n (with l.n l.positions) l.x
      ≡ over (note_on l.w.rightward l.wanted) (with 0 l.fn.positions) (ahead l.w l.lefts l.rights l.labels);
}
