-- What is left of the pages leads from here to where all of them lead from the first byte. What is left of the bytes falls.
use Rattle.std.proofs.Common.{◌≡◌, ◌-◌, length}
use Rattle.trace_field.specs.Page.{page_of}
use Rattle.trace_replay.specs.Pieces.{pages_of}
use Rattle.trace_pages.specs.Some.{Some}
use Rattle.trace_pages.proofs.take_piece.Given as goal

abbrev pub invariant-loop-s : goal.invariant-loop-s
invariant-loop-s g l = record {
  left : (pages_of l.bytes (page_of l.s l.out l.rows l.lefts l.rights l.labels l.marks l.next)).page
      ≡ (pages_of l.bytes
      (page_of l.initial.s l.initial.out l.initial.rows l.initial.lefts l.initial.rights l.initial.labels l.initial.marks l.initial.next)).page;
  some : Some l.bytes
      (page_of l.initial.s l.initial.out l.initial.rows l.initial.lefts l.initial.rights l.initial.labels l.initial.marks l.initial.next)
      (page_of l.s l.out l.rows l.lefts l.rights l.labels l.marks l.next);
}

abbrev pub decreases-loop-s : goal.decreases-loop-s
decreases-loop-s g l = length l.bytes - l.s.at
