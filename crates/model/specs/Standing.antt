-- What a call that walks relies on. (Document 02: #102, #107, #109, #110, #111, #113.)
use mathlib.Core.{Path.◌≡◌, List.List, Bool.{true, ◌&&◌}}
use Rattle.model.specs.{declared.Entry.Entry, Tables.Queue, Sound.control_sound, Walk.{contents, entries}}
use Rattle.model.specs.{Refusals.{fits, records_fit}, History.{AfterOpening, final, ledger, run}}

-- Control and Anchor are sound, every table is long enough, and the walk meets the entries d: so no 34 applies, and no 12 to the queue's tables.
pub record Standing (q : Queue) (d : List Entry) : Type 0 where
  pub control : control_sound q.tables.control ≡ true
  pub long : fits q.tables && records_fit q.tables.control.tasks q ≡ true
  pub walk : contents q.tables ≡ entries d

-- After every opening and list the queue stands so, with the sequential deque's queue for d.
abbrev pub StandsAfterOpening : Type 0
StandsAfterOpening = AfterOpening (λ q os. Standing (final q os) (ledger (run q os)).deque)
