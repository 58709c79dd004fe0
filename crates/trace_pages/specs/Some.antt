-- Some pages of a piece, one after another: where a page cannot be written none comes after it.
use mathlib.Core.{Bool.false, List.List, Path.◌≡◌}
use Rattle.std.specs.Prelude.{ℕ}
use Rattle.trace_field.specs.Page.{Page}
use Rattle.trace_replay.specs.Pieces.{next_page}

pub data Some (bytes : List ℕ) (p : Page) : Page → Type 0 where
  none : Some bytes p p
  more : (q : Page) → Some bytes p q → q.run.over ≡ false → Some bytes p (next_page bytes q)
