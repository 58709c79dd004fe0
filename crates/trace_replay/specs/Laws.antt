-- What is promised of a trace: it is `trace_of` the file, however the file comes and however the trace is written out.
-- (Document 01: The run file and its trace.)
use mathlib.Core.{Bool.true, Path.◌≡◌, List.{List, ◌++◌, flatten}}
use Rattle.std.specs.Prelude.{ℕ, ◌+◌, ◌-◌, ◌≤◌}
use lib.{Dec.leb, ListN.length, Seq.sets}
use Rattle.lines.specs.Line.{room}
use Rattle.trace_field.specs.Page.{Page, field_room}
use Rattle.trace_replay.specs.{Trace.trace_of, Feed.{feed_page, finish_page, first_page}}
use Rattle.trace_replay.specs.Pieces.{begun, after_pieces, after_end}

-- In whatever pieces a file comes, with any buffer that has room for a field: all that is written is the file's trace.
abbrev pub CutAnywhere : Type 0
CutAnywhere = (out : List ℕ) (cs : List (List ℕ)) → field_room ≤ length out → (after_end (after_pieces (begun out) cs)).bytes ≡ trace_of (flatten cs)

-- A run that is over after some pieces has written the file's trace, whatever pieces are still to come.
abbrev pub OverBeforeEnd : Type 0
OverBeforeEnd =
    (out : List ℕ) (cs ds : List (List ℕ)) → field_room ≤ length out → (after_pieces (begun out) cs).page.run.over ≡ true
    → (after_pieces (begun out) cs).bytes ≡ trace_of (flatten (cs ++ ds))

-- A page that holds all of a file's trace: at the front of the buffer as it was lent, and nothing behind it.
pub record Holds (before file : List ℕ) (p : Page) : Type 0 where
  pub out : p.out ≡ sets before 0 (trace_of file)
  pub to : p.to ≡ length (trace_of file)

-- A file fed at once into a buffer that has room for one field more at its end: begun, fed and finished, the page holds the file's trace.
abbrev pub AtOnce : Type 0
AtOnce =
    (before file : List ℕ) → room ≤ length before
    → (let last = feed_page file (first_page before) in leb (last.to + field_room) (length last.out) ≡ true
    → Holds before file (finish_page (length file - last.at) last))
