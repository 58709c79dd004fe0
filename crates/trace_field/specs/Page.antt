-- A run over lent tables, and its lines in a lent buffer.
use mathlib.Core.{Bool.{Bool, cond}, List.{List, [], ◌∷◌}}
use Rattle.std.specs.Prelude.{ℕ, ◌+◌, ◌*◌, ◌≤◌, Result, Ok, Err}
use lib.{Dec.leb, Seq.sets, ListN.{length, take, drop, set}}
use Rattle.model.specs.{declared.Op.Op, Tables.queue_of, History.Request, Lists.zeroed, Calls.{Done, open_as}}
use Rattle.layout.specs.Rows.{records_of, uppers_of}
use Rattle.runfile.specs.{Field.{field_of, taken}, declared.{Field.{Field, TheVariants.{Open, Each}}, Found.Found, NoField.NoField}}
use Rattle.lines.specs.{Line.{line_of, room}, declared.Line.TheVariants.Act}
use Rattle.trace_field.specs.Run.{Run, Told, next, is_opened, operated, opening_told, malformed, each_of, field_told, carried}
use Rattle.trace_field.specs.declared.RunState.{RunState}

-- A run; the upper halves of its rows' label words, which are in no record; a buffer, and the position behind what is written there;
-- and where the next field is read.
pub record Page : Type 0 where
  pub run : Run
  pub uppers : List ℕ
  pub out : List ℕ
  pub to : ℕ
  pub at : ℕ

abbrev pub page_of : RunState → List ℕ → List (List ℕ) → List ℕ → List ℕ → List ℕ → List ℕ → List ℕ → Page
page_of s out rows lefts rights labels marks next = record {
  run = record {
    queue = queue_of s.control (records_of rows) lefts rights labels marks next;
    opened = s.opened;
    over = s.over;
    event = s.event;
  };
  uppers = uppers_of rows;
  out = out;
  to = s.to;
  at = s.at;
}

-- What was told is written there, and these upper halves are left.
unfoldable pub written : Page → Told → List ℕ → Page
written p t u = record { run = t.run; uppers = u; out = sets p.out p.to t.lines; to = p.to + length t.lines; at = p.at }

-- An operation that was done: its line is written.
unfoldable pub answered : Page → ℕ → Op → Done → Page
answered p task op d =
    let r = p.run in
    let run : Run = record { queue = d.queue; opened = r.opened; over = r.over; event = next r.event } in
    let line = line_of (next r.event) (Act task op d.outcome) d.queue.tables.control.anchor in
    written p (record { run = run; lines = line }) (set p.uppers task 0)

-- A start or step, refused or not, leaves its task's row without an upper half; an accepted opening does so with every row.
unfoldable pub emptied : List Request → List ℕ → List ℕ
emptied [] u = u
emptied (o ∷ os) u = emptied os (set u o.task 0)

unfoldable pub cleared : Run → Bool → ℕ → ℕ → ℕ → List ℕ → List ℕ
cleared r pooled tasks slots tag u = zeroed (cond (is_opened (open_as pooled r.queue tasks slots tag).outcome) tasks 0) 0 u

unfoldable pub field_uppers : Run → Field → List ℕ → List ℕ → List ℕ
field_uppers r (Open pooled tasks slots tag) b u = cleared r pooled tasks slots tag u
field_uppers r (Each op n) b u = emptied (each_of op (take n (drop 3 b))) u

unfoldable pub uppers_after : Run → Result Found NoField → List ℕ → List ℕ → List ℕ
uppers_after r (Ok found) b u = field_uppers r found.field b u
uppers_after r (Err why) b u = u

abbrev pub operates : Page → List Request → Page
operates p os = written p (operated p.run os) (emptied os p.uppers)

abbrev pub opens : Page → Bool → ℕ → ℕ → ℕ → Page
opens p pooled tasks slots tag = written p (opening_told p.run pooled tasks slots tag) (cleared p.run pooled tasks slots tag p.uppers)

abbrev pub does : Page → Field → List ℕ → Page
does p f b = written p (field_told p.run f b) (field_uppers p.run f b p.uppers)

abbrev pub carries : Page → Result Found NoField → List ℕ → Page
carries p f b = written p (carried p.run f b) (uppers_after p.run f b p.uppers)

-- A malformed place, where the buffer has room for a line.
unfoldable pub breaks : Page → Page
breaks p = cond (leb (p.to + room) (length p.out)) (written p (malformed p.run) p.uppers) p

-- The page whose next field is read so many bytes on.
abbrev pub moved : Page → ℕ → Page
moved p n = record { run = p.run; uppers = p.uppers; out = p.out; to = p.to; at = p.at + n }

-- Room for the lines of any one field: 4,096 of the longest.
abbrev pub field_room : ℕ
field_room = 4096 * room

-- The field at the reading position, where the buffer has room for it.
unfoldable pub takes : List ℕ → Page → Page
takes bytes p =
    let b = drop p.at bytes in
    let f = field_of p.run.opened b in
    cond (leb (p.to + field_room) (length p.out)) (moved (carries p f b) (taken f)) p

-- The task bytes of a field are there.
abbrev pub BytesThere : Field → ℕ → ℕ → Type 0
BytesThere (Open pooled tasks slots tag) at len = Unit {0}
BytesThere (Each op n) at len = (n ≤ 4096) × (at + 3 + n ≤ len)
