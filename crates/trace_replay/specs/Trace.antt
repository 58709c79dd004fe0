-- The trace of a whole run file. (Document 01: The run file and its trace.)
use mathlib.Core.{Bool.{false, ◌&&◌, ◌||◌, cond}, List.{List, [], ◌++◌}}
use Rattle.std.specs.Prelude.{ℕ, zero, suc}
use lib.{Dec.eqb, ListN.{length, drop, replicate}}
use Rattle.model.specs.Tables.{unused, tables_of, unopened}
use Rattle.runfile.specs.Field.{field_of, taken}
use Rattle.lines.specs.Line.{header}
use Rattle.trace_field.specs.Run.{Run, Told, malformed, carried}

-- What a run makes of some bytes: the run after it, the bytes not used, and the bytes printed.
pub record Fed : Type 0 where
  pub run : Run
  pub rest : List ℕ
  pub lines : List ℕ

-- Nothing is done.
abbrev pub unmoved : Run → List ℕ → Fed
unmoved r b = record { run = r; rest = b; lines = [] }

-- The same after a field was carried out.
abbrev pub after : Told → Fed → Fed
after t f = record { run = f.run; rest = f.rest; lines = t.lines ++ f.lines }

-- At most n fields, and none once the run is over.
unfoldable pub feed_in : ℕ → Run → List ℕ → Fed
feed_in zero r b = unmoved r b
feed_in (suc n) r b =
    let f = field_of r.opened b in
    let t = carried r f b in
    let more = after t (feed_in n t.run (drop (taken f) b)) in
    cond r.over (unmoved r b) more

-- Every whole field: there are fewer than bytes.
unfoldable pub feed : Run → List ℕ → Fed
feed r b = feed_in (length b) r b

-- At the end of the file, where some bytes are left: these, or no opening, are a malformed place.
unfoldable pub finished : Run → ℕ → Told
finished r left = cond (r.over || (r.opened && eqb left 0)) (record { run = r; lines = [] }) (malformed r)

-- The tables of the program: the largest that an opening can ask for, all zero.
unfoldable pub fresh : Run
fresh = record {
  queue = record {
    tables = tables_of unopened
        (replicate 1024 0)
        (replicate 1024 0)
        (replicate 1024 0)
        (replicate 16 0)
        (replicate 1024 0);
    records = replicate 16 unused;
  };
  opened = false;
  over = false;
  event = 0;
}

-- What a run prints of the rest of a file.
unfoldable pub printed : Run → List ℕ → List ℕ
printed r b = let f = feed r b in f.lines ++ (finished f.run (length f.rest)).lines

-- The trace of a file: its first line, and what a fresh run prints.
unfoldable pub trace_of : List ℕ → List ℕ
trace_of file = header ++ printed fresh file
