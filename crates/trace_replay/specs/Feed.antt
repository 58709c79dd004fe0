-- A file fed to a run over lent tables: field by field, while the buffer has room.
use mathlib.Core.{Bool.{◌&&◌, ◌||◌, cond}, List.List, Path.◌≡◌}
use Rattle.std.specs.Prelude.{ℕ, zero, suc}
use lib.{Dec.eqb, ListN.{length, replicate}}
use Rattle.lines.specs.Line.{header, given_room, room}
use Rattle.trace_field.specs.{Page.{Page, page_of, written, breaks, takes}, declared.RunState.RunState}
use Rattle.trace_replay.specs.Trace.{fresh}

-- At most n fields: none once the run is over, none after one that takes no bytes.
unfoldable pub feed_page_in : ℕ → List ℕ → Page → Page
feed_page_in zero bytes p = p
feed_page_in (suc n) bytes p =
    let q = takes bytes p in
    cond p.run.over p (cond (eqb q.at p.at) q (feed_page_in n bytes q))

-- Every whole field: there are no more than bytes.
unfoldable pub feed_page : List ℕ → Page → Page
feed_page bytes p = feed_page_in (suc (length bytes)) bytes p

-- The end of the file: bytes that are left, or no opening, are a malformed place.
unfoldable pub finish_page : ℕ → Page → Page
finish_page left p = cond (p.run.over || (p.run.opened && eqb left 0)) p (breaks p)

-- The first page of a trace: a fresh run, with the header in its buffer.
abbrev pub empty_page : List ℕ → Page
empty_page out = record { run = fresh; uppers = replicate 16 0; out = out; to = 0; at = 0 }

unfoldable pub first_page : List ℕ → Page
first_page out = written (empty_page out) (record { run = fresh; lines = given_room room (length out) 0 header }) (replicate 16 0)

-- The program's tables, all zero.
abbrev pub Zeros : List (List ℕ) → List ℕ → List ℕ → List ℕ → List ℕ → List ℕ → Type 0
Zeros rows lefts rights labels marks next =
    (rows ≡ replicate 16 (replicate 10 0)) × (lefts ≡ replicate 1024 0) × (rights ≡ replicate 1024 0) × (labels ≡ replicate 1024 0)
    × (marks ≡ replicate 16 0) × (next ≡ replicate 1024 0)

-- What a beginning leaves, with the program's tables: the first page.
abbrev pub Begins : List ℕ → List ℕ → RunState → Type 0
Begins before after s =
    let q = fresh.queue.tables in
    page_of s after (replicate 16 (replicate 10 0)) q.lefts q.rights q.labels q.marks q.next ≡ first_page before
