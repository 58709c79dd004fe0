-- A file that comes in pieces, carried out with one buffer: fed page by page, and each page written out. (Document 01: The run file and
-- its trace.)
use mathlib.Core.{Bool.{true, cond}, Path.◌≡◌, List.{List, [], ◌∷◌, ◌++◌}}
use Rattle.std.specs.Prelude.{ℕ, zero, suc}
use lib.{Dec.{eqb, leb}, ListN.{length, take, drop}}
use Rattle.trace_field.specs.Page.{Page}
use Rattle.trace_replay.specs.Feed.{feed_page, finish_page, first_page}

-- What a page holds: the bytes that are written out.
unfoldable pub held : Page → List ℕ
held p = take p.to p.out

-- The same page with nothing in its buffer; and with the next field at the first byte.
abbrev pub at_front : Page → Page
at_front p = record { run = p.run; uppers = p.uppers; out = p.out; to = 0; at = p.at }

abbrev pub from_start : Page → Page
from_start p = record { run = p.run; uppers = p.uppers; out = p.out; to = p.to; at = 0 }

-- One page: the fields whose lines the buffer takes.
unfoldable pub next_page : List ℕ → Page → Page
next_page bytes p = feed_page bytes (at_front p)

-- Bytes written, and the page after them.
pub record Written : Type 0 where
  pub page : Page
  pub bytes : List ℕ

-- At most n pages: none once the run is over, none after one that takes no bytes.
unfoldable pub pages_in : ℕ → List ℕ → Page → Written
pages_in zero bytes p = record { page = p; bytes = [] }
pages_in (suc n) bytes p =
    let q = next_page bytes p in
    let more = pages_in n bytes q in
    cond p.run.over (record { page = p; bytes = [] })
    (cond (eqb q.at p.at) (record { page = q; bytes = held q }) (record { page = more.page; bytes = held q ++ more.bytes }))

-- Every page of some bytes: there are no more than bytes.
unfoldable pub pages_of : List ℕ → Page → Written
pages_of bytes p = pages_in (suc (length bytes)) bytes p

-- A run between two pieces: its last page, the bytes that are left for the next piece, and all that was written.
pub record Between : Type 0 where
  pub page : Page
  pub rest : List ℕ
  pub bytes : List ℕ

-- Before the first: the header was written.
unfoldable pub begun : List ℕ → Between
begun out = record { page = first_page out; rest = []; bytes = held (first_page out) }

-- One more piece, behind what was left.
unfoldable pub after_piece : Between → List ℕ → Between
after_piece s c =
    let w = pages_of (s.rest ++ c) (from_start s.page) in
    record { page = w.page; rest = drop w.page.at (s.rest ++ c); bytes = s.bytes ++ w.bytes }

unfoldable pub after_pieces : Between → List (List ℕ) → Between
after_pieces s [] = s
after_pieces s (c ∷ cs) = after_pieces (after_piece s c) cs

-- The end of the file: what is left decides the rest of the trace.
unfoldable pub last_page : ℕ → Page → Page
last_page left p = finish_page left (at_front p)

unfoldable pub after_end : Between → Between
after_end s = let q = last_page (length s.rest) s.page in record { page = q; rest = s.rest; bytes = s.bytes ++ held q }

-- A round: the bytes b that were left, and c that was read behind them. Nothing read is the end of the file.
unfoldable pub round_page : List ℕ → List ℕ → Page → Page
round_page b c p = cond (leb (length c) 0) (last_page (length b) p) (pages_of (b ++ c) (from_start p)).page

-- A run that has gone to its end: that of the file, or before it. It is so of some pieces. That these are the pieces which were read, each
-- once and in their order, is outside the proof: no contract names what the system read.
pub data Gone (out : List ℕ) (p : Page) : Type 0 where
  ended : (cs : List (List ℕ)) → p ≡ (after_end (after_pieces (begun out) cs)).page → Gone out p
  stopped : (cs : List (List ℕ)) → p ≡ (after_pieces (begun out) cs).page → p.run.over ≡ true → Gone out p
