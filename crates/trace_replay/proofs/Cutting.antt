-- However a file is cut into pieces, and its trace into pages: what is written in all is the file's trace.
use Prim.Native.Nat.{ℕ, suc, ◌+◌, ◌≤◌}
use mathlib.Core.{Path.{◌≡◌, refl, sym, ap, ◌∙◌}, Bool.{Bool, true, false, ◌&&◌, ◌||◌, cond}}
use mathlib.Core.List.{List, [], ◌∷◌, ◌++◌, append-nil, append_assoc, flatten}
use native.Mathlib.{Nat.zero-add, Omega.arith}
use lib.{Dec.{leb, eqb}, ListN.{length, take, drop}, Seq.{sets, length-sets}}
use borrow.Author.Tests.{le-leb}
use Rattle.lines.{specs.Line.{header, given_room, room}, proofs.Lengths.{line_short, header_short}}
use Rattle.trace_field.{specs.{Run.{Run, Told, malformed}, Page.{Page, written, field_room}}, proofs.Pages.cond-true}
use Rattle.trace_replay.specs.Trace.{Fed, feed_in, feed, finished, fresh, printed, trace_of}
use Rattle.trace_replay.specs.{Feed.{finish_page, first_page}, Pieces.{after_pieces, last_page, after_end}}
use Rattle.trace_replay.specs.Pieces.{held, at_front, from_start, Written, pages_of, Between, begun, after_piece}
use Rattle.trace_replay.specs.Laws.{CutAnywhere, OverBeforeEnd}
use Rattle.trace_replay.proofs.{Feeding.{feed-pieces, joined}, AtOnce.finish_writes}
use Rattle.trace_replay.proofs.PageEnds.{front_of, pages_told, pages_within, pages_over}

-- What was told from the front of a buffer, where it fits, is what the page holds.
held-told : (p : Page) (t : Told) (u : List ℕ) → length t.lines ≤ length p.out → held (written (at_front p) t u) ≡ t.lines
unfolding held written
held-told p t u h = ap (λ (n : ℕ). take n (sets p.out 0 t.lines)) (zero-add (length t.lines)) ∙ front_of p.out t.lines h

finished_short : (r : Run) (left : ℕ) → length (finished r left).lines ≤ room
unfolding finished malformed
finished_short r left = go (r.over || (r.opened && eqb left 0))
  where
    go : (b : Bool) → length (cond b (record { run = r; lines = [] }) (malformed r)).lines ≤ room
    go true = omega arith
    go false = line_short _ _ _

end_told : (left : ℕ) (p : Page) → field_room ≤ length p.out → held (last_page left p) ≡ (finished p.run left).lines
unfolding last_page
end_told left p h =
    let fits : leb (0 + room) (length p.out) ≡ true = le-leb (0 + room) (length p.out) (omega (arith, h)) in
    ap held (finish_writes left (at_front p) fits)
    ∙ held-told p (finished p.run left) p.uppers (omega (arith, finished_short p.run left, h))

-- A run that has got so far through a file: it stands as the file's bytes so far leave it, and what they print was written.
pub record Reached (file : List ℕ) (s : Between) : Type 0 where
  pub fed : ◌≡◌ {A = Fed} (feed fresh file) (record { run = s.page.run; rest = s.rest; lines = (feed fresh file).lines })
  pub told : s.bytes ≡ header ++ (feed fresh file).lines
  pub room : field_room ≤ length s.page.out

pub first_reached : (out : List ℕ) → field_room ≤ length out → Reached [] (begun out)
unfolding begun first_page feed feed_in written given_room held
first_reached out h =
    let fits : leb (0 + room) (length out) ≡ true = le-leb (0 + room) (length out) (omega (arith, h)) in
    record {
      fed = refl;
      told =
          ap (λ (l : List ℕ). take (0 + length l) (sets out 0 l)) (cond-true (leb (0 + room) (length out)) header [] fits)
          ∙ ap (λ (n : ℕ). take n (sets out 0 header)) (zero-add (length header))
          ∙ front_of out header (omega (arith, header_short, h)) ∙ sym (append-nil header);
      room = omega (arith, h, length-sets out 0 (cond (leb (0 + room) (length out)) header []));
    }

-- One more piece.
module _ (file c : List ℕ) (s : Between) (r : Reached file s) where
  abbrev w : Written
  w = pages_of (s.rest ++ c) (from_start s.page)

  abbrev g : Fed
  g = feed s.page.run (s.rest ++ c)

  piece_told : ◌≡◌ {A = Fed} (record { run = w.page.run; rest = drop w.page.at (s.rest ++ c); lines = w.bytes }) g
  piece_told = pages_told (s.rest ++ c) (from_start s.page) r.room

  piece_joined : feed fresh (file ++ c) ≡ record { run = g.run; rest = g.rest; lines = (feed fresh file).lines ++ g.lines }
  piece_joined = feed-pieces fresh file c ∙ ap (λ (f : Fed). joined f c) r.fed

  piece_reached : Reached (file ++ c) (after_piece s c)
  unfolding after_piece
  piece_reached =
      let lines = ap (λ (f : Fed). f.lines) piece_joined in
      record {
        fed =
            piece_joined
            ∙ ap (λ (f : Fed). record { run = f.run; rest = f.rest; lines = (feed fresh file).lines ++ g.lines }) (sym piece_told)
            ∙ ap (λ (l : List ℕ). record { run = w.page.run; rest = drop w.page.at (s.rest ++ c); lines = l }) (sym lines);
        told =
            ap (λ (l : List ℕ). l ++ w.bytes) r.told ∙ append_assoc header (feed fresh file).lines w.bytes
            ∙ ap (λ (f : Fed). header ++ ((feed fresh file).lines ++ f.lines)) piece_told
            ∙ ap (λ (l : List ℕ). header ++ l) (sym lines);
        room = omega (arith, r.room, pages_within (s.rest ++ c) (from_start s.page));
      }

pub pieces_reached : (file : List ℕ) (s : Between) (cs : List (List ℕ)) → Reached file s → Reached (file ++ flatten cs) (after_pieces s cs)
unfolding after_pieces flatten
pieces_reached file s [] r = rw (append-nil file) r
pieces_reached file s (c ∷ cs) r =
    rw (sym (append_assoc file c (flatten cs))) (pieces_reached (file ++ c) (after_piece s c) cs (piece_reached file c s r))

-- The end of the file.
pub end_reached : (file : List ℕ) (s : Between) → Reached file s → (after_end s).bytes ≡ trace_of file
unfolding after_end trace_of printed
end_reached file s r =
    let f = feed fresh file in
    ap (λ (l : List ℕ). s.bytes ++ l) (end_told (length s.rest) s.page r.room)
    ∙ ap (λ (l : List ℕ). l ++ (finished s.page.run (length s.rest)).lines) r.told
    ∙ append_assoc header f.lines (finished s.page.run (length s.rest)).lines
    ∙ ap (λ (x : Fed). header ++ (f.lines ++ (finished x.run (length x.rest)).lines)) (sym r.fed)

-- The theorem: for every cutting, and every buffer with room for a field.
pub cut_anywhere : CutAnywhere
unfolding begun
cut_anywhere out cs h = end_reached (flatten cs) (after_pieces (begun out) cs) (pieces_reached [] (begun out) cs (first_reached out h))

-- Once the run is over nothing more is written, so what follows in the file need not be read.
module _ (s : Between) (over : s.page.run.over ≡ true) where
  over_piece : (c : List ℕ) → ((after_piece s c).bytes ≡ s.bytes) × ((after_piece s c).page ≡ from_start s.page)
  unfolding after_piece pages_of
  over_piece c =
      let e = pages_over (s.rest ++ c) (from_start s.page) (suc (length (s.rest ++ c))) over in
      (ap (λ (w : Written). s.bytes ++ w.bytes) e ∙ append-nil s.bytes, ap (λ (w : Written). w.page) e)

  over_end : (after_end s).bytes ≡ s.bytes
  unfolding after_end last_page finish_page held
  over_end = rw over (append-nil s.bytes)

pub over-ends : (s : Between) (cs : List (List ℕ)) → s.page.run.over ≡ true → (after_end (after_pieces s cs)).bytes ≡ s.bytes
unfolding after_pieces
over-ends s [] e = over_end s e
over-ends s (c ∷ cs) e =
    let same = over_piece s e c in
    over-ends (after_piece s c) cs (ap (λ (p : Page). p.run.over) same.1 ∙ e) ∙ same.0

pieces_append : (s : Between) (cs ds : List (List ℕ)) → after_pieces s (cs ++ ds) ≡ after_pieces (after_pieces s cs) ds
unfolding after_pieces
pieces_append s [] ds = refl
pieces_append s (c ∷ cs) ds = pieces_append (after_piece s c) cs ds

pub over_before_end : OverBeforeEnd
over_before_end out cs ds h over =
    sym (over-ends (after_pieces (begun out) cs) ds over) ∙ ap (λ (s : Between). (after_end s).bytes) (sym (pieces_append (begun out) cs ds))
    ∙ cut_anywhere out (cs ++ ds) h
