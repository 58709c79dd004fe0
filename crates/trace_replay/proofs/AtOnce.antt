-- A file fed at once: the first page, fed with room to spare and finished, holds its trace. (`Cutting.antt`: in pieces, and page by page.)
use Prim.Native.Nat.{ℕ, ◌+◌, ◌-◌, ◌≤◌}
use mathlib.Core.{Path.{◌≡◌, sym, ap, ◌∙◌}, Bool.{Bool, true, false, ◌&&◌, ◌||◌, cond}}
use mathlib.Core.List.{List, [], ◌++◌, append-nil, append_assoc}
use native.Mathlib.{Nat.{zero-add, add-zero}, Omega.arith}
use lib.{Dec.{leb, eqb}, ListN.{length, drop, length-drop, length-append}, Seq.sets}
use borrow.Author.Tests.{leb-true, le-leb}
use Rattle.lines.{specs.Line.{header, given_room, room}, proofs.Puts.sets_append}
use Rattle.trace_field.specs.{Run.{Told, malformed}, Page.{Page, written, breaks, field_room}}
use Rattle.trace_field.proofs.Pages.{breaks-fits}
use Rattle.trace_replay.specs.{Trace.{Fed, after, feed, finished, fresh, printed, trace_of}, Laws.{Holds, AtOnce}}
use Rattle.trace_replay.specs.Feed.{feed_page, finish_page, first_page}
use Rattle.trace_replay.proofs.Pages.{fits, Reaches, page_reaches, page-done}

-- Lines behind what stands at the front of a buffer.
sets_behind : (out xs ys : List ℕ) → sets (sets out 0 xs) (length xs) ys ≡ sets out 0 (xs ++ ys)
sets_behind out xs ys = ap (λ (n : ℕ). sets (sets out 0 xs) n ys) (sym (zero-add (length xs))) ∙ sets_append out 0 xs ys

-- The end of a file, where a line fits: what `finished` tells is written.
pub finish_writes : (left : ℕ) (p : Page) → leb (p.to + room) (length p.out) ≡ true
    → finish_page left p ≡ written p (finished p.run left) p.uppers
unfolding finish_page finished written
finish_writes left p f = go (p.run.over || (p.run.opened && eqb left 0))
  where
    none : p ≡ written p (record { run = p.run; lines = [] }) p.uppers
    none = ap (λ (n : ℕ). record { run = p.run; uppers = p.uppers; out = p.out; to = n; at = p.at }) (sym (add-zero p.to))

    go : (b : Bool) → cond b p (breaks p) ≡ written p (cond b (record { run = p.run; lines = [] }) (malformed p.run)) p.uppers
    go true = none
    go false = breaks-fits p f

module _ (before file : List ℕ) where
  abbrev first : Page
  first = first_page before

  abbrev last : Page
  last = feed_page file first

  abbrev reached : Reaches file first last
  reached = page_reaches file first

  abbrev ending : Told
  ending = finished last.run (length file - last.at)

  -- With room for a field to spare all of the file is told.
  all_told : fits last ≡ true → trace_of file ≡ header ++ (reached.lines ++ ending.lines)
  unfolding trace_of printed first_page written
  all_told f =
      let fed : ◌≡◌ {A = Fed} (feed fresh file) (record { run = last.run; rest = drop last.at file; lines = reached.lines }) =
      reached.rest ∙ ap (after (record { run = last.run; lines = reached.lines })) (page-done file first f)
      ∙ ap (λ (l : List ℕ). record { run = last.run; rest = drop last.at file; lines = l }) (append-nil reached.lines) in
      ap (λ (x : Fed). header ++ (x.lines ++ (finished x.run (length x.rest)).lines)) fed
      ∙ ap (λ (n : ℕ). header ++ (reached.lines ++ (finished last.run n).lines)) (length-drop last.at file)

  begun : room ≤ length before → (first.out ≡ sets before 0 header) × (first.to ≡ length header)
  unfolding first_page written given_room
  begun h = let e : leb (0 + room) (length before) ≡ true = le-leb _ _ h in (rw e, rw e (zero-add (length header)))

  -- Begin, feed, finish: then the whole trace stands at the front of the buffer.
  all_held : room ≤ length before → fits last ≡ true → Holds before file (finish_page (length file - last.at) last)
  unfolding written
  all_held h f =
      let b = begun h in
      let line : leb (last.to + room) (length last.out) ≡ true =
      le-leb (last.to + room) (length last.out) (omega (arith, leb-true (last.to + field_room) (length last.out) f)) in
      let e = finish_writes (length file - last.at) last line in
      let front : last.out ≡ sets before 0 (header ++ reached.lines) =
      reached.out ∙ ap (λ (n : ℕ). sets first.out n reached.lines) b.1
      ∙ ap (λ (l : List ℕ). sets l (length header) reached.lines) b.0 ∙ sets_behind before header reached.lines in
      let to : last.to ≡ length (header ++ reached.lines) =
      reached.to ∙ ap (λ (n : ℕ). n + length reached.lines) b.1 ∙ sym (length-append header reached.lines) in
      let all : (header ++ reached.lines) ++ ending.lines ≡ trace_of file =
      append_assoc header reached.lines ending.lines ∙ sym (all_told f) in
      record {
        out = ap (λ (x : Page). x.out) e ∙ ap (λ (n : ℕ). sets last.out n ending.lines) to
            ∙ ap (λ (l : List ℕ). sets l (length (header ++ reached.lines)) ending.lines) front
            ∙ sets_behind before (header ++ reached.lines) ending.lines ∙ ap (sets before 0) all;
        to = ap (λ (x : Page). x.to) e ∙ ap (λ (n : ℕ). n + length ending.lines) to
            ∙ sym (length-append (header ++ reached.lines) ending.lines) ∙ ap length all;
      }

pub whole_trace : AtOnce
whole_trace before file h f = all_held before file h f
