-- Pages that the code makes: what they hold is in their buffers.
use Prim.Native.Nat.{ℕ, ◌+◌, ◌≤◌}
use mathlib.Core.{Path.{◌≡◌, refl, ap, subst, sym}, Bool.{Bool, true, false, ◌&&◌, ◌||◌, cond}, List.{List, []}}
use native.Mathlib.Omega.{arith}
use lib.{Dec.{leb, eqb}, ListN.{length, replicate}, Seq.length-sets}
use borrow.Author.Tests.{leb-true}
use Rattle.lines.{specs.Line.{header, given_room, room}, proofs.Lengths.{line_short, header_short}}
use Rattle.trace_field.specs.{Run.malformed, Page.{Page, written, breaks}}
use Rattle.trace_field.proofs.{Pages.{breaks-fits, breaks_short}, Room.Within}
use Rattle.trace_replay.specs.{Trace.fresh, Feed.{feed_page, finish_page, first_page}}
use Rattle.trace_replay.proofs.PageEnds.{page-within}

-- A page x that is equal to one that holds no more than its buffer.
same-within : (x y : Page) (n : ℕ) → x ≡ y → Within y n → x.to ≤ length x.out
same-within x y n e w = let t = ap (λ (p : Page). p.to) e in let o = ap (λ (p : Page). length p.out) e in omega (arith, w.0, w.1, t, o)

pub fed_within : (bytes : List ℕ) (p x : Page) → x ≡ feed_page bytes p → p.to ≤ length p.out → x.to ≤ length x.out
fed_within bytes p x e h = same-within x (feed_page bytes p) (length p.out) e (page-within bytes p (length p.out) (h, refl))

breaks-within : (p : Page) (n : ℕ) → Within p n → Within (breaks p) n
unfolding written malformed
breaks-within p n w = go (leb (p.to + room) (length p.out)) refl
  where
    go : (b : Bool) → leb (p.to + room) (length p.out) ≡ b → Within (breaks p) n
    go true e =
        let short : length (malformed p.run).lines ≤ room = line_short _ _ _ in
        let fits : p.to + room ≤ length p.out = leb-true _ _ e in
        let same = length-sets p.out p.to (malformed p.run).lines in
        subst (λ (x : Page). Within x n) (sym (breaks-fits p e)) (omega (arith, short, fits, w.1), omega (arith, same, w.1))
    go false e = subst (λ (x : Page). Within x n) (sym (breaks_short p e)) w

pub finished-within : (left : ℕ) (p x : Page) → x ≡ finish_page left p → p.to ≤ length p.out → x.to ≤ length x.out
unfolding finish_page
finished-within left p x e h =
    same-within x (finish_page left p) (length p.out) e (go (p.run.over || (p.run.opened && eqb left 0)))
  where
    go : (b : Bool) → Within (cond b p (breaks p)) (length p.out)
    go true = (h, refl)
    go false = breaks-within p (length p.out) (h, refl)

pub begun-within : (out : List ℕ) (x : Page) → x ≡ first_page out → x.to ≤ length x.out
unfolding first_page written given_room
begun-within out x e = same-within x (first_page out) (length out) e (go (leb (0 + room) (length out)) refl)
  where
    go : (b : Bool) → leb (0 + room) (length out) ≡ b → Within (written (record { run = fresh; uppers = replicate 16 0; out = out; to = 0; at = 0 })
        (record { run = fresh; lines = cond b header [] }) (replicate 16 0)) (length out)
    go true f =
        let fits : 0 + room ≤ length out = leb-true _ _ f in
        (omega (arith, fits, header_short), length-sets out 0 header)
    go false f = (omega arith, refl)
