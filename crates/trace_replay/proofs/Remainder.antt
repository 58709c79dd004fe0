-- What is left of the bytes: a run that goes on has used every whole field, so it leaves less than a field.
use Prim.Native.Nat.{ℕ, zero, suc, ◌<◌, ◌≤◌}
use mathlib.Core.{Path.{◌≡◌, refl, sym, ap, ◌∙◌, subst}, Bool.{Bool, true, false}, List.{List, [], ◌∷◌, flatten}}
use native.Mathlib.Omega.{arith}
use lib.ListN.{length, drop, length-drop}
use Rattle.model.proofs.Tests.Truth.{not_both}
use Rattle.runfile.specs.Field.{longest_field}
use Rattle.trace_field.specs.{Run.Run, Page.{Page, field_room}}
use Rattle.trace_replay.specs.{Trace.{Fed, feed_in, feed, fresh}, Pieces.{begun, after_pieces}}
use Rattle.trace_replay.proofs.{PageLoop.Stands, Feeding.{broken, feed-step}}
use Rattle.trace_replay.proofs.Feeding.{told, size_at, Next, waits, breaks, moves, next_of, feed-over, feed-waits}
use Rattle.trace_replay.proofs.Cutting.{Reached, first_reached, pieces_reached}

abbrev LeavesLess : Fed → Type 0
LeavesLess f = f.run.over ≡ false → length f.rest < longest_field

over-leaves : (r : Run) (b : List ℕ) → r.over ≡ true → LeavesLess (feed r b)
unfolding feed
over-leaves r b e = subst LeavesLess (sym (feed-over (length b) r b e)) (λ going. absurd (not_both e going))

leaves_in : (n : ℕ) (r : Run) (b : List ℕ) → length b ≤ n → LeavesLess (feed r b)
unfolding feed feed_in
leaves_in zero r [] h = λ going. omega arith
leaves_in zero r (x ∷ b) h = absurd (omega arith)
leaves_in (suc n) r b h = go r.over refl (next_of r b) (leaves_in n)
  where
    then : r.over ≡ false → LeavesLess (feed (told r b).run (drop (size_at r b) b)) → LeavesLess (feed r b)
    then e k = subst LeavesLess (sym (feed-step r b e)) k

    go : (o : Bool) → r.over ≡ o → Next r b → ((q : Run) (c : List ℕ) → length c ≤ n → LeavesLess (feed q c)) → LeavesLess (feed r b)
    go true e x ih = over-leaves r b e
    go false e (waits t s less) ih = subst LeavesLess (sym (feed-waits (length b) r b t s)) (λ going. less)
    go false e (breaks f g) ih = then e (over-leaves (told r b).run (drop (size_at r b) b) (broken r b g))
    go false e (moves s l f t) ih = then e (ih (told r b).run (drop (size_at r b) b) (omega (arith, length-drop (size_at r b) b)))

pub feed-leaves : (r : Run) (b : List ℕ) → (feed r b).run.over ≡ false → length (feed r b).rest < longest_field
feed-leaves r b = leaves_in (length b) r b (omega arith)

-- The same of a run that stands after some pieces, whatever they were.
pub stands-leaves : (out : List ℕ) (p : Page) (rest : List ℕ) → field_room ≤ length out → Stands out p rest → p.run.over ≡ false
    → length rest < longest_field
stands-leaves out p rest room s going =
    let here = after_pieces (begun out) s.pieces in
    let file = flatten s.pieces in
    let reached : Reached file here = pieces_reached [] (begun out) s.pieces (first_reached out room) in
    let fed : Fed = record { run = here.page.run; rest = here.rest; lines = (feed fresh file).lines } in
    let less : LeavesLess fed = subst LeavesLess reached.fed (feed-leaves fresh file) in
    omega (arith, less (ap (λ (x : Page). x.run.over) (sym s.page) ∙ going), ap length s.left)
