-- Neighbours among the labels waiting name each other, but at the end that the status names.
use mathlib.Core.{Bool.{false, true}, List.{List, ◌∷◌, ◌++◌, map-append}, Logic.◌≢◌, Path.{◌∙◌, ◌≡◌, ap, sym}}
use Prim.Native.Nat.{ℕ}
use native.Mathlib.Omega.{arith}
use lib.Dec.{eqb}
use borrow.Author.Tests.{eqb-true}
use Rattle.word.specs.Anchor.{anchor_of}
use Rattle.model.specs.{declared.Entry.Entry, Tables.Queue, Calls.opened, Walk.{contents, entries}}
use Rattle.model.specs.{History.{Ledger, final}, Neighbours.{Joined, LinksBack, NeighboursJoined}}
use Rattle.model.proofs.{Tests.Truth.split, Lists.Slots.{slots, slots_nil}, Machine.Machine.{Status, code}}
use Rattle.model.proofs.{Invariant.Shape.Linked, Chain.Joints.joined_at, Bridge.View.{state_of, status_of, view}}
use Rattle.model.proofs.Ledger.{Matched.Matched, Waiting.waits, EveryOperation.run_good}
use Rattle.model.proofs.{Ledger.Opened.{nobody, open_good, some_slots}, Openings.after-opening}

-- The decoded status of a push is the number of its status.
status_number : (n : ℕ) (st : Status) → status_of n ≡ st → code st ≢ 0 → n ≡ code st
status_number n st e h = split (eqb n 1) (λ z. one z) (λ z. split (eqb n 2) (λ w. two z w) (λ w. absurd (h (ap code (sym e) ∙ rw (z, w)))))
  where
    one : eqb n 1 ≡ true → n ≡ code st
    one z = let w : code (status_of n) ≡ 1 = rw z in omega (arith, eqb-true n 1 z, ap code e)

    two : eqb n 1 ≡ false → eqb n 2 ≡ true → n ≡ code st
    two z w = let v : code (status_of n) ≡ 2 = rw (z, w) in omega (arith, eqb-true n 2 w, ap code e)

joined : (q : Queue) (n : ℕ) (l : Ledger) → Matched n q l → (before after : List Entry) (x y : Entry)
    → contents q.tables ≡ entries (before ++ (x ∷ y ∷ after)) → Joined q.tables before x y after
unfolding state_of view
joined q n l m before after x y e =
    let st = (anchor_of q.tables.control.anchor).status in
    let same : m.book.queue ≡ before ++ (x ∷ y ∷ after) =
    let w = sym (waits q.tables m.links m.inv.owner m.book.queue m.inv.whole) ∙ e in cc in
    let c : Linked (view q.tables).link (status_of st) (slots before ++ (x.slot ∷ y.slot ∷ slots after)) =
    rw (same, map-append (λ (e : Entry). e.slot) before (x ∷ y ∷ after)) at m.inv.whole.shape.linked in
    let j = joined_at (view q.tables).link (status_of st) (slots before) (slots after) x.slot y.slot c in
    record {
      rightward = λ h. j.0 (λ p z. h (status_number st _ p (λ z. omega arith)) (slots_nil after z));
      leftward = λ h. j.1 (λ p z. h (status_number st _ p (λ z. omega arith)) (slots_nil before z));
    }

pub links-back : LinksBack
links-back pooled = after-opening pooled NeighboursJoined (λ q tasks slots tag e os.
    let o = opened pooled q tasks slots tag in
    let g = run_good os 1 o nobody (open_good pooled q tasks slots tag (some_slots pooled q tasks slots e)) in
    joined (final o os) g.0 _ g.1)
