-- The bounds on tags leave room for every change that a step makes.
use mathlib.Core.{Bool.{Bool, true}, Logic.◌≢◌, Path.{◌∙◌, ◌≡◌, ap, refl, subst}}
use Prim.Native.Nat.{◌+◌, ◌<◌, ◌≤◌, suc, ℕ}
use native.Mathlib.Omega.{arith}
use lib.Dec.{eqb}
use borrow.Author.Tests.{eq-eqb}
use Rattle.word.specs.{Anchor.anchor_of, Link.link_of}
use Rattle.model.specs.{Tables.{at_place, Tables, is_pooled}, declared.Call.Call}
use Rattle.model.proofs.{Tests.{ByPlace.by_place, Truth.by_test}, Machine.Laws.{aimed_tag, relink_same}}
use Rattle.model.proofs.Invariant.Tags.{Tags, cost, owes, share, weight}
use Rattle.model.proofs.Bridge.{Decoded.RoomAt, Facts.{ControlFine, LinksFine, RecordFine}}
use Rattle.model.proofs.Bridge.View.{anchor_seen, kind_of, link_at, link_seen, place_of, rec_of, view}
use Rattle.model.proofs.Bridge.Words.{same-link_word, same_word, towards_status}
use Rattle.model.proofs.Tags.{AnchorTag.WeightKept, LinkTag.Tagged}
use Rattle.model.proofs.Machine.Machine as M

leave-touch : (g : M.Touch) (r : M.Rec) → (M.leave g r).touch ≡ g
leave-touch g r = by_test (λ (m : M.Move). m.touch ≡ g) r.finishing (λ e. refl) (λ e. refl)

-- The changes of the decoded machine.
module _ (s : M.Shared) (r : M.Rec) where
  room2 : (k : M.Kind) → M.same r.read s.anchor ≡ true → WeightKept s r (M.two k s r) → suc r.read.tag ≤ weight s + cost r
  room2 M.push e l = let z = rw e at l.less in omega arith
  room2 M.pop e l = let z = rw e at l.less in omega arith

  room4 : (k : M.Kind) → M.same r.read s.anchor ≡ true → WeightKept s r (M.four k s r) → suc r.read.tag ≤ weight s + cost r
  room4 M.push e l = let z = rw e at l.less in omega (arith, aimed_tag r.read r.side r.own (M.pushing r.side))
  room4 M.pop e l = let z = rw e at l.less in omega (arith, aimed_tag r.read r.side r.near r.read.status)

  room10 : M.same r.read s.anchor ≡ true → WeightKept s r (M.act M.at10 s r) → suc r.read.tag ≤ weight s + cost r
  room10 e l = let z = rw e at l.less in
      let y = ap (λ (t : M.Touch). weight (M.apply s t)) (leave-touch (M.put_anchor (M.settled r.read)) r) in omega arith

  room9 : M.same_link r.link (s.link (M.towards r.read.status) r.near) ≡ true → r.near ≤ s.slots → Tagged s (M.act M.at9 s r)
      → suc r.link.tag ≤ s.anchor.tag
  room9 e h g =
      let d = M.towards r.read.status in
      let v : M.Link = record { tag = suc r.link.tag; slot = M.tip r.read d } in
      let y : Tags (M.with_link s d r.near v) = rw e at g.tagged in
      let z = ap (λ (w : M.Link). w.tag) (relink_same s.link d r.near v) in
      omega (arith, y.upper d r.near h)

module _ (q : Tables) (c : ControlFine q.control) (k : LinksFine q) (r : Call) (h : RecordFine (is_pooled q.control) q.control.slots r)
    (low : (anchor_of q.control.anchor).tag ≤ 4294967295) where
  abbrev at : ℕ → Call
  at p = at_place r p

  abbrev Bounds : ℕ → Type 0
  Bounds p = (12 ≤ p → p ≤ 14 → r.kind ≡ 0) → (2 ≤ share (rec_of (at p)) + cost (rec_of (at p)) → suc (link_of q.control.head).tag ≤ 4294967295)
      → weight (view q) + cost (rec_of (at p)) ≤ 4294967295 → WeightKept (view q) (rec_of (at p)) (M.act (place_of p) (view q) (rec_of (at p)))
      → Tagged (view q) (M.act (place_of p) (view q) (rec_of (at p))) → RoomAt q (at p) (place_of p)

  current : q.control.anchor ≡ r.seen → M.same (anchor_seen r.seen) (anchor_seen q.control.anchor) ≡ true
  current z = same_word r.seen q.control.anchor h.seen.status c.anchor.status ∙ eq-eqb _ _ z

  unchanged : link_at q (eqb (anchor_of r.seen).status 1) r.neighbour ≡ r.link
      → M.same_link (link_seen r.link) (link_seen (link_at q (M.towards (anchor_seen r.seen).status) r.neighbour)) ≡ true
  unchanged z =
      let d = eqb (anchor_of r.seen).status 1 in
      ap (λ (b : Bool). M.same_link (link_seen r.link) (link_seen (link_at q b r.neighbour))) (towards_status (anchor_of r.seen).status)
      ∙ same-link_word r.link (link_at q d r.neighbour) h.spare (k.spare d r.neighbour h.neighbour) ∙ eq-eqb _ _ z

  raise : q.control.head ≡ r.link → suc (link_of q.control.head).tag ≤ 4294967295 → (link_of r.link).tag < 4294967295
  raise z l = subst (λ w. (link_of w).tag < 4294967295) z (omega arith)

  pub room_bounded : r.place ≢ 0 → Bounds r.place
  unfolding rec_of view
  room_bounded busy = by_place Bounds
      (λ p i b l g. tt)
      (λ p i b l g z. omega (arith, room2 (view q) (rec_of (at 2)) (kind_of r.kind) (current z) l))
      (λ p i b l g. tt)
      (λ p i b l g z. omega (arith, room4 (view q) (rec_of (at 4)) (kind_of r.kind) (current z) l))
      (λ p i b l g. tt)
      (λ p i b l g. tt)
      (λ p i b l g. tt)
      (λ p i b l g. tt)
      (λ p i b l g z. omega (arith, low, room9 (view q) (rec_of (at 9)) (unchanged z) h.neighbour g))
      (λ p i b l g z. omega (arith, room10 (view q) (rec_of (at 10)) (current z) l))
      (λ p i b l g. tt)
      (λ p i b l g. tt)
      (λ p i b l g. tt)
      (λ p i b l g z. raise z (i (let k : owes (kind_of r.kind) ≡ 2 = ap (λ (n : ℕ). owes (kind_of n))
      (p (omega arith) (omega arith)) in omega arith)))
      (λ p i b l g. tt)
      (λ p i b l g. tt)
      (λ p i b l g z. raise z (i (omega arith)))
      r.place busy h.place
