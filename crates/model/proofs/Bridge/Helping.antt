-- Places 5 to 10, which push and pop share: a step of the tables is a step of the decoded machine.
use mathlib.Core.{Bool.{Bool, false, true}, Path.{◌∙◌, ◌≡◌, ap, refl, sym}}
use Prim.Native.Nat.{◌+◌, ◌<◌, ◌^◌, ◌≤◌, suc, ℕ}
use native.Mathlib.Omega.{arith}
use lib.Dec.{eqb}
use borrow.Author.Tests.{eqb-true}
use Rattle.word.specs.{declared.Anchor.Anchor, Anchor.{anchor_of, pack_anchor}, Link.{link_of, pack_link, spare_of}}
use Rattle.model.specs.Places.{at10, at5, at6, at7, at9, end_seen, link_side, move, row, set_link, side_of, word_found}
use Rattle.model.specs.{Route.{answer, goes, onward, pop_route, push_route}, Tables.{Tables, at_place}}
use Rattle.model.specs.declared.Call.{Call}
use Rattle.model.proofs.{Tests.Truth.split, Bridge.View.{anchor_seen, link_at, link_seen, rec_of, touch_seen, view}}
use Rattle.model.proofs.Bridge.Decoded.{AnchorRoom, LinkRoom, Seen, route_shared, same-touch}
use Rattle.model.proofs.Bridge.Words.{anchor-back, link-back, same-link_word, same_word, towards_status}
use Rattle.model.proofs.Machine.Machine as M

module _ (q : Tables) (r : Call) where
  abbrev at : ℕ → Call
  at p = at_place r p

  abbrev now : ℕ
  now = q.control.anchor

  -- Anchor as it is, and as read.
  abbrev current : Anchor
  current = anchor_of now

  abbrev a : Anchor
  a = anchor_of r.seen

  pub place5 : Seen q (at 5)
  unfolding rec_of view move at5 row link_side side_of onward push_route pop_route goes answer
  place5 =
      let z = towards_status a.status in
      split (eqb a.status 1) (λ e. rw (z, e, route_shared 5 r.kind 0 refl, e)) (λ e. rw (z, e, route_shared 5 r.kind 0 refl, e))

  pub place7 : Seen q (at 7)
  unfolding rec_of view move at7 row link_side side_of onward push_route pop_route goes answer
  place7 =
      let z = towards_status a.status in
      split (eqb a.status 1)
      (λ e. split (eqb (link_of (link_at q true r.neighbour)).slot a.right) (λ g. rw (z, e, g, route_shared 7 r.kind 0 refl, e))
      (λ g. rw (z, e, g, route_shared 7 r.kind 1 refl, e)))
      (λ e. split (eqb (link_of (link_at q false r.neighbour)).slot a.left) (λ g. rw (z, e, g, route_shared 7 r.kind 0 refl, e))
      (λ g. rw (z, e, g, route_shared 7 r.kind 1 refl, e)))

  -- The link word as read is compared with the word as it is.
  module _ (read-spare : spare_of r.link ≡ 0) (now-spare : (b : Bool) → spare_of (link_at q b r.neighbour) ≡ 0) where
    link-equal : (b : Bool) → M.same_link (link_seen r.link) (link_seen (link_at q b r.neighbour)) ≡ eqb (link_at q b r.neighbour) r.link
    link-equal b = same-link_word r.link (link_at q b r.neighbour) read-spare (now-spare b)

    raised : (b : Bool) (s : ℕ) → (link_of r.link).tag < 4294967295 → s < 2 ^ 15
        → M.put_link b r.neighbour (record { tag = suc (link_of r.link).tag; slot = s })
        ≡ M.put_link b r.neighbour (link_seen (pack_link (record { tag = (link_of r.link).tag + 1; slot = s })))
    raised b s h g = ap (M.put_link b r.neighbour)
        (sym (link-back ((link_of r.link).tag + 1) s (omega arith) g ∙ (let e : (link_of r.link).tag + 1 ≡ suc (link_of r.link).tag = omega arith in
        λ i. record { tag = e i; slot = s })))

    -- The side is the one that the status as read names: the machine's link is the word that place 9 finds, and the one that it writes.
    abbrev way : Bool
    way = M.towards (anchor_seen r.seen).status

    found9 : link_at q way r.neighbour ≡ word_found q (at 9)
    unfolding link_side row side_of
    found9 = let z = towards_status a.status in split (eqb a.status 1) (λ e. rw (z, e)) (λ e. rw (z, e))

    made9 : (link_of r.link).tag < 4294967295
        → M.put_link way r.neighbour (record { tag = suc (link_of r.link).tag; slot = M.tip (anchor_seen r.seen) way })
        ≡ touch_seen (set_link (link_side (at 9)) (row (at 9)) (pack_link (record { tag = (link_of r.link).tag + 1; slot = end_seen (at 9) })))
    unfolding link_side row side_of
    made9 h = let z = towards_status a.status in
        split (eqb a.status 1) (λ e. rw (z, e) (raised true a.right h (omega arith))) (λ e. rw (z, e) (raised false a.left h (omega arith)))

    pub place9 : LinkRoom q (at 9) → Seen q (at 9)
    unfolding rec_of view move at9 onward push_route pop_route goes answer
    place9 room = split (eqb (word_found q (at 9)) r.link)
        (λ g. rw (link-equal way, found9, g, route_shared 9 r.kind 0 refl)
        (same-touch (made9 (room (ap (λ (b : Bool). link_at q b r.neighbour) (sym (towards_status a.status)) ∙ found9 ∙ eqb-true _ _ g)))))
        (λ g. split (eqb r.finishing 1)
        (λ j. rw (link-equal way, found9, g, route_shared 9 r.kind 1 refl, j))
        (λ j. rw (link-equal way, found9, g, route_shared 9 r.kind 1 refl, j, j)))

  -- The Anchor as read is compared with Anchor as it is.
  module _ (now-status : current.status ≤ 2) (read-status : a.status ≤ 2) where
    equal : M.same (anchor_seen r.seen) (anchor_seen now) ≡ eqb now r.seen
    equal = same_word r.seen now read-status now-status

    pub place6 : Seen q (at 6)
    unfolding rec_of view move at6 row link_side side_of onward push_route pop_route goes answer
    place6 = split (eqb now r.seen)
        (λ e. rw (equal, e, route_shared 6 r.kind 0 refl))
        (λ e. split (eqb r.finishing 1) (λ g. rw (equal, e, route_shared 6 r.kind 1 refl, g)) (λ g. rw (equal, e, route_shared 6 r.kind 1 refl, g, g)))

    pub place8 : Seen q (at 8)
    unfolding rec_of view move at6 row link_side side_of onward push_route pop_route goes answer
    place8 = split (eqb now r.seen)
        (λ e. rw (equal, e, route_shared 8 r.kind 0 refl))
        (λ e. split (eqb r.finishing 1) (λ g. rw (equal, e, route_shared 8 r.kind 1 refl, g)) (λ g. rw (equal, e, route_shared 8 r.kind 1 refl, g, g)))

    -- A change of Anchor raises its tag, which has room.
    module _ (room : AnchorRoom q (at 0)) where
      settled_back : eqb now r.seen ≡ true
          → M.put_anchor (M.settled (anchor_seen r.seen)) ≡ M.put_anchor (anchor_seen (pack_anchor (record {
            tag = a.tag + 1;
            status = 0;
            left = a.left;
            right = a.right;
          })))
      settled_back e = ap M.put_anchor
          (sym (anchor-back a.tag 0 a.left a.right (room (eqb-true _ _ e)) (omega arith)
          (omega arith) (omega arith)))

      pub place10 : Seen q (at 10)
      unfolding rec_of view move at10 row link_side side_of onward push_route pop_route goes answer
      place10 = split (eqb now r.seen)
          (λ e. split (eqb r.finishing 1) (λ g. rw (equal, e, route_shared 10 r.kind 0 refl, g) (same-touch (settled_back e)))
          (λ g. rw (equal, e, route_shared 10 r.kind 0 refl, g, g) (same-touch (settled_back e))))
          (λ e. split (eqb r.finishing 1) (λ g. rw (equal, e, route_shared 10 r.kind 1 refl, g))
          (λ g. rw (equal, e, route_shared 10 r.kind 1 refl, g, g)))
