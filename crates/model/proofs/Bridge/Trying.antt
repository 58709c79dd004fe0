-- Places 1 to 4, where push and pop differ: a step of the tables is a step of the decoded machine.
use mathlib.Core.{Bool.{Bool, false, true}, Path.{◌≡◌, ap, sym}}
use Prim.Native.Nat.{◌+◌, ◌<◌, ◌^◌, ◌≤◌, ℕ}
use native.Mathlib.Omega.{arith}
use lib.Dec.{eqb}
use borrow.Author.Tests.{eq-eqb, eqb-true}
use Rattle.word.specs.{declared.Anchor.Anchor, Anchor.{anchor_of, pack_anchor}, Link.link_of}
use Rattle.model.specs.{Calls.entry_of, Kinds.is_pop, Sides.facing, Tables.{Tables, at_place, of_kind, with_seen}}
use Rattle.model.specs.Places.{at1, at2, at3, at4, link_side, move, new4, reading, row, side_of}
use Rattle.model.specs.{Route.{answer, goes, onward, pop_route, push_route, route}, declared.Call.Call}
use Rattle.model.proofs.{Tests.Truth.split, Bridge.Decoded.{AnchorRoom, Seen, same-touch}}
use Rattle.model.proofs.Bridge.View.{anchor_seen, answer_seen, kind_of, link_at, rec_of, status_of, view}
use Rattle.model.proofs.Bridge.Words.{anchor-back, link-back, same_word, stable_status}
use Rattle.model.proofs.Machine.Machine as M

module _ (q : Tables) (r : Call) where
  -- At a place and of a kind: 0 push, 1 pop.
  abbrev at : ℕ → ℕ → Call
  at p k = at_place (of_kind r k r.side) p

  abbrev now : ℕ
  now = q.control.anchor

  -- Anchor as it is, and as read.
  abbrev current : Anchor
  current = anchor_of now

  abbrev a : Anchor
  a = anchor_of r.seen

  module _ (now-status : current.status ≤ 2) where
    -- Null ends are one test; a pop tests l = r before the status.
    module _ (null : current.left ≡ 0 → current.right ≡ 0) where
      none_right : eqb current.left 0 ≡ true → eqb current.right 0 ≡ true
      none_right e = eq-eqb _ _ (null (eqb-true _ _ e))

      stable : M.is_stable (status_of current.status) ≡ eqb current.status 0
      stable = stable_status current.status now-status

      -- The cases of a reading: at place 1, and after a failed change.
      abbrev some : Bool → Type 0 → Type 0
      some b A = eqb current.left 0 ≡ false → eqb current.status 0 ≡ b → A

      push_reads : {A : Type 0} → (eqb current.left 0 ≡ true → A) → some true A → some false A → A
      push_reads none settled pushing =
          split (eqb current.left 0) none (λ z. split (eqb current.status 0) (settled z) (pushing z))

      abbrev single : Bool → Type 0 → Type 0
      single b A = eqb current.left current.right ≡ b → A

      pop_reads : {A : Type 0} → (eqb current.left 0 ≡ true → A)
          → (eqb current.left 0 ≡ false → single true A) → single false (some true A) → single false (some false A) → A
      pop_reads none only settled pushing =
          split (eqb current.left current.right)
          (λ g. split (eqb current.left 0) none (λ z. only z g))
          (λ g. push_reads none (settled g) (pushing g))

      pub place1_push : Seen q (at 1 0)
      unfolding rec_of view move at1 reading onward route push_route pop_route goes answer
      place1_push = push_reads (λ z. rw (z, none_right z)) (λ z y. rw (z, stable, y)) (λ z y. rw (z, stable, y))

      pub place1_pop : Seen q (at 1 1)
      unfolding rec_of view move at1 reading onward route push_route pop_route goes answer
      place1_pop = pop_reads (λ z. rw (z, none_right z)) (λ z g. rw (z, g)) (λ g z y. rw (z, g, stable, y)) (λ g z y. rw (z, g, stable, y))

    -- A change of Anchor raises its tag, which has room; a failed one reads.
    module _ (null : current.left ≡ 0 → current.right ≡ 0) (read-status : a.status ≤ 2) (room : AnchorRoom q (at 0 0)) where
      equal : M.same (anchor_seen r.seen) (anchor_seen now) ≡ eqb now r.seen
      equal = same_word r.seen now read-status now-status

      both_back : (y : ℕ) → y < 2 ^ 15 → eqb now r.seen ≡ true
          → M.put_anchor (M.both (anchor_seen r.seen) y) ≡ M.put_anchor (anchor_seen (pack_anchor (facing r.side (a.tag + 1) a.status y y)))
      both_back y h e =
          let z = ap M.put_anchor (sym (anchor-back a.tag a.status y y (room (eqb-true _ _ e)) read-status h h)) in
          split (eqb r.side 1) (λ g. rw g z) (λ g. rw g z)

      -- What a failed change at place p reads, as at 1.
      abbrev onto : ℕ → ℕ → ℕ
      onto p k = onward (route p k (reading (is_pop (at p k)) current + 1)) r.finishing

      abbrev Reads : ℕ → ℕ → Type 0
      Reads p k = M.one (kind_of k) (view q) (rec_of (at p k)) ≡ record {
        touch = M.none;
        rec = rec_of (goes (with_seen (at p k) now r.finishing) (onto p k));
        answer = answer_seen (answer (onto p k) (entry_of q (at p k)));
      }

      pushed_reads2 : Reads 2 0
      unfolding rec_of view reading onward route push_route pop_route goes answer
      pushed_reads2 = push_reads null (λ z. rw (z, none_right null z)) (λ z y. rw (z, stable null, y)) (λ z y. rw (z, stable null, y))

      popped_reads2 : Reads 2 1
      unfolding rec_of view reading onward route push_route pop_route goes answer
      popped_reads2 = pop_reads null (λ z. rw (z, none_right null z)) (λ z g. rw (z, g)) (λ g z y. rw (z, g, stable null, y))
          (λ g z y. rw (z, g, stable null, y))

      pushed_reads4 : Reads 4 0
      unfolding rec_of view reading onward route push_route pop_route goes answer
      pushed_reads4 = push_reads null (λ z. rw (z, none_right null z)) (λ z y. rw (z, stable null, y)) (λ z y. rw (z, stable null, y))

      popped_reads4 : Reads 4 1
      unfolding rec_of view reading onward route push_route pop_route goes answer
      popped_reads4 = pop_reads null (λ z. rw (z, none_right null z)) (λ z g. rw (z, g)) (λ g z y. rw (z, g, stable null, y))
          (λ g z y. rw (z, g, stable null, y))

      pub place2_push : r.own < 2 ^ 15 → Seen q (at 2 0)
      unfolding rec_of view move at2 reading row link_side side_of onward route push_route pop_route goes answer
      place2_push h =
          split (eqb now r.seen) (λ e. rw (equal, e) (same-touch (both_back r.own h e)))
          (λ e. rw (equal, e) pushed_reads2)

      pub place2_pop : Seen q (at 2 1)
      unfolding rec_of view move at2 reading row link_side side_of onward route push_route pop_route goes answer
      place2_pop =
          split (eqb now r.seen) (λ e. rw (equal, e) (same-touch (both_back 0 (omega arith) e)))
          (λ e. rw (equal, e) popped_reads2)

      push_back : r.own < 2 ^ 15 → eqb now r.seen ≡ true
          → M.aimed (anchor_seen r.seen) (eqb r.side 1) r.own (M.pushing (eqb r.side 1)) ≡ anchor_seen (new4 (at 4 0))
      unfolding new4 side_of
      push_back h e = split (eqb r.side 1)
          (λ g. rw g (sym (anchor-back a.tag 1 a.left r.own (room (eqb-true _ _ e)) (omega arith) (omega arith) h)))
          (λ g. rw g (sym (anchor-back a.tag 2 r.own a.right (room (eqb-true _ _ e)) (omega arith) h (omega arith))))

      pop_back : r.neighbour < 2 ^ 15 → eqb now r.seen ≡ true
          → M.aimed (anchor_seen r.seen) (eqb r.side 1) r.neighbour (status_of a.status) ≡ anchor_seen (new4 (at 4 1))
      unfolding new4 side_of
      pop_back h e = split (eqb r.side 1)
          (λ g. rw g (sym (anchor-back a.tag a.status a.left r.neighbour (room (eqb-true _ _ e)) read-status (omega arith) h)))
          (λ g. rw g (sym (anchor-back a.tag a.status r.neighbour a.right (room (eqb-true _ _ e)) read-status h (omega arith))))

      pub place4_push : r.own < 2 ^ 15 → Seen q (at 4 0)
      unfolding rec_of view move at4 reading row link_side side_of onward route push_route pop_route goes answer
      place4_push h =
          split (eqb now r.seen) (λ e. rw (equal, e) (ap (λ (b : M.Anchor). M.runs (M.put_anchor b) (M.finishes (rec_of (at 4 0)) b)) (push_back h e)))
          (λ e. rw (equal, e) pushed_reads4)

      pub place4_pop : r.neighbour < 2 ^ 15 → Seen q (at 4 1)
      unfolding rec_of view move at4 reading row link_side side_of onward route push_route pop_route goes answer
      place4_pop h =
          split (eqb now r.seen) (λ e. rw (equal, e) (same-touch (ap M.put_anchor (pop_back h e))))
          (λ e. rw (equal, e) popped_reads4)

  pub place3_push : ((b : Bool) → (link_of (link_at q b r.own)).tag < 2 ^ 32) → Seen q (at 3 0)
  unfolding rec_of view move at3 row link_side side_of onward route push_route pop_route goes answer
  place3_push h = split (eqb r.side 1)
      (λ e. rw e (same-touch (ap (M.put_link false r.own) (sym (link-back (link_of (link_at q false r.own)).tag a.right (h false) (omega arith))))))
      (λ e. rw e (same-touch (ap (M.put_link true r.own) (sym (link-back (link_of (link_at q true r.own)).tag a.left (h true) (omega arith))))))

  pub place3_pop : Seen q (at 3 1)
  unfolding rec_of view move at3 row link_side side_of onward route push_route pop_route goes answer
  place3_pop = split (eqb r.side 1) (λ e. rw e) (λ e. rw e)
