-- The test that a tag has room, place by place, says just what a change needs.
use mathlib.Core.{Bool.{Bool, false, true}, Logic.◌≢◌, Path.{◌∙◌, ◌≡◌, ap, refl}}
use Prim.Native.Nat.{◌<◌, ◌≤◌, ℕ}
use lib.Dec.{eqb, ltb}
use borrow.Author.Tests.{eq-eqb, eqb-true, lt-ltb, ltb-true}
use Rattle.word.specs.{Anchor.anchor_of, Link.link_of}
use Rattle.model.specs.Places.{at1, at10, at11, at12, at13, at14, at15, at16, at17, at2, at3, at4, at5, at6, at7}
use Rattle.model.specs.{Places.{at9, word_found, link_side, move, row, side_of}, Refusals.has_room}
use Rattle.model.specs.{Tables.{at_place, Tables, is_pooled}, declared.Call.Call}
use Rattle.model.proofs.{Tests.{ByPlace.by_place, Truth.split}, Bridge.{Decoded.RoomAt, View.{link_at, place_of}}}

module _ (q : Tables) (r : Call) where
  abbrev at : ℕ → Call
  at p = at_place r p

  abbrev Test : ℕ → Type 0
  Test p = has_room (at p) (move q.control (at p) (word_found q (at p))).touch ≡ true

  abbrev now : ℕ
  now = q.control.anchor

  abbrev a : ℕ
  a = r.seen

  abbrev w : ℕ
  w = r.link

  abbrev n : ℕ
  n = r.neighbour

  -- From the test.
  module _ (busy : r.place ≢ 0) (h : r.place ≤ 17) where
    pub room_tested : has_room r (move q.control r (word_found q r)).touch ≡ true → RoomAt q r (place_of r.place)
    unfolding move at2 at4 at9 at10 at14 at17 row link_side side_of
    room_tested = by_place (λ p. Test p → RoomAt q (at p) (place_of p))
        (λ e. tt)
        (λ e z. ltb-true (anchor_of a).tag 4294967295 (rw (eq-eqb now a z) at e))
        (λ e. tt)
        (λ e z. ltb-true (anchor_of a).tag 4294967295 (rw (eq-eqb now a z) at e))
        (λ e. tt)
        (λ e. tt)
        (λ e. tt)
        (λ e. tt)
        (λ e z. split (eqb (anchor_of a).status 1)
        (λ g. let y : link_at q true n ≡ w = rw g at z in ltb-true (link_of w).tag 4294967295 (rw (g, eq-eqb (link_at q true n) w y) at e))
        (λ g. let y : link_at q false n ≡ w = rw g at z in ltb-true (link_of w).tag 4294967295 (rw (g, eq-eqb (link_at q false n) w y) at e)))
        (λ e z. ltb-true (anchor_of a).tag 4294967295 (rw (eq-eqb now a z) at e))
        (λ e. tt)
        (λ e. tt)
        (λ e. tt)
        (λ e z. ltb-true (link_of w).tag 4294967295 (rw (eq-eqb q.control.head w z) at e))
        (λ e. tt)
        (λ e. tt)
        (λ e z. ltb-true (link_of w).tag 4294967295 (rw (eq-eqb q.control.head w z) at e))
        r.place busy h

    -- To the test.
    anchor_test : (now ≡ a → (anchor_of a).tag < 4294967295) → eqb now a ≡ true → ltb (anchor_of a).tag 4294967295 ≡ true
    anchor_test m e = lt-ltb _ _ (m (eqb-true _ _ e))

    pub room_testing : RoomAt q r (place_of r.place) → has_room r (move q.control r (word_found q r)).touch ≡ true
    unfolding move at1 at2 at3 at4 at5 at6 at7 at9 at10 at11 at12 at13 at14 at15 at16 at17 row link_side side_of
    room_testing = by_place (λ p. RoomAt q (at p) (place_of p) → Test p)
        (λ m. refl)
        (λ m. split (eqb now a) (λ e. rw e (anchor_test m e)) (λ e. rw e))
        (λ m. split (eqb r.kind 0) (λ e. rw e) (λ e. rw e))
        (λ m. split (eqb now a) (λ e. rw e (anchor_test m e)) (λ e. rw e))
        (λ m. refl)
        (λ m. refl)
        (λ m. refl)
        (λ m. refl)
        (λ m. split (eqb (anchor_of a).status 1)
        (λ g. split (eqb (link_at q true n) w) (λ e. rw (g, e) (lt-ltb _ _ (m (ap (λ (b : Bool). link_at q b n) g ∙ eqb-true _ _ e)))) (λ e. rw (g, e)))
        (λ g. split (eqb (link_at q false n) w) (λ e. rw (g, e) (lt-ltb _ _ (m (ap (λ (b : Bool). link_at q b n) g ∙ eqb-true _ _ e))))
        (λ e. rw (g, e))))
        (λ m. split (eqb now a) (λ e. rw e (anchor_test m e)) (λ e. rw e))
        (λ m. split (is_pooled q.control) (λ e. rw e) (λ e. rw e))
        (λ m. refl)
        (λ m. refl)
        (λ m. split (eqb q.control.head w) (λ e. rw e (lt-ltb _ _ (m (eqb-true _ _ e)))) (λ e. rw e))
        (λ m. refl)
        (λ m. refl)
        (λ m. split (eqb q.control.head w) (λ e. rw e (lt-ltb _ _ (m (eqb-true _ _ e)))) (λ e. rw e))
        r.place busy h
