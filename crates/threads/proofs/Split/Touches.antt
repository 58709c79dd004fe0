-- What a place touches where every word is as read, at the places whose touch hangs on a test; and the move at 11.
use mathlib.Core.{Path.{◌≡◌, refl, ap}, Bool.{Bool, true, false, cond}}
use Prim.Native.Nat.{ℕ, ◌+◌}
use lib.Dec.{eqb}
use borrow.Author.Tests.{eq-eqb}
use Rattle.word.specs.{Anchor.{anchor_of, pack_anchor}, Link.{link_of, pack_link}}
use Rattle.model.specs.{declared.{Control.Control, Call.Call}, Sides.facing, Kinds.{is_push, is_pop}}
use Rattle.model.{specs.Tables.{is_pooled, at_place, with_seen, with_own, with_neighbour}, proofs.Tests.Truth.split}
use Rattle.model.specs.Places.{Touch, nothing, set_anchor, set_link, clear_mark, take_slot, set_head, Move, raised, reading}
use Rattle.model.specs.Places.{row, side_of, link_side, end_seen, new4, move, at2, at3, at4, at9, at10, at11, at14, at17}
use Rattle.threads_model.specs.Split.{knowing, touch_as_read}

-- A word equals itself.
pub same : (n : ℕ) → eqb n n ≡ true
same n = eq-eqb n n refl

abbrev pub done : Touch → Call → Move
done t s = record { touch = t; task = s; branch = 0; failed = false }

abbrev pub failed : Call → ℕ → Move
failed s branch = record { touch = nothing; task = s; branch = branch; failed = true }

module _ (r : Call) where
  -- A failed change at 2 or 4 reads on.
  abbrev again : ℕ → Control → Move
  again n c = failed (with_seen (at_place r n) c.anchor r.finishing) (reading (is_pop r) (anchor_of c.anchor) + 1)

  -- What a record knows where every word is as read.
  abbrev as_read : ℕ → ℕ → Control
  as_read pooled slots = knowing pooled slots r.seen r.link

  abbrev pub new2 : ℕ
  new2 =
      let a = anchor_of r.seen in
      let end : ℕ = cond (is_push r) r.own 0 in
      pack_anchor (facing (side_of (at_place r 2)) (a.tag + 1) a.status end end)

  abbrev pub new10 : ℕ
  new10 = let a = anchor_of r.seen in pack_anchor (record { tag = a.tag + 1; status = 0; left = a.left; right = a.right })

  abbrev pub put3 : ℕ → Touch
  put3 w = set_link (link_side (at_place r 3)) (row (at_place r 3)) (pack_link (record { tag = (link_of w).tag; slot = end_seen (at_place r 3) }))

  abbrev pub swap9 : Touch
  swap9 = set_link (link_side (at_place r 9)) (row (at_place r 9)) (pack_link (record { tag = (link_of r.link).tag + 1; slot = end_seen (at_place r 9) }))

  abbrev pub draw14 : Touch
  draw14 = take_slot (raised (at_place r 14) r.neighbour) (row (at_place r 14)) r.label

  abbrev pub swap17 : Touch
  swap17 = set_head (raised (at_place r 17) r.own)

  pub touch2 : (pooled slots : ℕ) → touch_as_read pooled slots (at_place r 2) ≡ set_anchor new2
  unfolding move at2
  touch2 pooled slots = ap (λ (b : Bool). (cond b (done (set_anchor new2) (at_place r 2)) (again 2 (as_read pooled slots))).touch) (same r.seen)

  pub touch4 : (pooled slots : ℕ) → touch_as_read pooled slots (at_place r 4) ≡ set_anchor (new4 (at_place r 4))
  unfolding move at4
  touch4 pooled slots = ap
      (λ (b : Bool). (cond b (done (set_anchor (new4 (at_place r 4))) (cond (is_push r) (with_seen (at_place r 4) (new4 (at_place r 4)) 1) (at_place r 4)))
      (again 4 (as_read pooled slots))).touch) (same r.seen)

  pub touch10 : (pooled slots : ℕ) → touch_as_read pooled slots (at_place r 10) ≡ set_anchor new10
  unfolding move at10
  touch10 pooled slots = ap (λ (b : Bool). (cond b (done (set_anchor new10) (at_place r 10)) (failed (at_place r 10) 1)).touch) (same r.seen)

  pub touch9 : (pooled slots : ℕ) → touch_as_read pooled slots (at_place r 9) ≡ swap9
  unfolding move at9
  touch9 pooled slots = ap (λ (b : Bool). (cond b (done swap9 (at_place r 9)) (failed (at_place r 9) 1)).touch) (same r.link)

  pub touch14 : (pooled slots : ℕ) → touch_as_read pooled slots (at_place r 14) ≡ draw14
  unfolding move at14
  touch14 pooled slots = ap (λ (b : Bool). (cond b (done draw14 (with_own (at_place r 14) (row (at_place r 14)) r.label)) (failed (at_place r 14) 1)).touch)
      (same r.link)

  pub touch17 : (pooled slots : ℕ) → touch_as_read pooled slots (at_place r 17) ≡ swap17
  unfolding move at17
  touch17 pooled slots = ap (λ (b : Bool). (cond b (done swap17 (at_place r 17)) (failed (at_place r 17) 1)).touch) (same r.link)

  abbrev reads3 : ℕ → Move
  reads3 w = done nothing (with_neighbour (at_place r 3) (link_of w).slot)

  pub touch3 : (pooled slots : ℕ) → eqb r.kind 0 ≡ true → touch_as_read pooled slots (at_place r 3) ≡ put3 r.link
  unfolding move at3
  touch3 pooled slots p = ap (λ (b : Bool). (cond b (done (put3 r.link) (at_place r 3)) (reads3 r.link)).touch) p

  pub touch3_pop : (pooled slots : ℕ) → eqb r.kind 0 ≡ false → touch_as_read pooled slots (at_place r 3) ≡ nothing
  unfolding move at3
  touch3_pop pooled slots p = ap (λ (b : Bool). (cond b (done (put3 r.link) (at_place r 3)) (reads3 r.link)).touch) p

  abbrev cleared11 : Bool → ℕ → Move
  cleared11 b w =
      cond b (record { touch = clear_mark (row (at_place r 11)); task = with_own (at_place r 11) (row (at_place r 11)) w; branch = 1; failed = false })
      (done (clear_mark (row (at_place r 11))) (at_place r 11))

  pub moves11 : (c : Control) (w : ℕ) → move c (at_place r 11) w ≡ cleared11 (is_pooled c) w
  unfolding move at11
  moves11 c w = refl

  pub touch11 : (pooled slots : ℕ) → touch_as_read pooled slots (at_place r 11) ≡ clear_mark (row (at_place r 11))
  unfolding move at11
  touch11 pooled slots =
      split (eqb pooled 1)
      (λ p. ap (λ (b : Bool). (cleared11 b r.link).touch) p)
      (λ p. ap (λ (b : Bool). (cleared11 b r.link).touch) p)
