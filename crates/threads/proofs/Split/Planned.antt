-- What each place asks, in the terms of the code.
use mathlib.Core.{Path.{◌≡◌, refl, ap, sym, ◌∙◌}, Bool.{Bool, true, false, cond}}
use Prim.Native.Nat.{ℕ, ◌+◌, ◌/◌, ◌^◌}
use lib.Dec.{eqb, ltb}
use Rattle.word.specs.{Anchor.{anchor_of, pack_anchor}, Link.{link_of, pack_link}}
use Rattle.model.specs.{declared.Call.Call, Tables.at_place, Sound.from1, Sides.{far, facing, pushing}}
use Rattle.model.specs.Places.{Touch, nothing, set_anchor, row, side_of, link_side, new4, move, at1, at2, at3, at4, at5}
use Rattle.model.specs.Places.{at6, at7, at9, at10, at11, at12, at13, at14, at15, at16, at17}
use Rattle.model.proofs.Tests.Truth.{split}
use Rattle.decide.specs.Ending.{may_change}
use Rattle.threads_model.specs.{declared.PlannedTouch.PlannedTouch, Split.{touch_as_read, planned}}
use Rattle.threads_model.specs.Split.{plan_of, refuses, loads_anchor, swaps_anchor, loads_link, loads_head, loads, plan_for}
use Rattle.threads.proofs.Split.Touches as touches

-- The side that a status names, and its opposite.
mirror : (b : Bool) → eqb (cond b 1 0) 1 ≡ b
mirror true = refl
mirror false = refl

module _ (pooled slots : ℕ) (r : Call) where
  abbrev pub own : Bool
  own = eqb r.side 1

  abbrev pub status_right : Bool
  status_right = eqb (anchor_of r.seen).status 1

  abbrev pub end : Bool → ℕ
  end right = cond right (anchor_of r.seen).right (anchor_of r.seen).left

  abbrev at : ℕ → PlannedTouch
  at n = planned pooled slots (at_place r n)

  -- The plan by its touch.
  via : (n : ℕ) {t : Touch} → touch_as_read pooled slots (at_place r n) ≡ t → plan_for slots (at_place r n) t ≡ at n
  unfolding planned
  via n e = ap (plan_for slots (at_place r n)) (sym e)

  abbrev touched : ℕ → Touch
  touched n = touch_as_read pooled slots (at_place r n)

  pub plan1 : loads_anchor ≡ at 1
  unfolding planned loads move at1
  plan1 = refl

  pub plan6 : loads_anchor ≡ at 6
  unfolding planned loads move at6
  plan6 = refl

  pub plan8 : loads_anchor ≡ at 8
  unfolding planned loads move at6
  plan8 = refl

  touch2 : (e new : ℕ) → e ≡ cond (eqb r.kind 0) r.own 0
      → new ≡ pack_anchor (facing r.side (r.seen / 2 ^ 32 + 1) (anchor_of r.seen).status e e) → touched 2 ≡ set_anchor new
  unfolding move at2 side_of
  touch2 e new x y = touches.touch2 r pooled slots ∙ ap set_anchor (sym (rw x at y))

  pub plan2 : (e new : ℕ) → e ≡ cond (eqb r.kind 0) r.own 0
      → new ≡ pack_anchor (facing r.side (r.seen / 2 ^ 32 + 1) (anchor_of r.seen).status e e)
      → cond (may_change slots r.seen new) (swaps_anchor r.seen new) loads_anchor ≡ at 2
  unfolding loads may_change
  plan2 e new x y = via 2 (touch2 e new x y)

  touch4 : (status e new : ℕ)
      → status ≡ cond (eqb r.kind 0) (pushing r.side) (anchor_of r.seen).status
      → e ≡ cond (eqb r.kind 0) r.own r.neighbour
      → new ≡ pack_anchor (facing r.side (r.seen / 2 ^ 32 + 1) status e (far r.side (anchor_of r.seen))) → touched 4 ≡ set_anchor new
  unfolding move at4 new4 side_of
  touch4 status e new x y z =
      touches.touch4 r pooled slots
      ∙ split (eqb r.kind 0)
      (λ k. ap set_anchor (rw k (sym (rw (x, y, k) at z))))
      (λ k. ap set_anchor (rw k (sym (rw (x, y, k) at z))))

  pub plan4 : (status e new : ℕ)
      → status ≡ cond (eqb r.kind 0) (pushing r.side) (anchor_of r.seen).status
      → e ≡ cond (eqb r.kind 0) r.own r.neighbour
      → new ≡ pack_anchor (facing r.side (r.seen / 2 ^ 32 + 1) status e (far r.side (anchor_of r.seen)))
      → cond (may_change slots r.seen new) (swaps_anchor r.seen new) loads_anchor ≡ at 4
  unfolding loads may_change
  plan4 status e new x y z = via 4 (touch4 status e new x y z)

  touch10 : (new : ℕ)
      → new ≡ pack_anchor (record { tag = r.seen / 2 ^ 32 + 1; status = 0; left = (anchor_of r.seen).left; right = (anchor_of r.seen).right })
      → touched 10 ≡ set_anchor new
  unfolding move at10
  touch10 new x = touches.touch10 r pooled slots ∙ ap set_anchor (sym x)

  pub plan10 : (new : ℕ)
      → new ≡ pack_anchor (record { tag = r.seen / 2 ^ 32 + 1; status = 0; left = (anchor_of r.seen).left; right = (anchor_of r.seen).right })
      → cond (may_change slots r.seen new) (swaps_anchor r.seen new) loads_anchor ≡ at 10
  unfolding loads may_change
  plan10 new x = via 10 (touch10 new x)

  asked3 : eqb r.kind 0 ≡ true → from1 slots r.own ≡ true
      → plan_for slots (at_place r 3) (touches.put3 r r.link) ≡ plan_of 5 (cond own 0 1) r.own 0 (end own) 0
  unfolding loads row side_of link_side
  asked3 k f = rw (k, f)

  pub put3 : eqb r.kind 0 ≡ true → from1 slots r.own ≡ true → plan_of 5 (cond own 0 1) r.own 0 (end own) 0 ≡ at 3
  put3 k f = sym (asked3 k f) ∙ via 3 (touches.touch3 r pooled slots k)

  pub refused3 : eqb r.kind 0 ≡ true → from1 slots r.own ≡ false → refuses 34 ≡ at 3
  unfolding planned loads move at3 row side_of link_side
  refused3 k f = rw (k, f)

  asked3_pop : eqb r.kind 0 ≡ false
      → plan_for slots (at_place r 3) nothing ≡ cond (from1 slots (end own)) (loads_link (cond own 0 1) (end own)) (refuses 34)
  unfolding loads row side_of link_side
  asked3_pop k = split (from1 slots (end own)) (λ f. rw (k, f)) (λ f. rw (k, f))

  pub read3 : eqb r.kind 0 ≡ false → cond (from1 slots (end own)) (loads_link (cond own 0 1) (end own)) (refuses 34) ≡ at 3
  read3 k = sym (asked3_pop k) ∙ via 3 (touches.touch3_pop r pooled slots k)

  pub plan5 : cond (from1 slots (end status_right)) (loads_link (cond status_right 0 1) (end status_right)) (refuses 34) ≡ at 5
  unfolding planned loads move at5 row side_of link_side
  plan5 = split (from1 slots (end status_right)) (λ f. rw (mirror, f)) (λ f. rw (mirror, f))

  pub plan7 : cond (from1 slots r.neighbour) (loads_link (cond status_right 1 0) r.neighbour) (refuses 34) ≡ at 7
  unfolding planned loads move at7 row side_of link_side
  plan7 = split (from1 slots r.neighbour) (λ f. rw f) (λ f. rw f)

  pub outside9 : from1 slots r.neighbour ≡ false → refuses 34 ≡ at 9
  unfolding planned loads move at9 row side_of link_side
  outside9 f = rw f

  abbrev pub room : Bool
  room = ltb (link_of r.link).tag 4294967295

  abbrev raised : ℕ → ℕ
  raised x = pack_link (record { tag = r.link / 2 ^ 32 + 1; slot = x })

  pub swap9 : from1 slots r.neighbour ≡ true → room ≡ true
      → plan_of 4 (cond status_right 1 0) r.neighbour r.link (raised (end status_right)) 0 ≡ at 9
  unfolding loads move at9 row side_of link_side
  swap9 f l = sym (rw (f, l, mirror)) ∙ via 9 (touches.touch9 r pooled slots)

  pub load9 : from1 slots r.neighbour ≡ true → room ≡ false → plan_of 3 (cond status_right 1 0) r.neighbour 0 0 0 ≡ at 9
  unfolding loads move at9 row side_of link_side
  load9 f l = sym (rw (f, l)) ∙ via 9 (touches.touch9 r pooled slots)

  pub take11 : from1 slots (end own) ≡ true → plan_of 6 0 (end own) 0 0 0 ≡ at 11
  unfolding loads move at11 row side_of
  take11 f = sym (rw f) ∙ via 11 (touches.touch11 r pooled slots)

  pub refused11 : from1 slots (end own) ≡ false → refuses 34 ≡ at 11
  unfolding planned loads move at11 row side_of
  refused11 f = rw f

  pub plan12 : loads_head ≡ at 12
  unfolding planned loads move at12
  plan12 = refl

  pub plan13 : plan_of 10 0 (link_of r.link).slot 0 0 0 ≡ at 13
  unfolding planned loads move at13 row
  plan13 = refl

  pub draw14 : room ≡ true → plan_of 9 0 (link_of r.link).slot r.link (raised r.neighbour) r.label ≡ at 14
  unfolding loads move at14 row
  draw14 l = sym (rw l) ∙ via 14 (touches.touch14 r pooled slots)

  pub load14 : room ≡ false → loads_head ≡ at 14
  unfolding loads move at14 row
  load14 l = sym (rw l) ∙ via 14 (touches.touch14 r pooled slots)

  pub plan15 : loads_head ≡ at 15
  unfolding planned loads move at15
  plan15 = refl

  pub plan16 : plan_of 11 0 r.own 0 (link_of r.link).slot 0 ≡ at 16
  unfolding planned loads move at16 row
  plan16 = refl

  pub swap17 : room ≡ true → plan_of 8 0 0 r.link (raised r.own) 0 ≡ at 17
  unfolding loads move at17
  swap17 l = sym (rw l) ∙ via 17 (touches.touch17 r pooled slots)

  pub load17 : room ≡ false → loads_head ≡ at 17
  unfolding loads move at17
  load17 l = sym (rw l) ∙ via 17 (touches.touch17 r pooled slots)
