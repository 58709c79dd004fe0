-- At places 1 to 10 plan, touch and settlement are the model's step there.
use mathlib.Core.{Path.{◌≡◌, refl, ap, sym, ◌∙◌}, Bool.{Bool, true, false, ◌&&◌, not, cond}}
use Prim.Native.Nat.{ℕ, ◌+◌}
use lib.{Dec.eqb, ListN.get_or}
use Rattle.word.specs.{Anchor.anchor_of, Link.{link_of, pack_link}}
use Rattle.model.specs.{declared.{Control.Control, Call.Call}, Sides.links, Kinds.{is_push, is_pop}}
use Rattle.model.specs.{Tables.{Tables, at_place, with_seen, with_neighbour, counting}, Route.{route, push_route, pop_route}}
use Rattle.model.specs.{Sound.{from1, anchor_sound, link_sound}, Places.{at2, at3, at4, at5, at6, at7, at9, at10}}
use Rattle.model.specs.Places.{Touch, nothing, set_anchor, Move, apply, reading, row, link_side, end_seen, new4, move, at1}
use Rattle.model.specs.{Refusals.{leaves_sound, has_room, step_sound}, Calls.{Acted, decide, finish}}
use Rattle.model.proofs.Tests.Truth.{split, either}
use Rattle.places.specs.Arm.{step_at}
use Rattle.decide.proofs.Routes.{kinds, readings, Quiet}
use Rattle.threads.proofs.Split.Touches as touches
use Rattle.threads.proofs.Split.Settlement.{any_entry, told, settled_with, one, none, row_splits, change_splits}
use Rattle.threads.proofs.Split.Settlement.{row_change_splits}
use Rattle.threads_model.specs.declared.PlannedTouch.{PlannedTouch}
use Rattle.threads_model.specs.Split.{refuses, refusing, swaps_anchor, loads_anchor, swaps_link, loads_link, puts_link, gone}
use Rattle.threads_model.specs.Split.{loads, touch_as_read, plan_for, planned, perform, settled_at, meets_anchor}

module _ (q : Tables) (k : ℕ) where
  abbrev pub c : Control
  c = q.control

  abbrev pub split_with : Call → PlannedTouch → Acted
  split_with r p = settled_with q k r (perform q p).tables (perform q p).found

  abbrev pub Splits : Call → Type 0
  Splits r = split_with r (planned c.pooled c.slots r) ≡ step_at r.place q r k

  module _ (sound : anchor_sound c.slots (anchor_of c.anchor) ≡ true) (r : Call) where
    -- The plan by its touch.
    pub by_touch : (n : ℕ) {t : Touch} → touch_as_read c.pooled c.slots (at_place r n) ≡ t
        → split_with (at_place r n) (plan_for c.slots (at_place r n) t) ≡ step_at n q (at_place r n) k → Splits (at_place r n)
    unfolding planned
    by_touch n e h = ap (λ (t : Touch). split_with (at_place r n) (plan_for c.slots (at_place r n) t)) e ∙ h

    pub quiet : (n o : ℕ) → Quiet (route n 0 o) → Quiet (route n 1 o) → Quiet (route n r.kind o)
    quiet n o a b = kinds Quiet n r.kind o a b

    -- of two branches, whichever is taken
    pub quiet2 : (n : ℕ) (b : Bool) → Quiet (route n r.kind 0) → Quiet (route n r.kind 1) → Quiet (route n r.kind (cond b 0 1))
    quiet2 n b x y = either (λ (o : ℕ). Quiet (route n r.kind o)) b x y

    abbrev seen : ℕ
    seen = reading (is_pop r) (anchor_of c.anchor)

    quiet_read : Quiet (route 1 r.kind seen)
    unfolding route push_route pop_route
    quiet_read = readings (λ o. Quiet (route 1 r.kind o)) (is_pop r) (anchor_of c.anchor)
        (quiet 1 0 refl refl) (quiet 1 1 refl refl) (quiet 1 2 refl refl) (quiet 1 3 refl refl)

    quiet_again2 : Quiet (route 2 r.kind (seen + 1))
    unfolding route push_route pop_route
    quiet_again2 = readings (λ o. Quiet (route 2 r.kind (o + 1))) (is_pop r) (anchor_of c.anchor)
        (quiet 2 1 refl refl) (quiet 2 2 refl refl) (quiet 2 3 refl refl) (quiet 2 4 refl refl)

    quiet_again4 : Quiet (route 4 r.kind (seen + 1))
    unfolding route push_route pop_route
    quiet_again4 = readings (λ o. Quiet (route 4 r.kind (o + 1))) (is_pop r) (anchor_of c.anchor)
        (quiet 4 1 refl refl) (quiet 4 2 refl refl) (quiet 4 3 refl refl) (quiet 4 4 refl refl)

    pub split1 : Splits (at_place r 1)
    unfolding planned loads perform meets_anchor settled_at gone step_at step_sound move at1 finish
    split1 = rw sound (told _ _ (any_entry _ _ _ _ quiet_read))

    done2 : Quiet (route 2 r.kind 0)
    unfolding route push_route pop_route
    done2 = quiet 2 0 refl refl

    -- A change of Anchor that fails at 2 or 4 takes the word found as its reading.
    abbrev reread : ℕ → Call
    reread n = with_seen (at_place r n) c.anchor r.finishing

    pub split2 : Splits (at_place r 2)
    unfolding loads perform meets_anchor settled_at step_at step_sound move at2
    split2 =
        let s : Call = at_place r 2 in
        let w = touches.new2 r in
        by_touch 2 (touches.touch2 r c.pooled c.slots)
        (change_splits q k s (set_anchor w) s (reread 2) (seen + 1) c.anchor r.seen (swaps_anchor r.seen w) loads_anchor refl refl
        (ap not sound) refl (any_entry _ _ _ _ done2) (any_entry _ _ _ _ quiet_again2))

    done3 : Quiet (route 3 r.kind 0)
    unfolding route push_route pop_route
    done3 = quiet 3 0 refl refl

    -- The link word that a place meets.
    abbrev met : ℕ → ℕ
    met n = get_or (links q (link_side (at_place r n))) (row (at_place r n)) 0

    -- A push puts its own link, a pop reads one.
    abbrev way3 : Bool → Move
    way3 push = cond push (touches.done (touches.put3 r (met 3)) (at_place r 3)) (touches.done nothing (with_neighbour (at_place r 3) (link_of (met 3)).slot))

    abbrev fine3 : Bool → Bool
    fine3 push = link_sound c.slots (met 3)
        && (leaves_sound c.slots (way3 push).touch && (has_room (at_place r 3) (way3 push).touch && true))

    split3_as : (push : Bool) → eqb r.kind 0 ≡ push → (p : PlannedTouch) → (perform q p).found ≡ met 3
        → (perform q p).tables ≡ cond (fine3 push) (apply (way3 push).touch q) q
        → split_with (at_place r 3) (cond (not (from1 c.slots (row (at_place r 3)))) (refuses 34) p) ≡ step_at 3 q (at_place r 3) k
    unfolding meets_anchor settled_at step_at step_sound move at3
    split3_as push e p finds left =
        let s : Call = at_place r 3 in
        let there = from1 c.slots (row s) in
        row_splits q k s p (met 3) (way3 push) there (fine3 push) _ _ finds left refl refl
        (ap (λ (b : Bool). cond (there && fine3 b) (gone (counting s k) (met 3) (way3 b)) (refusing (counting s k) 34)) e)
        (any_entry _ _ _ _ (either (λ (m : Move). Quiet (route 3 r.kind m.branch)) push done3 done3))
        ∙ ap (λ (b : Bool). decide (cond (there && fine3 b) 0 34) q (counting s k) (finish q (counting s k) (way3 b))) (sym e)

    pub split3 : Splits (at_place r 3)
    unfolding loads perform
    split3 =
        let s : Call = at_place r 3 in
        split (eqb r.kind 0)
        (λ e. by_touch 3 (touches.touch3 r c.pooled c.slots e)
        (split3_as true e (puts_link (link_side s) (row s) (end_seen s)) refl (one (link_sound c.slots (met 3)) _ _)))
        (λ e. by_touch 3 (touches.touch3_pop r c.pooled c.slots e)
        (split3_as false e (loads_link (link_side s) (row s)) refl (sym (none (fine3 false) q))))

    done4 : Quiet (route 4 r.kind 0)
    unfolding route push_route pop_route
    done4 = quiet 4 0 refl refl

    pub split4 : Splits (at_place r 4)
    unfolding loads perform meets_anchor settled_at step_at step_sound move at4
    split4 =
        let s : Call = at_place r 4 in
        let w = new4 s in
        by_touch 4 (touches.touch4 r c.pooled c.slots)
        (change_splits q k s (set_anchor w) (cond (is_push r) (with_seen s w 1) s) (reread 4) (seen + 1) c.anchor r.seen
        (swaps_anchor r.seen w) loads_anchor refl refl
        (ap not sound) refl (any_entry _ _ _ _ done4) (any_entry _ _ _ _ quiet_again4))

    done5 : Quiet (route 5 r.kind 0)
    unfolding route push_route pop_route
    done5 = quiet 5 0 refl refl

    pub split5 : Splits (at_place r 5)
    unfolding planned loads perform meets_anchor settled_at gone step_at step_sound move at5 finish
    split5 =
        split (from1 c.slots (row (at_place r 5)))
        (λ f. split (link_sound c.slots (met 5))
        (λ l. rw (f, l) (told _ _ (any_entry _ _ _ _ done5)))
        (λ l. rw (f, l)))
        (λ f. rw f)

    done6 : (b : Bool) → Quiet (route 6 r.kind (cond b 0 1))
    unfolding route push_route pop_route
    done6 b = quiet2 6 b (quiet 6 0 refl refl) (quiet 6 1 refl refl)

    pub split6 : Splits (at_place r 6)
    unfolding planned loads perform meets_anchor settled_at gone step_at step_sound move at6 finish
    split6 = rw sound (told _ _ (any_entry _ _ _ _ (done6 (eqb c.anchor r.seen))))

    done7 : (b : Bool) → Quiet (route 7 r.kind (cond b 0 1))
    unfolding route push_route pop_route
    done7 b = quiet2 7 b (quiet 7 0 refl refl) (quiet 7 1 refl refl)

    pub split7 : Splits (at_place r 7)
    unfolding planned loads perform meets_anchor settled_at gone step_at step_sound move at7 finish
    split7 =
        split (from1 c.slots (row (at_place r 7)))
        (λ f. split (link_sound c.slots (met 7))
        (λ l. rw (f, l) (told _ _ (any_entry _ _ _ _ (done7 (eqb (link_of (met 7)).slot (end_seen (at_place r 7)))))))
        (λ l. rw (f, l)))
        (λ f. rw f)

    done8 : (b : Bool) → Quiet (route 8 r.kind (cond b 0 1))
    unfolding route push_route pop_route
    done8 b = quiet2 8 b (quiet 8 0 refl refl) (quiet 8 1 refl refl)

    pub split8 : Splits (at_place r 8)
    unfolding planned loads perform meets_anchor settled_at gone step_at step_sound move at6 finish
    split8 = rw sound (told _ _ (any_entry _ _ _ _ (done8 (eqb c.anchor r.seen))))

    done9 : (b : Bool) → Quiet (route 9 r.kind (cond b 0 1))
    unfolding route push_route pop_route
    done9 b = quiet2 9 b (quiet 9 0 refl refl) (quiet 9 1 refl refl)

    pub split9 : Splits (at_place r 9)
    unfolding loads perform meets_anchor settled_at step_at step_sound move at9
    split9 =
        let s : Call = at_place r 9 in
        let w : ℕ = pack_link (record { tag = (link_of r.link).tag + 1; slot = end_seen s }) in
        by_touch 9 (touches.touch9 r c.pooled c.slots)
        (row_change_splits q k s (touches.swap9 r) s s 1 (met 9) r.link
        (swaps_link (link_side s) (row s) r.link w) (loads_link (link_side s) (row s)) refl refl
        (from1 c.slots (row s)) _ _ refl refl refl (any_entry _ _ _ _ (done9 true)) (any_entry _ _ _ _ (done9 false)))

    done10 : (b : Bool) → Quiet (route 10 r.kind (cond b 0 1))
    unfolding route push_route pop_route
    done10 b = quiet2 10 b (quiet 10 0 refl refl) (quiet 10 1 refl refl)

    pub split10 : Splits (at_place r 10)
    unfolding loads perform meets_anchor settled_at step_at step_sound move at10
    split10 =
        let s : Call = at_place r 10 in
        let w = touches.new10 r in
        by_touch 10 (touches.touch10 r c.pooled c.slots)
        (change_splits q k s (set_anchor w) s s 1 c.anchor r.seen (swaps_anchor r.seen w) loads_anchor refl refl
        (ap not sound) refl (any_entry _ _ _ _ (done10 true)) (any_entry _ _ _ _ (done10 false)))
