-- At each place plan, touch and settlement are the model's step there.
use mathlib.Core.{Path.{◌≡◌, refl, sym, subst}, Bool.{Bool, true, false, cond}}
use Prim.Native.Nat.{ℕ, suc, ◌≤◌}
use native.Mathlib.Omega.{arith}
use lib.{Dec.{eqb, leb}, ListN.get_or}
use borrow.Author.Tests.{eqb-true, eqb-false}
use Rattle.word.specs.Anchor.{anchor_of}
use Rattle.model.specs.{declared.{Control.Control, Call.Call}, Tables.{Tables, is_pooled, at_place, with_own}}
use Rattle.model.specs.{Sound.{from1, anchor_sound, link_sound}, Refusals.step_sound, Calls.finish}
use Rattle.model.specs.Places.{row, stack_empty, raised, move, at12, at13, at14, at15, at16, at17}
use Rattle.model.{specs.Route.{route, push_route, pop_route}, proofs.Tests.Truth.split}
use Rattle.places.specs.Arm.{step_at}
use Rattle.decide.proofs.Routes.{Quiet}
use Rattle.threads.proofs.Split.Touches as touches
use Rattle.threads_model.specs.Split.{loads_head, swaps_head, draws_slot, knowing, loads, planned, perform, gone}
use Rattle.threads_model.specs.Split.{settled_at, meets_anchor}
use Rattle.threads.proofs.Split.DequePlaces as E
use Rattle.threads.proofs.Split.Settlement.{any_entry, told, change_splits}

module _ (q : Tables) (k : ℕ) where
  abbrev c : Control
  c = q.control

  abbrev c' : ℕ → Control
  c' w = knowing c.pooled c.slots w w

  module _ (sound : anchor_sound c.slots (anchor_of c.anchor) ≡ true) (r : Call) where
    split11 : E.Splits q k (at_place r 11)
    unfolding loads perform meets_anchor settled_at gone step_at step_sound finish
    split11 =
        let there = touches.moves11 r c in
        let here = touches.moves11 r (c' (get_or q.labels (row (at_place r 11)) 0)) in
        E.by_touch q k sound r 11 (touches.touch11 r c.pooled c.slots)
        (split (from1 c.slots (row (at_place r 11)))
        (λ f. split (is_pooled c) (λ p. rw (f, there, here, p)) (λ p. rw (f, there, here, p)))
        (λ f. rw f))

    done12 : (b : Bool) → Quiet (route 12 r.kind (cond b 0 1))
    unfolding route push_route pop_route
    done12 b = E.quiet2 q k sound r 12 b (E.quiet q k sound r 12 0 refl refl) (E.quiet q k sound r 12 1 refl refl)

    split12 : E.Splits q k (at_place r 12)
    unfolding planned loads perform meets_anchor settled_at gone step_at step_sound move at12 finish
    split12 =
        split (link_sound c.slots c.head)
        (λ l. rw l (told _ _ (any_entry _ _ _ _ (done12 (stack_empty c.head)))))
        (λ l. rw l)

    done13 : Quiet (route 13 r.kind 0)
    unfolding route push_route pop_route
    done13 = E.quiet q k sound r 13 0 refl refl

    split13 : E.Splits q k (at_place r 13)
    unfolding planned loads perform meets_anchor settled_at gone step_at step_sound move at13 finish
    split13 =
        split (leb (get_or q.next (row (at_place r 13)) 0) c.slots)
        (λ l. rw l (told _ _ (any_entry _ _ _ _ done13)))
        (λ l. rw l)

    done14 : (b : Bool) → Quiet (route 14 r.kind (cond b 0 1))
    unfolding route push_route pop_route
    done14 b = E.quiet2 q k sound r 14 b (E.quiet q k sound r 14 0 refl refl) (E.quiet q k sound r 14 1 refl refl)

    split14 : E.Splits q k (at_place r 14)
    unfolding loads perform meets_anchor settled_at step_at step_sound move at14
    split14 =
        let s : Call = at_place r 14 in
        E.by_touch q k sound r 14 (touches.touch14 r c.pooled c.slots)
        (change_splits q k s (touches.draw14 r) (with_own s (row s) r.label) s 1 c.head r.link
        (draws_slot r.link (raised s r.neighbour) (row s) r.label) loads_head refl refl
        refl refl (any_entry _ _ _ _ (done14 true)) (any_entry _ _ _ _ (done14 false)))

    done15 : Quiet (route 15 r.kind 0)
    unfolding route push_route pop_route
    done15 = E.quiet q k sound r 15 0 refl refl

    split15 : E.Splits q k (at_place r 15)
    unfolding planned loads perform meets_anchor settled_at gone step_at step_sound move at15 finish
    split15 =
        split (link_sound c.slots c.head)
        (λ l. rw l (told _ _ (any_entry _ _ _ _ done15)))
        (λ l. rw l)

    done16 : Quiet (route 16 r.kind 0)
    unfolding route push_route pop_route
    done16 = E.quiet q k sound r 16 0 refl refl

    split16 : E.Splits q k (at_place r 16)
    unfolding planned loads perform meets_anchor settled_at gone step_at step_sound move at16 finish
    split16 = told _ _ (any_entry _ _ _ _ done16)

    split17 : E.Splits q k (at_place r 17)
    unfolding loads perform meets_anchor settled_at step_at step_sound move at17
    split17 =
        let s : Call = at_place r 17 in
        E.by_touch q k sound r 17 (touches.touch17 r c.pooled c.slots)
        (change_splits q k s (touches.swap17 r) s s 1 c.head r.link (swaps_head r.link (raised s r.own)) loads_head refl refl
        refl refl refl refl)

    -- A record has one of these places.
    turn : (P : ℕ → Type 0) (i n : ℕ) → i ≤ n → P i → (suc i ≤ n → P n) → P n
    turn P i n h here later = split (eqb n i) (λ e. subst P (sym (eqb-true n i e)) here) (λ e. later (above (eqb-false n i e)))
      where
        above : (n ≡ i → ⊥) → suc i ≤ n
        above other = omega arith

    pub splits : 1 ≤ r.place → r.place ≤ 17 → E.Splits q k r
    splits low high =
        let P : ℕ → Type 0 = λ n. E.Splits q k (at_place r n) in
        let n = r.place in
        turn P 1 n low (E.split1 q k sound r)
        (λ h. turn P 2 n h (E.split2 q k sound r)
        (λ h. turn P 3 n h (E.split3 q k sound r)
        (λ h. turn P 4 n h (E.split4 q k sound r)
        (λ h. turn P 5 n h (E.split5 q k sound r)
        (λ h. turn P 6 n h (E.split6 q k sound r)
        (λ h. turn P 7 n h (E.split7 q k sound r)
        (λ h. turn P 8 n h (E.split8 q k sound r)
        (λ h. turn P 9 n h (E.split9 q k sound r)
        (λ h. turn P 10 n h (E.split10 q k sound r)
        (λ h. turn P 11 n h split11
        (λ h. turn P 12 n h split12
        (λ h. turn P 13 n h split13
        (λ h. turn P 14 n h split14
        (λ h. turn P 15 n h split15
        (λ h. turn P 16 n h split16
        (λ h. subst P (last h) split17))))))))))))))))
      where
        last : 17 ≤ r.place → 17 ≡ r.place
        last h = omega arith
