-- The model's step at the places that touch Anchor alone, in the terms of this crate: 1, 2, 4, 6, 8 and 10.
use mathlib.Core.{Path.{◌≡◌, refl, ap}, Bool.{true, false, cond}}
use Prim.Native.Nat.{ℕ, ◌+◌, ◌/◌, ◌^◌}
use lib.Dec.{eqb, ltb}
use borrow.Author.Tests.{eq-eqb, ne_eqb, not-true, not-false}
use Rattle.word.specs.Anchor.{anchor_of, pack_anchor}
use Rattle.model.specs.{declared.{Control.Control, Call.Call, Transition.Transition}, Sound.anchor_sound, Kinds.is_pop}
use Rattle.model.specs.{Tables.{at_place, tables_of, with_seen}, Refusals.{needs_row, meets_link, meets_head, step_sound}}
use Rattle.model.specs.Places.{reading, side_of, nothing, set_anchor, Move, compares, at1, at2, at4, at6, at10, move}
use Rattle.model.specs.{Route.{route, push_route, pop_route, goes, counted}, Calls.{entry_of, finish}}
use Rattle.model.{specs.Sides.{far, facing, pushing}, proofs.{Laws.Onward.reads_on, Tests.Truth.split}}
use Rattle.model.specs.Places as model-places
use Rattle.table.specs.Lent.{with_tables}
use Rattle.places.specs.Arm.{step_at, Steps}
use Rattle.decide.specs.Ending.{refused, settled, no_entry, failing, anchored, may_change, change_refused, remembered}
use Rattle.decide.specs.{Ending.compared, Decided.{new2, new4, new10}}
use Rattle.decide.proofs.Routes.{kinds, readings, Quiet, quietly}

-- A change of Anchor from the word as read to new: done leads the record t on; failed is what a failed one comes to.
unfoldable pub changed : Control → Call → ℕ → Call → ℕ → Transition → Transition
changed c r new t done failed =
    cond (eqb c.anchor r.seen)
    (cond (may_change c.slots r.seen new) (settled (anchored c new) t done no_entry) (refused c r))
    failed

-- The step at place n tries to change Anchor: the change fails, is denied or is made.
pub record Tries (n : ℕ) (c : Control) (r : Call) (new : ℕ) (t : Call) (done : ℕ) (failed : Transition) : Type 0 where
  pub steps : Steps n c r (changed c r new t done failed)

module _ {n : ℕ} {c : Control} {r : Call} {new : ℕ} {t : Call} {done : ℕ} {failed : Transition} (tried : Tries n c r new t done failed) where
  pub fails : (c.anchor ≡ r.seen → ⊥) → Steps n c r failed
  unfolding changed
  fails h = rw (ne_eqb _ _ h) at tried.steps

  pub denies : c.anchor ≡ r.seen → change_refused c r new ≡ true → Steps n c r (refused c r)
  unfolding changed change_refused
  denies h s = rw (eq-eqb _ _ h, not-true (may_change c.slots r.seen new) (rw (eq-eqb _ _ h) at s)) at tried.steps

  pub makes : c.anchor ≡ r.seen → change_refused c r new ≡ false → Steps n c r (settled (anchored c new) t done no_entry)
  unfolding changed change_refused
  makes h s = rw (eq-eqb _ _ h, not-false (may_change c.slots r.seen new) (rw (eq-eqb _ _ h) at s)) at tried.steps

module _ (c : Control) (r : Call) where
  -- The outcome of reading Anchor, and the record with the word read.
  abbrev pub outcome : ℕ
  outcome = reading (is_pop r) (anchor_of c.anchor)

  abbrev pub seeing : Call
  seeing = with_seen r c.anchor r.finishing

  -- What a failed change of Anchor at n comes to, which reads on.
  abbrev pub found : ℕ → Transition
  found n = failing (settled c seeing (route n r.kind (outcome + 1)) no_entry)

  read_quiet : Quiet (route 1 r.kind outcome)
  unfolding route push_route pop_route
  read_quiet =
      readings (λ o. Quiet (route 1 r.kind o)) (is_pop r) (anchor_of c.anchor)
      (kinds Quiet 1 r.kind 0 refl refl)
      (kinds Quiet 1 r.kind 1 refl refl)
      (kinds Quiet 1 r.kind 2 refl refl)
      (kinds Quiet 1 r.kind 3 refl refl)

  pub step1 : Steps 1 c r (settled c seeing (route 1 r.kind outcome) no_entry)
  unfolding step_at step_sound move at1 finish settled goes counted
  step1 ls rs ns ms xs k =
      ap (λ m. with_tables m ls rs ns ms xs k)
      (quietly c seeing (route 1 r.kind outcome) (entry_of (tables_of c ls rs ns ms xs) (at_place r 1)) read_quiet)

  -- A place that needs no slot row and meets no link, head or next slot.
  record Plain (n : ℕ) : Type 0 where
    needs : needs_row (at_place r n) ≡ false
    meets : meets_link (at_place r n) ≡ false
    heads : meets_head (at_place r n) ≡ false
    nexts : eqb n 13 ≡ false

  module _ (n : ℕ) (p : Plain n) where
    abbrev leads : ℕ → ℕ
    leads o = route n r.kind o

    -- A comparison of Anchor: places 6 and 8.
    comparing :
        Quiet (leads 0)
        → Quiet (leads 1)
        → ((w : ℕ) → move c (at_place r n) w ≡ compares c.anchor r.seen (at_place r n))
        → Steps n c r (compared c r (leads 0) (leads 1))
    unfolding step_at step_sound finish compared settled goes counted
    comparing first second moves ls rs ns ms xs k =
        let e = entry_of (tables_of c ls rs ns ms xs) (at_place r n) in
        split (eqb c.anchor r.seen)
        (λ h. rw (moves, p.needs, p.meets, p.heads, p.nexts, h) (ap (λ m. with_tables m ls rs ns ms xs k) (quietly c r (leads 0) e first)))
        (λ h. rw (moves, p.needs, p.meets, p.heads, p.nexts, h) (ap (λ m. with_tables m ls rs ns ms xs k) (quietly c r (leads 1) e second)))

    -- A change of Anchor, places 2, 4 and 10: done, with the record t; failed, with the record u and the branch o.
    abbrev trying : ℕ → Call → Call → ℕ → Move
    trying new t u o =
        cond (eqb c.anchor r.seen) (record { touch = set_anchor new; task = at_place t n; branch = 0; failed = false })
        (record { touch = nothing; task = at_place u n; branch = o; failed = true })

    changing :
        (new : ℕ) (t u : Call) (o : ℕ)
        → Quiet (leads 0)
        → Quiet (leads o)
        → ((w : ℕ) → move c (at_place r n) w ≡ trying new t u o)
        → Tries n c r new t (leads 0) (failing (settled c u (leads o) no_entry))
    unfolding step_at step_sound finish changed may_change settled goes counted
    changing new t u o first second moves = record {
      steps = λ ls rs ns ms xs k.
          let e = entry_of (tables_of c ls rs ns ms xs) (at_place r n) in
          split (eqb c.anchor r.seen)
          (λ h. split (anchor_sound c.slots (anchor_of new))
          (λ s. split (ltb (anchor_of r.seen).tag 4294967295)
          (λ l. rw (moves, p.needs, p.meets, p.heads, p.nexts, h, s, l)
          (ap (λ m. with_tables m ls rs ns ms xs k) (quietly (anchored c new) t (leads 0) e first)))
          (λ l. rw (moves, p.needs, p.meets, p.heads, p.nexts, h, s, l)))
          (λ s. rw (moves, p.needs, p.meets, p.heads, p.nexts, h, s)))
          (λ h. rw (moves, p.needs, p.meets, p.heads, p.nexts, h) (ap (λ m. with_tables (failing m) ls rs ns ms xs k) (quietly c u (leads o) e second)));
    }

    -- Where a failed change reads on: places 2 and 4.
    replacing :
        (new : ℕ) (t : Call)
        → Quiet (leads 0)
        → leads (outcome + 1) ≡ route 1 r.kind outcome
        → ((w : ℕ) → move c (at_place r n) w ≡ trying new t seeing (outcome + 1))
        → Tries n c r new t (leads 0) (found n)
    replacing new t first on moves = changing new t seeing (outcome + 1) first (rw on read_quiet) moves

  pub step2 : (new : ℕ) → new ≡ new2 r → Tries 2 c r new r (route 2 r.kind 0) (found 2)
  unfolding move at2 side_of route push_route pop_route
  step2 new e =
      replacing 2 (record { needs = refl; meets = refl; heads = refl; nexts = refl }) new r
      (kinds Quiet 2 r.kind 0 refl refl) (reads_on r.kind outcome).0 (λ w. rw e)

  -- The new Anchor of a push and of a pop at place 4.
  abbrev new_push : ℕ
  new_push = pack_anchor (facing r.side (r.seen / 2 ^ 32 + 1) (pushing r.side) r.own (far r.side (anchor_of r.seen)))

  abbrev new_pop : ℕ
  new_pop = pack_anchor (facing r.side (r.seen / 2 ^ 32 + 1) (anchor_of r.seen).status r.neighbour (far r.side (anchor_of r.seen)))

  push4 : eqb r.kind 0 ≡ true → Tries 4 c r new_push (with_seen r new_push 1) (route 4 r.kind 0) (found 4)
  unfolding move at4 model-places.new4 side_of route push_route pop_route
  push4 k =
      replacing 4 (record { needs = refl; meets = refl; heads = refl; nexts = refl }) new_push (with_seen r new_push 1)
      (kinds Quiet 4 r.kind 0 refl refl) (reads_on r.kind outcome).1 (λ w. rw k)

  pop4 : eqb r.kind 0 ≡ false → Tries 4 c r new_pop r (route 4 r.kind 0) (found 4)
  unfolding move at4 model-places.new4 side_of route push_route pop_route
  pop4 k =
      replacing 4 (record { needs = refl; meets = refl; heads = refl; nexts = refl }) new_pop r
      (kinds Quiet 4 r.kind 0 refl refl) (reads_on r.kind outcome).1 (λ w. rw k)

  pub step4 : (new : ℕ) → new ≡ new4 r → Tries 4 c r new (remembered r new) (route 4 r.kind 0) (found 4)
  unfolding remembered
  step4 new e = split (eqb r.kind 0) (λ k. rw (e, k) (push4 k)) (λ k. rw (e, k) (pop4 k))

  -- A failed change doesn't depend on the word it would have made.
  pub failed2 : (c.anchor ≡ r.seen → ⊥) → Steps 2 c r (found 2)
  failed2 h = fails (step2 _ refl) h

  pub failed4 : (c.anchor ≡ r.seen → ⊥) → Steps 4 c r (found 4)
  failed4 h = split (eqb r.kind 0) (λ k. fails (push4 k) h) (λ k. fails (pop4 k) h)

  pub step6 : Steps 6 c r (compared c r (route 6 r.kind 0) (route 6 r.kind 1))
  unfolding move at6 route push_route pop_route
  step6 =
      comparing 6 (record { needs = refl; meets = refl; heads = refl; nexts = refl })
      (kinds Quiet 6 r.kind 0 refl refl) (kinds Quiet 6 r.kind 1 refl refl) (λ w. refl)

  pub step8 : Steps 8 c r (compared c r (route 8 r.kind 0) (route 8 r.kind 1))
  unfolding move at6 route push_route pop_route
  step8 =
      comparing 8 (record { needs = refl; meets = refl; heads = refl; nexts = refl })
      (kinds Quiet 8 r.kind 0 refl refl) (kinds Quiet 8 r.kind 1 refl refl) (λ w. refl)

  pub step10 : (new : ℕ) → new ≡ new10 r → Tries 10 c r new r (route 10 r.kind 0) (failing (settled c r (route 10 r.kind 1) no_entry))
  unfolding move at10 route push_route pop_route
  step10 new e =
      changing 10 (record { needs = refl; meets = refl; heads = refl; nexts = refl }) new r r 1
      (kinds Quiet 10 r.kind 0 refl refl) (kinds Quiet 10 r.kind 1 refl refl) (λ w. rw e)
