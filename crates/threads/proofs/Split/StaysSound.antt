-- A settlement that is no refusal leaves a sound record, whatever word was found.
use mathlib.Core.{Path.{◌≡◌, refl, ap, sym, subst}, Bool.{Bool, true, false, ◌&&◌, not, cond}, List.[]}
use Prim.Native.Nat.{ℕ, ◌≤◌}
use native.Mathlib.Omega.{arith}
use lib.Dec.{eqb, leb}
use borrow.Author.Tests.{eqb-true, eqb-false, not-false}
use Rattle.word.specs.{Anchor.anchor_of, Link.link_of}
use Rattle.model.specs.{declared.{Control.Control, Call.Call, Record.Record}, Kinds.{is_push, is_pop}, Lists.All}
use Rattle.model.specs.{Tables.{at_place, tables_of, counting, with_neighbour, with_link, with_own}, Ends.is_moved}
use Rattle.model.specs.Sound.{from1, anchor_sound, link_sound, record_sound}
use Rattle.model.specs.Places.{Move, move, row, stack_empty, at11, at12, at13, at14, at15, at16, at17}
use Rattle.model.specs.Route.{route, onward, goes, push_route, pop_route}
use Rattle.model.specs.Refusals.{Rule, step_sound, step_tests, record_refusal, record_rules}
use Rattle.model.proofs.Tests.{Truth.{either, by_test, not_both}, Rules.{cleared, tests}, ByPlace.by_place}
use Rattle.engine.proofs.InParts.{below_18}
use Rattle.threads_model.specs.Split.{knowing, Settled, gone, settled_at, meets_anchor, settle}
use Rattle.threads.proofs.Split.SoundFields as F
use Rattle.threads.proofs.Split.DequeStaysSound as E

module _ (pooled slots w : ℕ) where
  abbrev P : Bool
  P = eqb pooled 1

  abbrev c : Control
  c = knowing pooled slots w w

  module _ (r : Call) where
    abbrev After : ℕ → Call → ℕ → Type 0
    After n s branch = record_sound P slots (goes s (onward (route n r.kind branch) s.finishing)) ≡ true

    abbrev Goes : ℕ → Move → Type 0
    Goes n m = After n m.task m.branch

    abbrev at : ℕ → Call
    at n = at_place r n

    abbrev Sounds : ℕ → Type 0
    Sounds n = record_sound P slots (at n) ≡ true

    -- By kind, at a branch that is known.
    -- Place 11, and those of a pooled queue.
    clashes : {X : Type 0} → r.kind ≡ 0 → is_pop r ≡ true → X
    clashes a b = absurd (no' a (eqb-true _ _ b))
      where
        no' : r.kind ≡ 0 → r.kind ≡ 1 → ⊥
        no' a b = omega arith

    clashes' : {X : Type 0} → r.kind ≡ 1 → is_push r ≡ true → X
    clashes' a b = absurd (no' a (eqb-true _ _ b))
      where
        no' : r.kind ≡ 1 → r.kind ≡ 0 → ⊥
        no' a b = omega arith

    p11 : from1 slots (row (at 11)) ≡ true → Sounds 11 → Goes 11 (at11 c (at 11) w)
    unfolding at11 route push_route pop_route onward goes record_sound
    p11 x e =
        let z = F.fit pooled slots (at 11) refl e in
        let s = with_own (at 11) (row (at 11)) w in
        let b : F.Base pooled slots s =
        record { kind = z.base.kind; side = z.base.side; fin = z.base.fin; near = z.base.near; link = z.base.link; seen = z.base.seen } in
        by_test (Goes 11) P
        (λ p. E.by_kind pooled slots w r 11 1 s z.base.kind (λ k. clashes k z.pops)
        (λ k. F.put pooled slots 15 s (F.high pooled slots 15 refl p) z.pops refl z.final
        (either (λ (b : Bool). cond b (from1 slots (row (at 11))) (eqb (row (at 11)) 0) ≡ true) (is_push r) x x) refl refl b))
        (λ p. E.by_kind pooled slots w r 11 0 (at 11) z.base.kind (λ k. clashes k z.pops) (λ k. refl))

    p12 : link_sound slots w ≡ true → Sounds 12 → Goes 12 (at12 c (at 12))
    unfolding at12 route push_route pop_route onward goes record_sound
    p12 l e =
        let z = F.fit pooled slots (at 12) refl e in
        let x = with_link (at 12) w in
        let p = F.pool_of pooled slots 12 refl P z.place in
        by_test (After 12 x) (stack_empty w)
        (λ _. E.by_kind pooled slots w r 12 0 x z.base.kind (λ k. refl) (λ k. clashes' k z.pushes))
        (λ n. E.by_kind pooled slots w r 12 1 x z.base.kind
        (λ k. F.put pooled slots 13 x (F.high pooled slots 13 refl p) refl z.pushes z.final z.owns (ap not n) refl
        (E.link-now pooled slots w r 12 w l z.base)) (λ k. clashes' k z.pushes))

    p13 : leb w slots ≡ true → Sounds 13 → Goes 13 (at13 (at 13) w)
    unfolding at13 route push_route pop_route onward goes
    p13 l e =
        let z = F.fit pooled slots (at 13) refl e in
        let x = with_neighbour (at 13) w in
        let p = F.pool_of pooled slots 13 refl P z.place in
        E.by_kind pooled slots w r 13 0 x z.base.kind
        (λ k. F.put pooled slots 14 x (F.high pooled slots 14 refl p) refl z.pushes z.final z.owns z.top refl
        (E.near-now pooled slots w r 13 w l z.base)) (λ k. clashes' k z.pushes)

    p14 : Sounds 14 → Goes 14 (at14 c (at 14))
    unfolding at14 row route push_route pop_route onward goes
    p14 e =
        let z = F.fit pooled slots (at 14) refl e in
        let x = (link_of r.link).slot in
        let s = with_own (at 14) x r.label in
        let b : F.Base pooled slots s =
        record { kind = z.base.kind; side = z.base.side; fin = z.base.fin; near = z.base.near; link = z.base.link; seen = z.base.seen } in
        let p = F.pool_of pooled slots 14 refl P z.place in
        by_test (Goes 14) (eqb w r.link)
        (λ _. E.by_kind pooled slots w r 14 0 s z.base.kind
        (λ k. F.put pooled slots 1 s (F.low pooled slots 1 refl refl) refl refl z.final
        (subst (λ (b : Bool). cond (cond b true false) (from1 slots x) (eqb x 0) ≡ true) (sym z.pushes)
        (F.link_slot pooled slots r.link z.top z.base.link)) refl refl b)
        (λ k. clashes' k z.pushes))
        (λ _. E.by_kind pooled slots w r 14 1 (at 14) z.base.kind
        (λ k. F.put pooled slots 12 (at 14) (F.high pooled slots 12 refl p) refl z.pushes z.final z.owns refl refl z.base)
        (λ k. clashes' k z.pushes))

    p15 : link_sound slots w ≡ true → Sounds 15 → Goes 15 (at15 c (at 15))
    unfolding at15 route push_route pop_route onward goes
    p15 l e =
        let z = F.fit pooled slots (at 15) refl e in
        let x = with_link (at 15) w in
        let p = F.pool_of pooled slots 15 refl P z.place in
        E.by_kind pooled slots w r 15 0 x z.base.kind (λ k. clashes k z.pops)
        (λ k. F.put pooled slots 16 x (F.high pooled slots 16 refl p) z.pops refl z.final z.owns refl refl
        (E.link-now pooled slots w r 15 w l z.base))

    p16 : Sounds 16 → Goes 16 (at16 (at 16))
    unfolding at16 route push_route pop_route onward goes
    p16 e =
        let z = F.fit pooled slots (at 16) refl e in
        let p = F.pool_of pooled slots 16 refl P z.place in
        E.by_kind pooled slots w r 16 0 (at 16) z.base.kind (λ k. clashes k z.pops)
        (λ k. F.put pooled slots 17 (at 16) (F.high pooled slots 17 refl p) z.pops refl z.final z.owns refl refl z.base)

    p17 : Sounds 17 → Goes 17 (at17 c (at 17))
    unfolding at17 route push_route pop_route onward goes record_sound
    p17 e =
        let z = F.fit pooled slots (at 17) refl e in
        let p = F.pool_of pooled slots 17 refl P z.place in
        by_test (Goes 17) (eqb w r.link)
        (λ _. E.by_kind pooled slots w r 17 0 (at 17) z.base.kind (λ k. clashes k z.pops) (λ k. refl))
        (λ _. E.by_kind pooled slots w r 17 1 (at 17) z.base.kind (λ k. clashes k z.pops)
        (λ k. F.put pooled slots 15 (at 17) (F.high pooled slots 15 refl p) z.pops refl z.final z.owns refl refl z.base))

    -- Every place.
    module _ (k : ℕ) where
      abbrev Core : ℕ → Type 0
      Core n = step_sound c (at n) w ≡ true → Sounds n → (meets_anchor (at n) ≡ true → anchor_sound slots (anchor_of w) ≡ true)
          → record_sound P slots (gone (counting (at n) k) w (move c (at n) w)).task.call ≡ true

      core : (n : ℕ) → (n ≡ 0 → ⊥) → n ≤ 17 → Core n
      unfolding gone move meets_anchor step_sound
      core = by_place Core
          (λ t e a. E.p1 pooled slots w r (a refl) e)
          (λ t e a. E.p2 pooled slots w r (a refl) e)
          (λ t e a. E.p3 pooled slots w r (tests (step_tests c (at 3) w) t).1.0 e)
          (λ t e a. E.p4 pooled slots w r (a refl) e (tests (step_tests c (at 4) w) t).1.1.0)
          (λ t e a. E.p5 pooled slots w r (tests (step_tests c (at 5) w) t).1.0 e)
          (λ t e a. E.p6 pooled slots w r e)
          (λ t e a. E.p7 pooled slots w r (tests (step_tests c (at 7) w) t).1.0 e)
          (λ t e a. E.p8 pooled slots w r e)
          (λ t e a. E.p9 pooled slots w r e)
          (λ t e a. E.p10 pooled slots w r e)
          (λ t e a. p11 (tests (step_tests c (at 11) w) t).0 e)
          (λ t e a. p12 (tests (step_tests c (at 12) w) t).1.1.1.1.0 e)
          (λ t e a. p13 (tests (step_tests c (at 13) w) t).1.1.1.1.1.0 e)
          (λ t e a. p14 e)
          (λ t e a. p15 (tests (step_tests c (at 15) w) t).1.1.1.1.0 e)
          (λ t e a. p16 e)
          (λ t e a. p17 e)

  not_either : (a b : Bool) → a && not b ≡ false → a ≡ true → b ≡ true
  not_either true true e h = refl
  not_either true false e h = absurd (not_both refl e)
  not_either false b e h = absurd (not_both h refl)

  -- The law.
  pub settle-sound : (r : Record) → is_moved (settle pooled slots r w).outcome ≡ true → record_sound P slots (settle pooled slots r w).task.call ≡ true
  unfolding settle settled_at record_refusal
  settle-sound r =
      let Q : Settled → Type 0 = λ s. is_moved s.outcome ≡ true → record_sound P slots s.task.call ≡ true in
      by_test Q (eqb (record_refusal P slots r.call) 0)
      (λ z. let none = eqb-true _ _ z in
      by_test Q (meets_anchor r.call && not (anchor_sound slots (anchor_of w)))
      (λ _ h. absurd (not_both h refl))
      (λ a. by_test Q (step_sound c r.call w)
      (λ t h. core r.call r.retries r.call.place (busy none) (within none) t (sound none)
      (not_either (meets_anchor r.call) (anchor_sound slots (anchor_of w)) a))
      (λ _ h. absurd (not_both h refl))))
      (λ _ h. absurd (not_both h refl))
    where
      rules : record_refusal P slots r.call ≡ 0 → All (λ (x : Rule). x.applies ≡ false) (record_rules P slots r.call)
      rules e = cleared (record_rules P slots r.call) refl e

      busy : record_refusal P slots r.call ≡ 0 → r.call.place ≡ 0 → ⊥
      busy e = eqb-false _ _ (rules e).1.0

      sound : record_refusal P slots r.call ≡ 0 → record_sound P slots r.call ≡ true
      sound e = not-false _ (rules e).0

      within : record_refusal P slots r.call ≡ 0 → r.call.place ≤ 17
      within e = below_18 (tables_of (knowing pooled slots 0 0) [] [] [] [] []) r e
