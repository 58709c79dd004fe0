-- A step of a busy, sound record leads on: to a place other than 0, or to an answer.
use mathlib.Core.{Path.{◌≡◌, refl, sym, subst}, Bool.{Bool, true, false, ◌&&◌, ◌||◌, cond}, List.{List, []}}
use Prim.Native.Nat.{ℕ, ◌+◌, zero, suc}
use native.Mathlib.Omega.{arith}
use lib.{Dec.{eqb, leb}, ListN.get_or}
use borrow.Author.Tests.{eqb-true, eqb-false, leb-true}
use Rattle.word.specs.{declared.Anchor.Anchor, Anchor.anchor_of, Link.link_of}
use Rattle.model.specs.{declared.{Control.Control, Call.Call}, Tables.{at_place, is_pooled}, Sound.record_sound}
use Rattle.model.specs.{Sides.is_empty, Places.{at13, at14, at15, at16, at17, move, stack_empty}}
use Rattle.model.specs.Places.{Move, end_seen, reading, at1, at2, at3, at4, at5, at6, at7, at9, at10, at11, at12}
use Rattle.model.specs.{Route.{leave, pushed, push_route, pop_route, route, onward}, Kinds.{is_push, is_pop}}
use Rattle.model.proofs.Tests.{ByPlace.by_place, Truth.{either, by_test}}
use Rattle.model.proofs.Laws.SoundRecord.{implied, Sound, sound_record}

abbrev Leads : ℕ → ℕ → ℕ → Type 0
Leads place kind outcome = eqb (route place kind outcome) 0 ≡ false

onward_leads : (n finishing : ℕ) → eqb n 0 ≡ false → eqb (onward n finishing) 0 ≡ false
unfolding onward
onward_leads n finishing h = go (eqb n leave) (eqb finishing 1)
  where
    go : (a b : Bool) → eqb (cond a (cond b pushed 1) n) 0 ≡ false
    go true true = refl
    go true false = refl
    go false b = h

by_kind : (p outcome kind : ℕ) → leb kind 1 ≡ true → Leads p 0 outcome → Leads p 1 outcome → Leads p kind outcome
by_kind p outcome zero k h g = h
by_kind p outcome (suc zero) k h g = g
by_kind p outcome (suc (suc kind)) k h g = absurd (omega (arith, leb-true (suc (suc kind)) 1 k))

-- Place 1: only a pop finds l = r.
reading_leads : (kind : ℕ) → leb kind 1 ≡ true → (a : Anchor) → Leads 1 kind (reading (eqb kind 1) a)
unfolding reading route push_route pop_route
reading_leads zero k a = either (Leads 1 0) (is_empty a) refl (either (Leads 1 0) (eqb a.status 0) refl refl)
reading_leads (suc zero) k a =
    either (Leads 1 1) (is_empty a) refl (either (Leads 1 1) (eqb a.left a.right) refl (either (Leads 1 1) (eqb a.status 0) refl refl))
reading_leads (suc (suc kind)) k a = absurd (omega (arith, leb-true (suc (suc kind)) 1 k))

-- After a failed change at 2 or 4 the route is place 1's.
pub reads_on : (kind o : ℕ) → (route 2 kind (o + 1) ≡ route 1 kind o) × (route 4 kind (o + 1) ≡ route 1 kind o)
unfolding route push_route pop_route
reads_on kind o =
    let next : o + 1 ≡ suc o = omega arith in
    by_test (λ (l : List (List ℕ)). (get_or (get_or l 2 []) (o + 1) 0 ≡ get_or (get_or l 1 []) o 0) × (get_or (get_or l 4 []) (o + 1) 0 ≡ get_or (get_or l 1 []) o 0))
    (eqb kind 0) (λ _. rw next (refl, refl)) (λ _. rw next (refl, refl))

-- A move from place p leads on; kept shut, so that a chain of tests is gone through test by test.
data From (kind p : ℕ) (m : Move) : Type 0 where
  from : Leads p kind m.branch → From kind p m

leads_from : {kind p : ℕ} {m : Move} → From kind p m → Leads p kind m.branch
leads_from (from h) = h

module _ (c : Control) (r : Call) (w : ℕ) (kind : leb r.kind 1 ≡ true) where
  entry : (p outcome : ℕ) → Leads p 0 outcome → Leads p 1 outcome → Leads p r.kind outcome
  entry p outcome h g = by_kind p outcome r.kind kind h g

  abbrev outcome : ℕ
  outcome = reading (is_pop r) (anchor_of c.anchor)

  read : Leads 1 r.kind outcome
  read = reading_leads r.kind kind (anchor_of c.anchor)

  abbrev K : ℕ → Move → Type 0
  K p m = From r.kind p m

  pops : (p outcome : ℕ) → is_pop r ≡ true → Leads p 1 outcome → Leads p r.kind outcome
  pops p outcome e h = subst (λ (k : ℕ). Leads p k outcome) (sym (eqb-true r.kind 1 e)) h

  pushes : (p outcome : ℕ) → is_push r ≡ true → Leads p 0 outcome → Leads p r.kind outcome
  pushes p outcome e h = subst (λ (k : ℕ). Leads p k outcome) (sym (eqb-true r.kind 0 e)) h

  -- At 11 and from 15 on the task is a pop, at 12 to 14 a push.
  abbrev Leading : ℕ → Type 0
  Leading p = (eqb p 11 || leb 15 p ≡ true → is_pop r ≡ true) → (leb 12 p && leb p 14 ≡ true → is_push r ≡ true) → K p (move c (at_place r p) w)

  leads : Sound r → eqb r.place 0 ≡ false → K r.place (move c r w)
  unfolding move at1 at2 at3 at4 at5 at6 at7 at9 at10 at11 at12 at13 at14 at15 at16 at17 route push_route pop_route
  leads sound busy = by_place Leading
      (λ _ _. from read)
      (λ _ _. either (K 2) (eqb c.anchor r.seen) (from (entry 2 0 refl refl)) (from (rw (reads_on r.kind outcome).0 read)))
      (λ _ _. either (K 3) (is_push r) (from (entry 3 0 refl refl)) (from (entry 3 0 refl refl)))
      (λ _ _. either (K 4) (eqb c.anchor r.seen) (from (entry 4 0 refl refl)) (from (rw (reads_on r.kind outcome).1 read)))
      (λ _ _. from (entry 5 0 refl refl))
      (λ _ _. from (either (Leads 6 r.kind) (eqb c.anchor r.seen) (entry 6 0 refl refl) (entry 6 1 refl refl)))
      (λ _ _. from (either (Leads 7 r.kind) (eqb (link_of w).slot (end_seen (at_place r 7))) (entry 7 0 refl refl) (entry 7 1 refl refl)))
      (λ _ _. from (either (Leads 8 r.kind) (eqb c.anchor r.seen) (entry 8 0 refl refl) (entry 8 1 refl refl)))
      (λ _ _. either (K 9) (eqb w r.link) (from (entry 9 0 refl refl)) (from (entry 9 1 refl refl)))
      (λ _ _. either (K 10) (eqb c.anchor r.seen) (from (entry 10 0 refl refl)) (from (entry 10 1 refl refl)))
      (λ e _. either (K 11) (is_pooled c) (from (pops 11 1 (e refl) refl)) (from (pops 11 0 (e refl) refl)))
      (λ _ e. from (either (Leads 12 r.kind) (stack_empty c.head) (pushes 12 0 (e refl) refl) (pushes 12 1 (e refl) refl)))
      (λ _ e. from (pushes 13 0 (e refl) refl))
      (λ _ e. either (K 14) (eqb c.head r.link) (from (pushes 14 0 (e refl) refl)) (from (pushes 14 1 (e refl) refl)))
      (λ e _. from (pops 15 0 (e refl) refl))
      (λ e _. from (pops 16 0 (e refl) refl))
      (λ e _. either (K 17) (eqb c.head r.link) (from (pops 17 0 (e refl) refl)) (from (pops 17 1 (e refl) refl)))
      r.place (eqb-false r.place 0 busy) (leb-true r.place 17 sound.place) (implied _ (is_pop r) sound.pops)
      (implied _ (is_push r) sound.pushes)

-- The law.
pub leads_on : (pooled : Bool) (slots : ℕ) (c : Control) (r : Call) (w : ℕ) → record_sound pooled slots r ≡ true → eqb r.place 0 ≡ false
    → let m = move c r w in eqb (onward (route r.place r.kind m.branch) m.task.finishing) 0 ≡ false
leads_on pooled slots c r w sound busy =
    let facts = sound_record pooled slots r sound busy in
    onward_leads _ _ (leads_from (leads c r w facts.kind facts busy))
