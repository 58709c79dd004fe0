-- Whatever instruction is made, Anchor's tag keeps room for the changes still to come; a push that claims its slot counts as one that owes two.
use mathlib.Core.{Path.{◌≡◌, refl, ap, sym, subst, ◌∙◌}, Bool.{Bool, true, false, cond}, List.{List, [], ◌∷◌}}
use Prim.Native.Nat.{ℕ}
use lib.Dec.{eqb}
use Rattle.model.specs.{declared.Op.Op, Tables.{Queue, task_at, marked, started}, Refusals.late, Calls.act}
use Rattle.model.proofs.{Tests.Truth.{either, split, not_both}, Unsound.StartSafe.Room}
use Rattle.threads_model.specs.{Turns.{take_early, final_turns}, Instructions.Ticked}
use Rattle.threads_model.specs.Instructions.{Hand, free, begun, loaded, knows, claims, looks, labels, marks, ends, tick}
use Rattle.threads_model.specs.Crew.{Crew, next, with_hand, ticked, go, as_turns, turns_of}
use Rattle.threads.proofs.Lists.TagRoom.{Roomy, act_roomy, early-room, early_roomy, fewer_roomy, turn_roomy}
use Rattle.threads.proofs.Follow.{Good.{Good, good_act}, LateStays.{LateAfter, is_claims, tick-left}}
use Rattle.threads.proofs.Follow.Starting.{claims-is}

-- Pushes that have passed 33 and had no turn yet.
abbrev pub passed : Crew → ℕ → Bool
passed m u = is_claims (m.hands u)

module _ (tasks pooled slots t : ℕ) where
  -- Starts and steps as ever.
  acts_roomy : (early : ℕ → Bool) → early t ≡ false → (ds : List Op) (q : Queue) → Good tasks pooled slots q → Roomy early q
      → Roomy early (final_turns q (as_turns t false ds))
  unfolding final_turns take_early
  acts_roomy early none [] q g r = r
  acts_roomy early none (o ∷ ds) q g r =
      acts_roomy early none ds (act q t o).queue (good_act tasks pooled slots q t o g)
      (act_roomy g.position q g.ledger g.matched g.safe t early none r o)

  module _ (m : Crew) (q : Queue) (g : Good tasks pooled slots q) (r : Roomy (passed m) q) where
    -- Room for the thread's own push.
    pub own_room : (side slot label : ℕ) → m.hands t ≡ claims side slot label → Room q t (started 0 side slot label)
    own_room side slot label at = early-room q g.safe t (passed m) (ap is_claims at) r (started 0 side slot label)

    abbrev k : Ticked
    k = ticked pooled slots m t

    abbrev m' : Crew
    m' = go pooled slots m (next t)

    abbrev q' : Queue
    q' = final_turns q (turns_of t k)

    abbrev others : ℕ → Bool
    others u = cond (eqb u t) false (passed m u)

    others_passed : (u : ℕ) → others u ≡ true → passed m u ≡ true
    others_passed u e = split (eqb u t)
        (λ x. absurd (not_both (sym (ap (λ (c : Bool). cond c false (passed m u)) x) ∙ e) refl))
        (λ x. sym (ap (λ (c : Bool). cond c false (passed m u)) x) ∙ e)

    -- Where the thread claims no slot after it, the others may.
    fewer : is_claims k.hand ≡ false → (early : ℕ → Bool) → ((u : ℕ) → others u ≡ true → early u ≡ true) → Roomy early q' → Roomy (passed m') q'
    unfolding go
    fewer none early less roomy = fewer_roomy early (passed m') q' (λ u e. less u (other u e)) roomy
      where
        other : (u : ℕ) → is_claims (with_hand m.hands t k.hand u) ≡ true → others u ≡ true
        other u e = split (eqb u t)
            (λ x. absurd (not_both (sym (ap (λ (c : Bool). is_claims (cond c k.hand (m.hands u))) x) ∙ e) none))
            (λ x. ap (λ (c : Bool). cond c false (passed m u)) x ∙ sym (ap (λ (c : Bool). is_claims (cond c k.hand (m.hands u))) x) ∙ e)

    module _ (g' : Good tasks pooled slots q') (control : k.tables.control ≡ q'.tables.control) where
      left : LateAfter pooled slots (m.hands t) k
      left = tick-left pooled slots m.queue.tables (task_at m.queue t) (m.hands t)

      plainly : is_claims (m.hands t) ≡ false → Roomy (passed m') q'
      plainly none =
          let roomy : Roomy (passed m) q' =
          subst (λ (b : Bool). Roomy (passed m) (final_turns q (as_turns t b k.decides))) (sym (left.early none))
          (acts_roomy (passed m) none k.decides q g r) in
          split (is_claims k.hand)
          (λ e. early_roomy (passed m') q' g'.safe.control (ap late (sym control) ∙ left.claim e))
          (λ e. fewer e (passed m) others_passed roomy)

      pub next_roomy : (k₀ : Hand) → m.hands t ≡ k₀ → Roomy (passed m') q'
      unfolding final_turns
      next_roomy free at = plainly (ap is_claims at)
      next_roomy (begun op) at = plainly (ap is_claims at)
      next_roomy (loaded w) at = plainly (ap is_claims at)
      next_roomy (knows label) at = plainly (ap is_claims at)
      next_roomy (claims side slot label) at =
          let T = m.queue.tables in
          let x = task_at m.queue t in
          let P : Ticked → Type 0 = λ (k : Ticked). (is_claims k.hand ≡ false) × Roomy others (final_turns q (turns_of t k)) in
          let turn = turn_roomy q g.safe t (passed m) (ap is_claims at) r g.position g.ledger g.matched side slot label in
          let both : P k =
          subst (λ (h : Hand). P (tick pooled slots T x h)) (sym at)
          (subst P (sym (claims-is T x side slot label)) (either P (marked T.marks slot) (refl, turn) (refl, turn))) in
          fewer both.0 others (λ u e. e) both.1
      next_roomy (looks side slot label) at = plainly (ap is_claims at)
      next_roomy (labels both slot label task o) at = plainly (ap is_claims at)
      next_roomy (marks slot task o) at = plainly (ap is_claims at)
      next_roomy (ends task o) at = plainly (ap is_claims at)
