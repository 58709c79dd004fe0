-- The model's step in its two parts, and the second by its place.
use mathlib.Core.{Path.{◌≡◌, refl, ap, sym, ◌∙◌}, Bool.{true, ◌&&◌, cond, and-eq-true_iff}}
use Prim.Native.Nat.{ℕ, suc, ◌≤◌}
use native.Mathlib.Omega.{arith}
use lib.Dec.{eqb}
use borrow.Author.Tests.{leb-true, eqb-false, ne_eqb}
use Rattle.model.specs.Outcomes.{Refused}
use Rattle.model.specs.{declared.Record.Record, Tables.{Tables, is_pooled}}
use Rattle.model.specs.{Sound.{control_sound, record_sound, rows_fit}, Places.{word_found, move}}
use Rattle.model.specs.{Refusals.{Lent, step_sound, step_refusal, admission, record_refusal}, Calls.{decide, finish, step}}
use Rattle.model.proofs.Tests.Truth.{split}
use Rattle.places.specs.Arm.{step_at}
use Rattle.engine.specs.StepAdmitted.{step_admitted}

pub above : {n x : ℕ} → n ≤ x → (x ≡ n → ⊥) → suc n ≤ x
above low other = omega arith

pub below : {n x : ℕ} → x ≤ suc n → (x ≡ suc n → ⊥) → x ≤ n
below high other = omega arith

-- The step at a record's own place.
pub here : (q : Tables) (r : Record)
    → (let t = r.call in
    step_at t.place q t r.retries ≡ decide (cond (step_sound q.control t (word_found q t)) 0 34) q r (finish q r (move q.control t (word_found q t))))
unfolding step_at
here q r = refl

module _ (q : Tables) (p : Lent) (r : Record) where
  abbrev pub why : ℕ
  why = admission q.control (rows_fit (is_pooled q.control) q.control.slots q) p

  pub in_parts : step q p r ≡ cond (eqb why 0) (step_admitted q r) (record { tables = q; task = r; outcome = Refused why })
  unfolding step step_refusal admission record_refusal step_admitted
  in_parts =
      split (control_sound q.control)
      (λ a. split (rows_fit (is_pooled q.control) q.control.slots q && p.enough)
      (λ b. split p.known
      (λ k. split (record_sound (is_pooled q.control) q.control.slots r.call)
      (λ s. split (eqb r.call.place 0)
      (λ z. simp (a, b, k, s, z))
      (λ z. split (step_sound q.control r.call (word_found q r.call)) (λ t. simp (a, b, k, s, z, here, t)) (λ t. simp (a, b, k, s, z, here, t))))
      (λ s. simp (a, b, k, s)))
      (λ k. simp (a, b, k)))
      (λ b. simp (a, b)))
      (λ a. simp a)

  -- Not admitted: the number alone.
  pub turned_away : (w : ℕ) → w ≡ why → (w ≡ 0 → ⊥) → record { tables = q; task = r; outcome = Refused w } ≡ step q p r
  turned_away w e h = sym (rw (← e, ne_eqb _ _ h) at in_parts)

  pub admitted : why ≡ 0 → step_admitted q r ≡ step q p r
  admitted none = sym (rw none at in_parts)

  -- An admitted task has a record among so many.
  pub task_there : why ≡ 0 → p.enough ≡ true × p.known ≡ true
  unfolding admission
  task_there none =
      split (control_sound q.control)
      (λ a. split (rows_fit (is_pooled q.control) q.control.slots q && p.enough)
      (λ b. split p.known
      (λ k. (((and-eq-true_iff (rows_fit (is_pooled q.control) q.control.slots q) p.enough).0 b).1, k))
      (λ k. absurd (let h : ◌≡◌ {A = ℕ} 13 0 = simp (a, b, k) at none in omega arith)))
      (λ b. absurd (let h : ◌≡◌ {A = ℕ} 12 0 = simp (a, b) at none in omega arith)))
      (λ a. absurd (let h : ◌≡◌ {A = ℕ} 34 0 = simp a at none in omega arith))

module _ (q : Tables) (r : Record) where
  abbrev pub fault : ℕ
  fault = record_refusal (is_pooled q.control) q.control.slots r.call

  pub stopped : (w : ℕ) → w ≡ fault → (w ≡ 0 → ⊥) → record { tables = q; task = r; outcome = Refused w } ≡ step_admitted q r
  unfolding step_admitted
  stopped w e h = rw (← e, ne_eqb _ _ h)

  pub at-place : (n : ℕ) → fault ≡ 0 → r.call.place ≡ n → step_at n q r.call r.retries ≡ step_admitted q r
  unfolding step_admitted
  at-place n none at = ap (λ (k : ℕ). step_at k q r.call r.retries) (sym at) ∙ rw none

  -- Past the refusals the place is 1 to 17, and in a named queue 1 to 11.
  pub placed : fault ≡ 0 → (1 ≤ r.call.place) × (r.call.place ≤ cond (is_pooled q.control) 17 11)
  unfolding record_refusal record_sound
  placed none =
      split (record_sound (is_pooled q.control) q.control.slots r.call)
      (λ s. split (eqb r.call.place 0)
      (λ z. never (simp (s, z) at none))
      (λ z. (busy (eqb-false _ _ z), leb-true _ _ ((and-eq-true_iff _ _).0 (rw z at s)).0)))
      (λ s. never (simp s at none))
    where
      busy : (r.call.place ≡ 0 → ⊥) → 1 ≤ r.call.place
      busy other = omega arith

      never : {n : ℕ} → suc n ≡ 0 → (1 ≤ r.call.place) × (r.call.place ≤ cond (is_pooled q.control) 17 11)
      never h = absurd (omega arith)

  pub below_18 : fault ≡ 0 → r.call.place ≤ 17
  below_18 none = split (is_pooled q.control) (λ e. rw e at (placed none).1) (λ e. wider (rw e at (placed none).1))
    where
      wider : r.call.place ≤ 11 → r.call.place ≤ 17
      wider h = omega arith
