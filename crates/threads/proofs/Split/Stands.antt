-- A split step is the step on the lent record.
use mathlib.Core.{Path.{◌≡◌, ◌∙◌}, Bool.true}
use Prim.Native.Nat.{ℕ}
use native.Mathlib.Omega.{arith}
use lib.Dec.{eqb}
use borrow.Author.Tests.{eqb-true}
use Rattle.word.specs.Anchor.{anchor_of}
use Rattle.model.specs.{declared.Record.Record, Tables.{Tables, is_pooled}, Calls.step_lent}
use Rattle.model.{specs.Sound.{anchor_sound, control_tests, control_sound}, proofs.Tests.{Rules.tests, Truth.split}}
use Rattle.model.specs.Refusals.{admission, alone, fits, record_refusal}
use Rattle.engine.{specs.StepAdmitted.step_admitted, proofs.InParts.{admitted, placed, below_18}}
use Rattle.threads_model.specs.Split.{perform, plan, settle, split_step}
use Rattle.threads.specs.Promises.{SplitStands}
use Rattle.threads.proofs.Split.ByPlace.{splits}

-- Where the Anchor is sound, the three parts are what an admitted record does.
moves : (q : Tables) (r : Record) → anchor_sound q.control.slots (anchor_of q.control.anchor) ≡ true → split_step q r ≡ step_admitted q r
unfolding split_step plan perform settle step_admitted
moves q r sound =
    split (eqb (record_refusal (is_pooled q.control) q.control.slots r.call) 0)
    (λ z. let none = eqb-true _ _ z in
    rw z (splits q r.retries sound r.call (placed q r none).0 (below_18 q r none)))
    (λ z. rw z)

-- Admitted tables have a sound Anchor.
anchor-sound : (q : Tables) → control_sound q.control ≡ true → anchor_sound q.control.slots (anchor_of q.control.anchor) ≡ true
unfolding control_sound
anchor-sound q h = (tests (control_tests q.control) h).1.1.0

control-sound : (q : Tables) → admission q.control (fits q) alone ≡ 0 → control_sound q.control ≡ true
unfolding admission
control-sound q h = split (control_sound q.control) (λ a. a) (λ a. absurd (let z : ◌≡◌ {A = ℕ} 34 0 = simp a at h in omega arith))

pub split-stands : SplitStands
unfolding step_lent
split-stands q r h = moves q r (anchor-sound q (control-sound q h)) ∙ admitted q alone r h
