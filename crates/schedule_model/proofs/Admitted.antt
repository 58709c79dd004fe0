-- What holds of a queue and memory with which no call is refused.
use mathlib.Core.{Path.{◌≡◌, refl}, Bool.{true, false}, List.List}
use Prim.Native.Nat.{ℕ, ◌≤◌}
use lib.{Dec.{leb, eqb}, ListN.length}
use borrow.Author.Tests.{leb-true, eqb-true, not-false}
use Rattle.model.specs.{Tables.Queue, Sound.control_sound, Refusals.Rule, Lists.All}
use Rattle.model.proofs.{Tests.{Rules.cleared, Truth.and-true}, Laws.Sizes.fits}
use Rattle.schedule_model.specs.Schedules.{at_work, both_answered}
use Rattle.schedule_model.specs.Next.{two_at_work, schedule_rules, schedule_refusal}

module _ (q : Queue) (ws : List ℕ) (ok : schedule_refusal q ws ≡ 0) where
  rules : All (λ (r : Rule). r.applies ≡ false) (schedule_rules q ws)
  unfolding schedule_refusal
  rules = cleared (schedule_rules q ws) refl ok

  pub control : control_sound q.tables.control ≡ true
  control = not-false _ rules.0

  lengths : (fits q ≡ true) × (leb 49 (length ws) ≡ true)
  lengths = and-true _ _ (not-false _ rules.1.0)

  pub enough : fits q ≡ true
  enough = lengths.0

  pub memory : 49 ≤ length ws
  memory = leb-true 49 (length ws) lengths.1

  two : two_at_work q ≡ true
  two = (and-true _ _ (not-false _ rules.1.1.1.0)).0

  first-busy : (eqb q.tables.control.tasks 2 ≡ true) × (at_work q 0 ≡ true)
  first-busy = and-true _ _ (and-true _ (at_work q 1) two).0

  pub tasks : q.tables.control.tasks ≡ 2
  tasks = eqb-true _ _ first-busy.0

  pub at_work_lem : both_answered q ≡ false
  at_work_lem = rw first-busy.1 refl
