-- The tag part of the invariant. (It serves the claim that 34 never occurs; linearizability needs no bound on tags.)
use mathlib.Core.{Bool.{Bool, cond, false, true}, Logic.◌⊎◌, Path.◌≡◌}
use Prim.Native.Nat.{◌+◌, ◌<◌, ◌≤◌, ℕ}
use Rattle.model.proofs.Machine.Machine.{Kind, Phase, Rec, Shared, Status, fetching, returning, inside, phase}
use Rattle.model.proofs.{Machine.Machine.{pop, push, pushing, outside, stable, leaving}, Invariant.Shape.Made}

-- (3) Each link's tag is at most Anchor's; while the link back is not made, the tags of that side are below it.
pub record Tags (s : Shared) : Type 0 where
  pub upper : (e : Bool) (y : ℕ) → y ≤ s.slots → (s.link e y).tag ≤ s.anchor.tag
  pub room : (e : Bool) → s.anchor.status ≡ pushing e → Made s.link s.anchor e ⊎ ((y : ℕ) → y ≤ s.slots → (s.link e y).tag < s.anchor.tag)

-- (17) What a task's calls have left the head's tag behind Anchor's: 1, and 1 more for a pop after its effect, 1 less for a push that has its
-- slot and not yet its effect. With H for the head's tag and T for Anchor's, H + shares ≤ T + tasks.
abbrev pub claims : Kind → ℕ
claims push = 0
claims pop = 1

abbrev pub shares : Phase → Bool → Kind → ℕ
shares outside f k = 1
shares inside f k = cond f 1 (claims k)
shares leaving f k = 2
shares fetching f k = 1
shares returning f k = 2

abbrev pub share : Rec → ℕ
share r = shares (phase r.place) r.finishing r.kind

-- (4) The changes of Anchor that are still owed: a push before its effect two (place 4, then 10), a pop one, an unstable Anchor one.
abbrev pub owes : Kind → ℕ
owes push = 2
owes pop = 1

-- The task owes nothing: it is idle, a pop at 11 or 15 to 17, or a push that is finishing.
abbrev pub spent : Phase → Bool → Bool
spent outside f = true
spent inside f = f
spent leaving f = true
spent fetching f = false
spent returning f = true

abbrev pub cost : Rec → ℕ
cost r = cond (spent (phase r.place) r.finishing) 0 (owes r.kind)

abbrev pub unsettled : Status → ℕ
unsettled stable = 0
unsettled (pushing d) = 1

-- Anchor's tag and the change that its status owes. With the costs of all tasks it stays at most 4,294,967,295.
abbrev pub weight : Shared → ℕ
weight s = s.anchor.tag + unsettled s.anchor.status
