-- What holds of the queue that every accepted opening leaves, and of any list after it.
use mathlib.Core.{Bool.Bool, List.List, Path.◌≡◌}
use Prim.Native.Nat.{ℕ}
use native.Mathlib.Omega.{arith}
use lib.Dec.{eqb}
use borrow.Author.Tests.{eqb-true}
use Rattle.model.specs.Outcomes.{Opened, Refused}
use Rattle.model.specs.{Tables.Queue, Refusals.open_refusal}
use Rattle.model.specs.{Calls.{open_as, opened}, History.{AfterOpeningAs, Request}}
use Rattle.model.proofs.Tests.Truth.{split}

pub after-opening : (pooled : Bool) (P : Queue → List Request → Type 0)
    → ((q : Queue) (tasks slots tag : ℕ) → open_refusal pooled q tasks slots ≡ 0 → (os : List Request) → P (opened pooled q tasks slots tag) os)
    → AfterOpeningAs pooled P
unfolding open_as
after-opening pooled P h q tasks slots tag e os = split (eqb (open_refusal pooled q tasks slots) 0)
    (λ z. rw z (h q tasks slots tag (eqb-true _ _ z) os))
    (λ z. absurd (let f : Refused (open_refusal pooled q tasks slots) ≡ Opened = rw z at e in let w : ◌≡◌ {A = ℕ} 0 1 = cc in omega arith))
