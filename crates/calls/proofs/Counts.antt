-- What the report counts is bounded.
use mathlib.Core.{Path.{◌≡◌, refl}, Bool.{Bool, true, false, ◌&&◌, cond}}
use Prim.Native.Nat.{ℕ, zero, suc, ◌≤◌}
use native.Mathlib.Omega.{arith}
use lib.Dec.{leb}
use borrow.Author.Tests.{leb-true}
use Rattle.model.{specs.{declared.Control.Control, Lists.count}, proofs.Tests.Truth.and-true}
use Rattle.calls.specs.Telling.{countable}

one_at_most : (b : Bool) → cond b 1 0 ≤ 1
one_at_most true = omega arith
one_at_most false = omega arith

pub count_most : (p : ℕ → Bool) (n : ℕ) → count p n ≤ n
unfolding count
count_most p zero = omega arith
count_most p (suc n) = omega (arith, count_most p n, one_at_most (p n))

-- No more records are looked at than are lent, and 16 at the most.
pub countable-fits : (c : Control) (n : ℕ) → (countable c n ≤ n) × (countable c n ≤ 16)
unfolding countable
countable-fits c n = go (leb c.tasks 16 && leb c.tasks n) refl
  where
    go : (b : Bool) → (leb c.tasks 16 && leb c.tasks n) ≡ b → (cond b c.tasks 0 ≤ n) × (cond b c.tasks 0 ≤ 16)
    go true e =
        let h = and-true (leb c.tasks 16) (leb c.tasks n) e in
        (leb-true c.tasks n h.1, leb-true c.tasks 16 h.0)
    go false e = (omega arith, omega arith)
