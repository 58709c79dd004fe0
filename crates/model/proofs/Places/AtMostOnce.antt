-- A call in the book has at most one effect.
use mathlib.Core.Bool.{Bool, false, true}
use Prim.Native.Nat.{◌≤◌, ℕ}
use native.Mathlib.Omega.{arith}
use Rattle.model.proofs.Machine.{Book.{Both, BookCall}, Machine.{at8, at9, draw, give, idle}}
use Rattle.model.proofs.Machine.Machine.{Kind, Place, Rec, Shared, at1, at10, at11, at2, at3, at4, at5, at6, at7}
use Rattle.model.proofs.Invariant.{Invariant.Inv, Owners.Owner, Tasks.{Stage, Task}}

staged : (f : Bool) (g : ℕ → ℕ) (h : ℕ → Owner) (t : ℕ) (k : Kind) (d : Bool) (x l : ℕ) (c : BookCall) → Stage f g h t k d x l c → c.effects ≤ 1
staged false g h t k d x l c w = omega (arith, w.none)
staged true g h t k d x l c w = omega (arith, w.0.once)

at_most_one : (p : Place) (s : Shared) (h : ℕ → Owner) (t : ℕ) (r : Rec) (c : BookCall) → Task p s h t r c → c.effects ≤ 1
at_most_one idle s h t r c w = omega (arith, w.0)
at_most_one at1 s h t r c w = omega (arith, w.1.none)
at_most_one at2 s h t r c w = omega (arith, w.0.before.none)
at_most_one at3 s h t r c w = omega (arith, w.0.before.none)
at_most_one at4 s h t r c w = omega (arith, w.0.before.none)
at_most_one at5 s h t r c w = staged r.finishing _ _ _ _ _ _ _ c w.stage
at_most_one at6 s h t r c w = staged r.finishing _ _ _ _ _ _ _ c w.0.stage
at_most_one at7 s h t r c w = staged r.finishing _ _ _ _ _ _ _ c w.0.stage
at_most_one at8 s h t r c w = staged r.finishing _ _ _ _ _ _ _ c w.0.stage
at_most_one at9 s h t r c w = staged r.finishing _ _ _ _ _ _ _ c w.0.stage
at_most_one at10 s h t r c w = staged r.finishing _ _ _ _ _ _ _ c w.0.stage
at_most_one at11 s h t r c w = omega (arith, w.after.once)
at_most_one (draw p) s h t r c w = omega (arith, w.1.none)
at_most_one (give p) s h t r c w = omega (arith, w.1.after.once)

pub few_effects : (p : Both) → Inv p → (t : ℕ) → (p.book.calls t).effects ≤ 1
few_effects p i t = at_most_one (p.state.task t).place p.state.shared i.owner t (p.state.task t) (p.book.calls t) (i.tasks t)
