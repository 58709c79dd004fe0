-- What a task owes is one step at least, and at most two more than at place 1 under RPUSH or LPUSH, or 5 more if it draws its slot.
use mathlib.Core.Bool.{Bool, ◌&&◌, cond, false, true}
use Prim.Native.Nat.{◌+◌, ◌≤◌, ℕ}
use native.Mathlib.Omega.{arith}
use Rattle.model.proofs.{Tests.Truth.either, Machine.Machine.{is_stable, same, same_link}}
use Rattle.model.proofs.Machine.Machine.{Draw, Give, Place, Rec, Shared, at1, at10, at11, at12, at13, at14, at15}
use Rattle.model.proofs.Machine.Machine.{at16, at17, at2, at3, at4, at5, at6, at7, at8, at9, draw, give, idle}
use Rattle.model.proofs.Progress.Measure.{drawing, due, giving, home, outgrown, owed}

drawing_most : (draws top : Bool) (p : Draw) → cond draws (drawing top p) 0 ≤ 2 + cond draws 3 0
drawing_most true top at12 = omega arith
drawing_most true top at13 = either (λ z. z ≤ 2 + 3) top (omega arith) (omega arith)
drawing_most true top at14 = either (λ z. z ≤ 2 + 3) top (omega arith) (omega arith)
drawing_most false top p = omega arith

module _ (c g : ℕ) (draws : Bool) (some : 1 ≤ c) (gap : c + 2 ≤ g) where
  abbrev Within : ℕ → Type 0
  Within x = (1 ≤ x) × (x ≤ g + 7 + cond draws 3 0)

  module _ (pooled ends steady now grown top : Bool) where
    -- Up to two steps more than at place 1, or to five with a slot to draw.
    more : (n : ℕ) → n ≤ 2 + cond draws 3 0 → Within (home c g steady + n)
    more n le = either (λ x. Within (x + n)) steady (omega arith, omega arith) (omega arith, omega arith)

    giving-within : (p : Give) → Within (giving top p)
    giving-within at15 = (omega arith, omega arith)
    giving-within at16 = either Within top (omega arith, omega arith) (omega arith, omega arith)
    giving-within at17 = either Within top (omega arith, omega arith) (omega arith, omega arith)

    due_within : (p : Place) → Within (due c g draws pooled ends steady now grown top p)
    due_within idle = more (cond draws 3 0) (omega arith)
    due_within at1 = either Within steady (omega arith, omega arith) (omega arith, omega arith)
    due_within at2 = either Within (steady && now) (omega arith, omega arith) (more 1 (omega arith))
    due_within at3 = either Within (steady && now) (omega arith, omega arith) (more 2 (omega arith))
    due_within at4 = either Within (steady && now) (omega arith, omega arith) (more 1 (omega arith))
    due_within at5 = either Within ends (omega arith, omega arith) (either Within now (omega arith, omega arith) (more 2 (omega arith)))
    due_within at6 = either Within ends (omega arith, omega arith) (either Within now (omega arith, omega arith) (more 1 (omega arith)))
    due_within at7 = either Within ends (omega arith, omega arith) (either Within now (omega arith, omega arith) (more 2 (omega arith)))
    due_within at8 = either Within ends (omega arith, omega arith)
        (either Within now (either Within grown (more 2 (omega arith)) (omega arith, omega arith)) (more 1 (omega arith)))
    due_within at9 = either Within ends (omega arith, omega arith) (either Within grown (more 1 (omega arith)) (omega arith, omega arith))
    due_within at10 = either Within ends (omega arith, omega arith) (either Within now (omega arith, omega arith) (more 1 (omega arith)))
    due_within at11 = either Within pooled (omega arith, omega arith) (omega arith, omega arith)
    due_within (draw p) = more (cond draws (drawing top p) 0) (drawing_most draws top p)
    due_within (give p) = giving-within p

  pub owed-within : (s : Shared) (r : Rec) → Within (owed c g draws s r)
  owed-within s r = due_within s.pooled r.finishing (is_stable s.anchor.status) (same r.read s.anchor) (outgrown s r)
      (same_link r.link s.head) r.place
