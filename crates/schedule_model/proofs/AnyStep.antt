-- A search by another step finds the same, where that step does the same on every queue that is sound and long enough.
use mathlib.Core.{Path.{◌≡◌, refl, ap, ◌∙◌}, Bool.Bool, List.List}
use Prim.Native.Nat.{ℕ, zero, suc, ◌<◌}
use native.Mathlib.Omega.{arith}
use Rattle.model.specs.{declared.Op.TheVariants.Step, Tables.Queue, Calls.{Done, act}}
use Rattle.schedule_model.specs.{Next.Next, Search.{frees, level, seek_by}}
use Rattle.schedule_model.proofs.OnlyUnsound.{Ready, stays}

-- The search by the steps of the list, which ask for admission each time.
abbrev pub seek_of : List ℕ → ℕ → ℕ → Bool → Queue → Next
seek_of = seek_by (λ q t. act q t Step)

module _ (by : Queue → ℕ → Done) (same : (q : Queue) (t : ℕ) → Ready q → t < 2 → by q t ≡ act q t Step) (ws : List ℕ) (len : ℕ) where
  pub any_step : (n : ℕ) (free : Bool) (q : Queue) → Ready q → seek_by by ws len n free q ≡ seek_of ws len n free q
  unfolding seek_by
  any_step zero free q h = refl
  any_step (suc n) free q h =
      let first = same q 0 h (omega arith) in
      let second = same q 1 h (omega arith) in
      let f : ℕ → Bool = λ t. frees ws len (suc n) free t in
      let m = ap (λ (d : Done). seek_by by ws len n (f 0) d.queue) first ∙ any_step n (f 0) (act q 0 Step).queue (stays q 0 h) in
      let m' = ap (λ (d : Done). seek_by by ws len n (f 1) d.queue) second ∙ any_step n (f 1) (act q 1 Step).queue (stays q 1 h) in
      λ i. level ws len (suc n) free q (first i).outcome (second i).outcome (m i) (m' i)
