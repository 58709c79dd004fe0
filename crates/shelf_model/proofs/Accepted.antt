-- What is known where a saving or a return is accepted.
use mathlib.Core.{Bool.{true, ◌&&◌}, Logic.◌≢◌, Path.{◌≡◌, refl}}
use Prim.Native.Nat.{ℕ, ◌≤◌}
use lib.{Dec.leb, ListN.length}
use borrow.Author.Tests.{eqb-false, leb-true, not-false}
use Rattle.model.specs.{declared.Control.Control, Tables.Queue, Sound.control_sound}
use Rattle.model.proofs.Tests.{Rules.cleared, Truth.and-true}
use Rattle.shelf_model.specs.Shelves.{Shelves, both_hold, holds, return_refusal, return_rules, save_refusal, shelf_at}
use Rattle.shelf_model.specs.Shelves.{save_rules}
use Rattle.shelf_model.proofs.Copied.{Long, long}

-- Both sides are long enough for what control c asks for.
pub record Fits (c : Control) (q : Queue) (s : Shelves) (n : ℕ) : Type 0 where
  pub low : n ≤ 7
  pub here : Long c q
  pub there : Long c (shelf_at s n)
  pub eight : 8 ≤ length s.controls

both_fit : (c : Control) (q : Queue) (s : Shelves) (n : ℕ) → n ≤ 7 → both_hold c q s n ≡ true → Fits c q s n
both_fit c q s n h e =
    let y = and-true (holds c q && holds c (shelf_at s n)) (leb 8 (length s.controls)) e in
    let x = and-true (holds c q) (holds c (shelf_at s n)) y.0 in
    record { low = h; here = long c q x.0; there = long c (shelf_at s n) x.1; eight = leb-true _ _ y.1 }

pub save_fits : (q : Queue) (s : Shelves) (n : ℕ) → save_refusal q s n ≡ 0 → Fits q.tables.control q s n
unfolding save_refusal
save_fits q s n e =
    let z = cleared (save_rules q s n) refl e in
    both_fit q.tables.control q s n (leb-true _ _ (not-false _ z.1.0)) (not-false _ z.1.1.0)

pub save_sound : (q : Queue) (s : Shelves) (n : ℕ) → save_refusal q s n ≡ 0 → control_sound q.tables.control ≡ true
unfolding save_refusal
save_sound q s n e = not-false _ (cleared (save_rules q s n) refl e).0

pub return_fits : (q : Queue) (s : Shelves) (n : ℕ) → return_refusal q s n ≡ 0 → Fits (shelf_at s n).tables.control q s n
unfolding return_refusal
return_fits q s n e =
    let z = cleared (return_rules q s n) refl e in
    both_fit (shelf_at s n).tables.control q s n (leb-true _ _ (not-false _ z.0)) (not-false _ z.1.1.1.0)

pub return_filled : (q : Queue) (s : Shelves) (n : ℕ) → return_refusal q s n ≡ 0 → (shelf_at s n).tables.control.tasks ≢ 0
unfolding return_refusal
return_filled q s n e = let z = cleared (return_rules q s n) refl e in eqb-false _ _ z.1.0
