-- A page that took bytes went on.
use Prim.Native.Nat.{ℕ, ◌<◌, ◌≤◌}
use mathlib.Core.{Path.{◌≡◌, ap, ◌∙◌}, List.List}
use native.Mathlib.Omega.{arith}
use lib.{ListN.length}
use Rattle.trace_field.specs.Page.{Page}
use Rattle.trace_replay.{specs.Pieces.next_page, proofs.PageEnds.next-onward}

pub went_on : (bytes : List ℕ) (p x : Page) → x ≡ next_page bytes p → (x.at ≡ p.at → ⊥) → (p.at < x.at) × (x.at ≤ length bytes)
went_on bytes p x e h =
    let same = ap (λ (y : Page). y.at) e in
    let on = next-onward bytes p (λ k. h (same ∙ k)) in
    (omega (arith, on.0, same), omega (arith, on.1, same))
