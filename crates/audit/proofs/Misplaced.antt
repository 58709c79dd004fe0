-- The first position that stands too early, by the least answer event of those behind it.
use mathlib.Core.{Bool.{Bool, ◌&&◌}, List.{List, [], ◌∷◌}, Path.{◌≡◌, sym, ap, ◌∙◌}}
use Prim.Native.Nat.{ℕ, suc, ◌<◌, ◌≤◌, min}
use native.Mathlib.Omega.{arith}
use lib.{Dec.leb, ListN.length}
use borrow.Author.Tests.{le-leb, leb-true, lt-leb}
use Rattle.model.proofs.Tests.Truth.{agree, and_of, and-true, either}
use Rattle.audit_model.specs.{declared.Finished.Finished, Audit.{all_of, in_order, not_earlier, numbered}}
use Rattle.audit.specs.FirstMisplaced.{first_misplaced}

abbrev pub least_end : List Finished → ℕ
least_end [] = 18446744073709551615
least_end (c ∷ cs) = min (least_end cs) c.end

leb_min : (s a b : ℕ) → leb s a && leb s b ≡ leb s (min b a)
leb_min s a b = agree (leb s a && leb s b) (leb s (min b a))
    (λ e. let z = and-true (leb s a) (leb s b) e in le-leb s (min b a) (omega (arith, leb-true s a z.0, leb-true s b z.1)))
    (λ e. let z = leb-true s (min b a) e in and_of (le-leb s a (omega arith)) (le-leb s b (omega arith)))

none-earlier : (c : Finished) (l : List Finished) → c.start ≤ 18446744073709551615 → all_of (not_earlier c) l ≡ leb c.start (least_end l)
unfolding not_earlier
none-earlier c [] h = sym (le-leb c.start 18446744073709551615 h)
none-earlier c (d ∷ l) h = ap (λ (b : Bool). leb c.start d.end && b) (none-earlier c l h) ∙ leb_min c.start d.end (least_end l)

-- One call more in front: it stands too early, or not.
module _ (c : Finished) (l : List Finished) (h : c.start ≤ 18446744073709551615) where
  pub misplaced_here : least_end l < c.start → first_misplaced (c ∷ l) ≡ 0
  unfolding first_misplaced
  misplaced_here e = rw (none-earlier c l h, lt-leb c.start (least_end l) e)

  pub misplaced_behind : c.start ≤ least_end l → first_misplaced (c ∷ l) ≡ suc (first_misplaced l)
  unfolding first_misplaced
  misplaced_behind e = rw (none-earlier c l h, le-leb c.start (least_end l) e)

-- The first is a position of the order, or its length.
pub misplaced_within : (cs : List Finished) (ks : List ℕ) → first_misplaced (in_order cs ks) ≤ length ks
unfolding first_misplaced
misplaced_within cs [] = omega arith
misplaced_within cs (k ∷ ks) =
    either (λ (m : ℕ). m ≤ suc (length ks)) (all_of (not_earlier (numbered cs k)) (in_order cs ks)) (omega (arith, misplaced_within cs ks)) (omega arith)
