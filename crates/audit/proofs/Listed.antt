-- The numbers of a list as marks of one word: a number is new to the list where its mark is clear.
use mathlib.Core.{Bool.not, List.{List, ◌∷◌}, Path.{◌≡◌, refl, ◌∙◌}}
use Prim.Native.Nat.{ℕ, ◌-◌, ◌≤◌}
use native.Mathlib.{Decide.ℕ_discrete, Omega.arith}
use lib.{ListN.{length}}
use borrow.Author.Tests.{eq-eqb, ne_eqb}
use Rattle.model.{specs.Tables.{marked, with_mark}, proofs.Bridge.Marks.{marked_other, marked-same}}
use Rattle.audit_model.specs.Audit.{all_of, differ}

abbrev pub Listed : List ℕ → List ℕ → Type 0
Listed marks l = (k : ℕ) → 1 ≤ k → k ≤ 64 → marked marks (k - 1) ≡ not (all_of (differ k) l)

pub one_more : (marks l : List ℕ) (x : ℕ) → length marks ≡ 1 → 1 ≤ x → x ≤ 64 → Listed marks l → Listed (with_mark marks (x - 1) 1) (x ∷ l)
one_more marks l x one low high is k a b = go (ℕ_discrete k x)
  where
    go : Dec (k ≡ x) → marked (with_mark marks (x - 1) 1) (k - 1) ≡ not (all_of (differ k) (x ∷ l))
    go (yes e) = rw (e, eq-eqb x x refl) (marked-same marks (x - 1) 1 (omega arith) (omega arith))
    go (no e) = marked_other marks (x - 1) 1 (omega arith) (omega arith) (k - 1) (λ z. e (omega arith)) ∙ rw (ne_eqb k x e) (is k a b)
