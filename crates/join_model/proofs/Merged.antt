-- The merge: each list in its own order, nothing lost, ascending where both are.
use mathlib.Core.{Path.{◌≡◌, refl}, List.{List, [], ◌∷◌}}
use Prim.Native.Nat.{ℕ, ◌+◌}
use native.Mathlib.Omega.{arith}
use lib.ListN.{length}
use borrow.Author.Tests.{leb-true, leb-false}
use Rattle.model.{proofs.Tests.Truth.by_test, specs.Lists.copies}
use Rattle.join_model.specs.Merge.{first_goes, merge, Interleaved, neither, of_first, of_second, AtLeast, Ascending}

all_first : (xs : List ℕ) → Interleaved xs [] xs
all_first [] = neither
all_first (x ∷ xs) = of_first x (all_first xs)

all-second : (ys : List ℕ) → Interleaved [] ys ys
all-second [] = neither
all-second (y ∷ ys) = of_second y (all-second ys)

pub interleaved : (xs ys : List ℕ) → Interleaved xs ys (merge xs ys)
interleaved [] ys = all-second ys
interleaved (x ∷ xs) [] = all_first (x ∷ xs)
interleaved (x ∷ xs) (y ∷ ys) =
    by_test (Interleaved (x ∷ xs) (y ∷ ys)) (first_goes x y) (λ e. of_first x (interleaved xs (y ∷ ys))) (λ e. of_second y (interleaved (x ∷ xs) ys))

-- The length and the copies of each label add up.
pub length_merged : {xs ys zs : List ℕ} → Interleaved xs ys zs → length zs ≡ length xs + length ys
length_merged neither = refl
length_merged (of_first x i) = let z = length_merged i in omega arith
length_merged (of_second y i) = let z = length_merged i in omega arith

pub copies_merged : (v : ℕ) {xs ys zs : List ℕ} → Interleaved xs ys zs → copies v zs ≡ copies v xs + copies v ys
copies_merged v neither = refl
copies_merged v (of_first x i) = let z = copies_merged v i in omega arith
copies_merged v (of_second y i) = let z = copies_merged v i in omega arith

-- What is at most the first of both is at most the first of the merge.
at_most : (v : ℕ) (xs ys : List ℕ) → AtLeast v xs → AtLeast v ys → AtLeast v (merge xs ys)
at_most v [] ys h g = g
at_most v (x ∷ xs) [] h g = h
at_most v (x ∷ xs) (y ∷ ys) h g =
    by_test (AtLeast v) (first_goes x y)
    (λ e. (h.0, at_most x xs (y ∷ ys) h.1 (leb-true x y e, g.1)))
    (λ e. (g.0, at_most y (x ∷ xs) ys (let z = leb-false x y e in omega arith, h.1) g.1))

pub ascending : (xs ys : List ℕ) → Ascending xs → Ascending ys → Ascending (merge xs ys)
ascending [] ys a b = b
ascending (x ∷ xs) [] a b = a
ascending (x ∷ xs) (y ∷ ys) a b =
    by_test Ascending (first_goes x y)
    (λ e. at_most x xs (y ∷ ys) a (leb-true x y e, b))
    (λ e. at_most y (x ∷ xs) ys (let z = leb-false x y e in omega arith, a) b)

pub tie : (x : ℕ) (xs ys : List ℕ) → merge (x ∷ xs) (x ∷ ys) ≡ x ∷ merge xs (x ∷ ys)
tie x xs ys = by_test (λ (l : List ℕ). l ≡ x ∷ merge xs (x ∷ ys)) (first_goes x x) (λ e. refl) (λ e. absurd (let z = leb-false x x e in omega arith))
