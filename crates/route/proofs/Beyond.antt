-- Beyond its places and their branches a route leads nowhere.
use mathlib.Core.{Path.{◌≡◌, refl, ap, sym}, Bool.{Bool, true, ◌&&◌}, List.{List, [], ◌∷◌}}
use Prim.Native.Nat.{ℕ, zero, suc, ◌<◌, ◌≤◌}
use native.Mathlib.Omega.{arith}
use lib.{Dec.{eqb, leb}, ListN.{get_or, length, get_or-eq_default}}
use borrow.Author.Tests.{leb-true}
use Rattle.model.{specs.Route.{route, push_route, pop_route}, proofs.Tests.Truth.{and-true, either}}

pub past : (place kind branch : ℕ) → 17 < place → 0 ≡ route place kind branch
unfolding route push_route pop_route
past place kind branch h =
    either (λ (l : List (List ℕ)). 0 ≡ get_or (get_or l place []) branch 0) (eqb kind 0)
    (sym (ap (λ (l : List ℕ). get_or l branch 0) (get_or-eq_default push_route [] {n = place} (omega (arith, h)))))
    (sym (ap (λ (l : List ℕ). get_or l branch 0) (get_or-eq_default pop_route [] {n = place} (omega (arith, h)))))

-- No place has more than five branches.
abbrev short : List (List ℕ) → Bool
short [] = true
short (l ∷ ls) = leb (length l) 5 && short ls

short_at : (ls : List (List ℕ)) → short ls ≡ true → (place : ℕ) → length (get_or ls place []) ≤ 5
short_at [] h place = leb-true 0 5 refl
short_at (l ∷ ls) h zero = leb-true _ _ (and-true (leb (length l) 5) (short ls) h).0
short_at (l ∷ ls) h (suc place) = short_at ls (and-true (leb (length l) 5) (short ls) h).1 place

pub many : (place kind branch : ℕ) → 4 < branch → 0 ≡ route place kind branch
unfolding route push_route pop_route
many place kind branch h =
    either (λ (l : List (List ℕ)). 0 ≡ get_or (get_or l place []) branch 0) (eqb kind 0)
    (sym (get_or-eq_default (get_or push_route place []) 0 {n = branch} (beyond (short_at push_route refl place) h)))
    (sym (get_or-eq_default (get_or pop_route place []) 0 {n = branch} (beyond (short_at pop_route refl place) h)))
  where
    beyond : {n m : ℕ} → n ≤ 5 → 4 < m → n ≤ m
    beyond a b = omega arith
