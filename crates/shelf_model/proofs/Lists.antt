-- Lists cut to a length: reads below it, stores, lengths.
use mathlib.Core.{Bool.{Bool, true, false}, List.{List, [], ◌∷◌}, Path.{◌≡◌, ap, refl, sym}}
use Prim.Native.Nat.{ℕ, zero, suc, ◌<◌}
use native.Mathlib.Omega.{arith}
use lib.{Dec.{leb, ltb}, ListN.{get_or, length, length-take, set, take}}
use borrow.Author.Tests.{le-leb, leb-true, lt-ltb, ltb-true}

pub same_test : (a b : Bool) → (a ≡ true → b ≡ true) → (b ≡ true → a ≡ true) → a ≡ b
same_test true b f g = sym (f refl)
same_test false true f g = g refl
same_test false false f g = refl

module _ {A : Type 0} where
  pub get_take : (n : ℕ) (l : List A) (x : ℕ) (d : A) → x < n → get_or (take n l) x d ≡ get_or l x d
  get_take zero l x d h = absurd (omega arith)
  get_take (suc n) [] x d h = refl
  get_take (suc n) (y ∷ l) zero d h = refl
  get_take (suc n) (y ∷ l) (suc x) d h = get_take n l x d (omega arith)

  pub set_take : (n : ℕ) (l : List A) (x : ℕ) (v : A) → set (take n l) x v ≡ take n (set l x v)
  set_take zero l x v = refl
  set_take (suc n) [] x v = refl
  set_take (suc n) (y ∷ l) zero v = refl
  set_take (suc n) (y ∷ l) (suc x) v = ap (λ (m : List A). y ∷ m) (set_take n l x v)

  -- Long enough when cut is long enough.
  pub longer_take : (n : ℕ) (l : List A) → ltb n (length (take (suc n) l)) ≡ ltb n (length l)
  longer_take n l = same_test _ _
      (λ e. lt-ltb n (length l) (omega (arith, ltb-true n (length (take (suc n) l)) e, length-take (suc n) l)))
      (λ e. lt-ltb n (length (take (suc n) l)) (omega (arith, ltb-true n (length l) e, length-take (suc n) l)))

  pub enough_take : (n : ℕ) (l : List A) → leb n (length (take n l)) ≡ leb n (length l)
  enough_take n l = same_test _ _
      (λ e. le-leb n (length l) (omega (arith, leb-true n (length (take n l)) e, length-take n l)))
      (λ e. le-leb n (length (take n l)) (omega (arith, leb-true n (length l) e, length-take n l)))
