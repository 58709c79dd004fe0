-- An element put back where it lay changes nothing.
use mathlib.Core.{List.{List, [], ◌∷◌}, Path.{◌≡◌, ap, refl}}
use Prim.Native.Nat.{suc, zero, ℕ}
use lib.ListN.{get_or, set}

-- An element put back where it lay, within the list or past its end.
pub set_back : {A : Type 0} (l : List A) (n : ℕ) (z : A) → set l n (get_or l n z) ≡ l
set_back [] n z = refl
set_back (x ∷ l) zero z = refl
set_back (x ∷ l) (suc n) z = ap (λ (m : List _). x ∷ m) (set_back l n z)
