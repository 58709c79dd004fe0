-- The position of a label is that of its leftmost copy.
use mathlib.Core.{Bool.{true, false}, List.{List, [], ◌∷◌, ◌++◌, map}, Logic.{◌⊎◌, inl, inr}}
use mathlib.Core.Path.{◌≡◌, refl, subst, sym}
use Prim.Native.Nat.{ℕ, zero, suc, ◌+◌, ◌<◌}
use native.Mathlib.Omega.{arith}
use lib.{Dec.eqb, ListN.{get_or, length}}
use borrow.Author.Tests.{eqb-false, eqb-true}
use Rattle.model.{specs.{declared.Entry.Entry, Walk.CopyAt}, proofs.Tests.Truth.split}
use Rattle.find_model.specs.Find.{Found, FoundRight, found, leftmost, not_waiting, position, position_from}

abbrev None : ℕ → List Entry → Type 0
None x l = (j : ℕ) → CopyAt x l j → ⊥

-- A leftmost copy, where the first entry has position n.
record First (x : ℕ) (l : List Entry) (n p : ℕ) : Type 0 where
  place : ℕ
  is : p ≡ n + place
  copy : CopyAt x l place
  none : (j : ℕ) → j < place → CopyAt x l j → ⊥

abbrev Told : ℕ → List Entry → ℕ → ℕ → Type 0
Told x l n p = ((p ≡ 0) × None x l) ⊎ First x l n p

module _ (n x : ℕ) (e : Entry) (l : List Entry) where
  here : eqb e.label x ≡ true → Told x (e ∷ l) n n
  here b = inr (record { place = 0; is = omega arith; copy = (omega arith, eqb-true _ _ b); none = λ j h. absurd (omega (arith, h)) })

  module _ (b : eqb e.label x ≡ false) where
    not_first : (j : ℕ) → CopyAt x (e ∷ l) j → ((i : ℕ) → j ≡ suc i → CopyAt x l i → ⊥) → ⊥
    not_first zero c h = eqb-false _ _ b c.1
    not_first (suc j) c h = h j refl (omega (arith, c.0), c.1)

    further : (p : ℕ) → Told x l (n + 1) p → Told x (e ∷ l) n p
    further p (inl z) = inl (z.0, λ j c. not_first j c (λ i _ d. z.1 i d))
    further p (inr f) = inr (record {
      place = suc f.place;
      is = omega (arith, f.is);
      copy = (omega (arith, f.copy.0), f.copy.1);
      none = λ j h c. not_first j c (λ i s d. f.none i (omega (arith, h, s)) d);
    })

told : (n x : ℕ) (l : List Entry) → Told x l n (position_from n x l)
unfolding position_from
told n x [] = inl (refl, λ j c. omega (arith, c.0))
told n x (e ∷ l) = split (eqb e.label x) (λ b. rw b (here n x e l b)) (λ b. rw b (further n x e l b _ (told (n + 1) x l)))

position-right : (x : ℕ) (l : List Entry) → Found x l (position l x)
position-right x l = go (position l x) (told 1 x l)
  where
    go : (p : ℕ) → Told x l 1 p → Found x l p
    go p (inl z) = subst (Found x l) (sym z.0) (not_waiting z.1)
    go p (inr f) = subst (Found x l) (let z : suc f.place ≡ p = omega (arith, f.is) in z) (leftmost f.place f.copy f.none)

one_of : (f : ℕ → ℕ) (wanted rest : List ℕ) (k : ℕ) → k < length wanted → get_or (map f wanted ++ rest) k 0 ≡ f (get_or wanted k 0)
one_of f [] rest k h = absurd (omega (arith, h))
one_of f (x ∷ wanted) rest zero h = refl
one_of f (x ∷ wanted) rest (suc k) h = one_of f wanted rest k (omega (arith, h))

pub found_right : FoundRight
unfolding found
found_right l wanted k h = subst (Found (get_or wanted k 0) l) (sym (one_of (position l) wanted _ k h)) (position-right (get_or wanted k 0) l)
