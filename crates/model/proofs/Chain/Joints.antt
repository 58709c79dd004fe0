-- Two neighbours anywhere in the linked queue.
use mathlib.Core.{Bool.{Bool, false, not, true}, Logic.◌≢◌, Path.{◌∙◌, ◌≡◌, ap, refl, sym}}
use mathlib.Core.List.{List, [], ◌++◌, ◌∷◌, append_assoc, reverse, reverse-append, reverse-cons, reverse-reverse}
use Prim.Native.Nat.{ℕ}
use Rattle.model.proofs.{Lists.Deque.Chain, Machine.Machine.{Link, Status, pushing, stable}}
use Rattle.model.proofs.Invariant.Shape.{Joint, Linked, Rough}

chain_at : {A : Type 0} (P : A → A → Type 0) (b a : List A) (x y : A) → Chain P (b ++ (x ∷ y ∷ a)) → P x y
chain_at P [] a x y c = c.0
chain_at P (z ∷ []) a x y c = c.1.0
chain_at P (z ∷ w ∷ b) a x y c = chain_at P (w ∷ b) a x y c.1

-- Seen from the side that a push is at: each names the next one inward, and is named back unless it is the end.
rough_at : (k : Bool → ℕ → Link) (d : Bool) (b a : List ℕ) (x y : ℕ) → Rough k d (b ++ (x ∷ y ∷ a)) → ((k (not d) x).slot ≡ y) × (b ≢ [] → (k d y).slot ≡ x)
rough_at k d [] a x y r = (r.0, λ h. absurd (h refl))
rough_at k d (z ∷ []) a x y r = (r.1.0.0, λ h. r.1.0.1)
rough_at k d (z ∷ w ∷ b) a x y r = let j = chain_at (Joint k d) (w ∷ b) a x y r.1 in (j.0, λ h. j.1)

turned-at : {A : Type 0} (b a : List A) (x y : A) → reverse (b ++ (x ∷ y ∷ a)) ≡ reverse a ++ (y ∷ x ∷ reverse b)
turned-at b a x y =
    reverse-append b (x ∷ y ∷ a)
    ∙ ap (λ (l : List _). l ++ reverse b) (reverse-cons x (y ∷ a) ∙ ap (λ (l : List _). l ++ (x ∷ [])) (reverse-cons y a))
    ∙ append_assoc (reverse a ++ (y ∷ [])) (x ∷ []) (reverse b)
    ∙ append_assoc (reverse a) (y ∷ []) (x ∷ reverse b)

reverse_some : {A : Type 0} (l : List A) → l ≢ [] → reverse l ≢ []
reverse_some l h e = h (sym (reverse-reverse l) ∙ ap (λ (l : List _). reverse l) e)

-- x left of y: x names y but where a push at the right ends with y; y names x but where one at the left begins with x.
pub joined_at : (k : Bool → ℕ → Link) (st : Status) (b a : List ℕ) (x y : ℕ) → Linked k st (b ++ (x ∷ y ∷ a))
    → ((st ≡ pushing true → a ≢ []) → (k true x).slot ≡ y) × ((st ≡ pushing false → b ≢ []) → (k false y).slot ≡ x)
joined_at k stable b a x y c = let j = chain_at (Joint k false) b a x y c in ((λ h. j.0), (λ h. j.1))
joined_at k (pushing false) b a x y c = let j = rough_at k false b a x y c in ((λ h. j.0), (λ h. j.1 (h refl)))
joined_at k (pushing true) b a x y c =
    let r : Rough k true (reverse a ++ (y ∷ x ∷ reverse b)) = rw (turned-at b a x y) at c in
    let j = rough_at k true (reverse a) (reverse b) y x r in
    ((λ h. j.1 (reverse_some a (h refl))), (λ h. j.0))
