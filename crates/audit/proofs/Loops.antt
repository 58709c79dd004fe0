-- Tests of each element and of each two: of a list by its first element, and of what is left of one from an index on.
use mathlib.Core.{Bool.{Bool, true, false, ◌&&◌}, List.{List, [], ◌∷◌, ◌++◌}, Path.{◌≡◌, refl, sym, ap, ◌∙◌}}
use Prim.Native.Nat.{ℕ, zero, suc, ◌+◌, ◌<◌}
use native.Mathlib.{Numerals.add-one, Omega.arith}
use Rattle.std.proofs.lemmas.List.{append_assoc}
use lib.{ListN.{length, get_or, drop}, Seq.drop-cons}
use Rattle.model.proofs.Tests.Truth.{and-true}
use Rattle.audit_model.specs.Audit.{all_of, pairwise}

module _ {A : Type 0} where
  pub drop_next : (l : List A) (i : ℕ) (d : A) → i < length l → drop i l ≡ get_or l i d ∷ drop (i + 1) l
  drop_next l i d h = rw (add-one, drop-cons l i d)

  -- The last element x of what is before moves to what is behind.
  pub one_behind : (rest rest' behind l : List A) (x : A) → rest ≡ rest' ++ (x ∷ []) → rest ++ behind ≡ l → rest' ++ (x ∷ behind) ≡ l
  one_behind rest rest' behind l x last parts =
      sym (append_assoc rest' (x ∷ []) behind) ∙ ap (λ (a : List A). a ++ behind) (sym last) ∙ parts

  module _ (f : A → Bool) where
    pub all_seam : (before : List A) (x : A) (behind : List A) → all_of f (before ++ (x ∷ behind)) ≡ true → f x ≡ true
    all_seam [] x behind e = (and-true (f x) (all_of f behind) e).0
    all_seam (y ∷ before) x behind e = all_seam before x behind (and-true (f y) (all_of f (before ++ (x ∷ behind))) e).1

    pub all-at : (l : List A) (i : ℕ) (d : A) → i < length l → all_of f l ≡ true → f (get_or l i d) ≡ true
    all-at [] i d h e = absurd (omega arith)
    all-at (x ∷ l) zero d h e = (and-true (f x) (all_of f l) e).0
    all-at (x ∷ l) (suc i) d h e = all-at l i d (omega arith) (and-true (f x) (all_of f l) e).1

    pub all_turn : (l : List A) (i : ℕ) (d : A) (b : Bool) → i < length l → f (get_or l i d) ≡ b → all_of f (drop i l) ≡ b && all_of f (drop (i + 1) l)
    all_turn l i d b h e = ap (all_of f) (drop_next l i d h) ∙ ap (λ (t : Bool). t && all_of f (drop (i + 1) l)) e

    module _ (r : A → A → Bool) where
      abbrev pub passes : List A → Bool
      passes l = all_of f l && pairwise r l

      pub first_passes : (x : A) (l : List A) → passes (x ∷ l) ≡ f x && (all_of (r x) l && passes l)
      first_passes x l = regroup (f x) (all_of f l) (all_of (r x) l) (pairwise r l)
        where
          regroup : (a b c d : Bool) → a && b && (c && d) ≡ a && (c && (b && d))
          regroup false b c d = refl
          regroup true true c d = refl
          regroup true false true d = refl
          regroup true false false d = refl

      pub passes_turn : (l : List A) (i : ℕ) (d : A) (a b : Bool) → i < length l → f (get_or l i d) ≡ a
          → all_of (r (get_or l i d)) (drop (i + 1) l) ≡ b → passes (drop i l) ≡ a && (b && passes (drop (i + 1) l))
      passes_turn l i d a b h p q =
          ap passes (drop_next l i d h) ∙ first_passes (get_or l i d) (drop (i + 1) l) ∙ (λ j. p j && (q j && passes (drop (i + 1) l)))

      pub passes_from : (l : List A) (i : ℕ) → passes l ≡ true → passes (drop i l) ≡ true
      passes_from l zero e = e
      passes_from [] (suc i) e = refl
      passes_from (x ∷ l) (suc i) e =
          passes_from l i (and-true (all_of (r x) l) (passes l) (and-true (f x) (all_of (r x) l && passes l) (sym (first_passes x l) ∙ e)).1).1
