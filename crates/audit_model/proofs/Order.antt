-- Effects put in the order of their places.
use mathlib.Core.{Bool.{Bool, true, false, cond}, List.{List, [], ◌∷◌, ◌++◌}, Path.{◌≡◌, refl, ap}}
use Prim.Native.Nat.{suc, ◌<◌, ◌≤◌}
use native.Mathlib.Omega.{arith}
use lib.{Dec.ltb, ListN.length}
use borrow.Author.Tests.{ltb-true, ltb-false, lt-ltb, le-ltb}
use Rattle.model.{proofs.Tests.Truth.by_test, specs.Lists.All}
use Rattle.audit_model.specs.Written.{insert}
use Rattle.audit_model.proofs.{OrderedEffects.{OrderedEffect, put}, Lists.Pairs}

-- Before later ones, and behind all.
pub insert-before : (t : OrderedEffect) (l m : List OrderedEffect) → All (λ (u : OrderedEffect). t.at < u.at) m → put t (l ++ m) ≡ put t l ++ m
unfolding insert
insert-before t [] [] h = refl
insert-before t [] (u ∷ m) h = rw (lt-ltb t.at u.at h.0)
insert-before t (v ∷ l) m h = go (ltb t.at v.at) (insert-before t l m h)
  where
    go : (b : Bool) → put t (l ++ m) ≡ put t l ++ m
        → cond b (t ∷ v ∷ (l ++ m)) (v ∷ put t (l ++ m)) ≡ cond b (t ∷ v ∷ l) (v ∷ put t l) ++ m
    go true e = refl
    go false e = ap (λ (k : List OrderedEffect). v ∷ k) e

pub insert-last : (t : OrderedEffect) (l : List OrderedEffect) → All (λ (u : OrderedEffect). u.at ≤ t.at) l → put t l ≡ l ++ (t ∷ [])
unfolding insert
insert-last t [] h = refl
insert-last t (u ∷ l) h = rw (le-ltb t.at u.at h.0) (ap (λ (k : List OrderedEffect). u ∷ k) (insert-last t l h.1))

pub insert_length : (t : OrderedEffect) (l : List OrderedEffect) → length (put t l) ≡ suc (length l)
unfolding insert
insert_length t [] = refl
insert_length t (u ∷ l) = by_test (λ (k : List OrderedEffect). length k ≡ suc (suc (length l))) (ltb t.at u.at)
    (λ _. refl)
    (λ _. ap suc (insert_length t l))

pub insert_all : (P : OrderedEffect → Type 0) (t : OrderedEffect) (l : List OrderedEffect) → P t → All P l → All P (put t l)
unfolding insert
insert_all P t [] p h = (p, tt)
insert_all P t (u ∷ l) p h = by_test (All P) (ltb t.at u.at) (λ _. (p, (h.0, h.1))) (λ _. (h.0, insert_all P t l p h.1))

-- What holds of all pairs, where the new effect may come before or behind any other.
pub insert-pairs : (R : OrderedEffect → OrderedEffect → Type 0) (t : OrderedEffect) (l : List OrderedEffect)
    → All (λ (u : OrderedEffect). R t u) l → All (λ (u : OrderedEffect). R u t) l → Pairs R l → Pairs R (put t l)
unfolding insert
insert-pairs R t [] a b h = (tt, tt)
insert-pairs R t (u ∷ l) a b h = by_test (Pairs R) (ltb t.at u.at)
    (λ _. (a, (h.0, h.1)))
    (λ _. (insert_all (R u) t l b.0 h.0, insert-pairs R t l a.1 b.1 h.1))

-- The places ascend.
abbrev pub NotAfter : OrderedEffect → OrderedEffect → Type 0
NotAfter t u = t.at ≤ u.at

pub insert_sorted : (t : OrderedEffect) (l : List OrderedEffect) → Pairs NotAfter l → Pairs NotAfter (put t l)
unfolding insert
insert_sorted t [] h = (tt, tt)
insert_sorted t (u ∷ l) h = by_test (Pairs NotAfter) (ltb t.at u.at)
    (λ e. let z = ltb-true t.at u.at e in ((omega arith, later l (omega arith) h.0), (h.0, h.1)))
    (λ e. (insert_all (NotAfter u) t l (ltb-false t.at u.at e) h.0, insert_sorted t l h.1))
  where
    later : (l : List OrderedEffect) → t.at ≤ u.at → All (NotAfter u) l → All (NotAfter t) l
    later [] z h = tt
    later (v ∷ l) z h = (omega (arith, h.0), later l z h.1)
