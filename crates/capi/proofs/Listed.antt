-- The tasks' counts, listed one after the other.
use mathlib.Core.{Path.{◌≡◌, refl, ap, sym, ◌∙◌}, Bool.{false, cond}, List.{List, ◌∷◌}}
use Prim.Native.Nat.{ℕ, zero, suc, ◌<◌, ◌≤◌}
use native.Mathlib.Omega.{arith}
use lib.{Dec.{eqb, ltb}, ListN.{get_or, set, replicate}}
use borrow.Author.Tests.{eq-eqb, eqb-true, eqb-false, ne_eqb, lt-ltb, le-ltb, ltb-true, ltb-false}
use Rattle.model.{specs.{declared.Record.Record, Tables.unused, Lists.listed}, proofs.Tests.Truth.split}
use Rattle.capi.specs.Replies.{counts_in}

listed_same : (f g : ℕ → ℕ) (n : ℕ) → ((t : ℕ) → f t ≡ g t) → listed f n ≡ listed g n
unfolding listed
listed_same f g zero h = refl
listed_same f g (suc n) h = ap (λ (x : ℕ). x ∷ listed (λ t. f (suc t)) n) (h 0)
    ∙ ap (λ (l : List ℕ). g 0 ∷ l) (listed_same (λ t. f (suc t)) (λ t. g (suc t)) n (λ t. h (suc t)))

same_test : (t i : ℕ) → eqb (suc t) (suc i) ≡ eqb t i
same_test t i =
    split (eqb t i)
    (λ e. rw e (eq-eqb (suc t) (suc i) (ap suc (eqb-true t i e))))
    (λ e. let other = eqb-false t i e in rw e (ne_eqb (suc t) (suc i) (apart other)))
  where
    apart : {t i : ℕ} → (t ≡ i → ⊥) → suc t ≡ suc i → ⊥
    apart other e = other (omega arith)

not_first : (t : ℕ) → eqb (suc t) 0 ≡ false
not_first t = ne_eqb (suc t) 0 (λ (e : suc t ≡ 0). omega arith)

not_last : (i : ℕ) → eqb 0 (suc i) ≡ false
not_last i = ne_eqb 0 (suc i) (λ (e : 0 ≡ suc i). omega arith)

-- One entry changed.
abbrev put : (ℕ → ℕ) → ℕ → ℕ → ℕ → ℕ
put f i v t = cond (eqb t i) v (f t)

listed-put : (f : ℕ → ℕ) (n i v : ℕ) → set (listed f n) i v ≡ listed (put f i v) n
unfolding listed
listed-put f zero i v = refl
listed-put f (suc n) zero v = ap (λ (l : List ℕ). v ∷ l) (listed_same (λ t. f (suc t)) (λ t. put f 0 v (suc t)) n (λ t. rw (not_first t)))
listed-put f (suc n) (suc i) v = rw (not_last i)
    (ap (λ (l : List ℕ). f 0 ∷ l)
    (listed-put (λ t. f (suc t)) n i v ∙ listed_same (put (λ t. f (suc t)) i v) (λ t. put f (suc i) v (suc t)) n (λ t. rw (same_test t i))))

module _ (rs : List Record) where
  abbrev own : ℕ → ℕ
  own t = (get_or rs t unused).retries

  -- The counts below i, and 0 from there on.
  abbrev below : ℕ → ℕ → ℕ
  below i t = cond (ltb t i) (own t) 0

  one_more : (i t : ℕ) → put (below i) i (own i) t ≡ below (suc i) t
  one_more i t =
      split (eqb t i)
      (λ e. let same : t ≡ i = eqb-true t i e in rw (e, lt-ltb t (suc i) (omega arith)) (ap own (sym same)))
      (λ e. let other = eqb-false t i e in split (ltb t i)
      (λ l. let less : t < i = ltb-true t i l in rw (e, l, lt-ltb t (suc i) (omega arith)))
      (λ l. let past : i ≤ t = ltb-false t i l in rw (e, l, le-ltb t (suc i) (above other past))))
    where
      above : {i t : ℕ} → (t ≡ i → ⊥) → i ≤ t → suc i ≤ t
      above other past = omega arith

  pub counts-none : replicate 16 0 ≡ counts_in 0 rs
  unfolding listed
  counts-none = refl

  pub counts-more : (i : ℕ) → set (counts_in i rs) i (own i) ≡ counts_in (suc i) rs
  counts-more i = listed-put (below i) 16 i (own i) ∙ listed_same _ _ 16 (one_more i)
