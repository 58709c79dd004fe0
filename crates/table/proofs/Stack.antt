-- The next table of a pooled opening, filled row by row.
use mathlib.Core.{Path.{◌≡◌, refl, sym, ap, subst, ◌∙◌}, Bool.{Bool, true, false, ◌&&◌}, List.{List, [], ◌∷◌, ◌++◌}}
use Prim.Native.Nat.{ℕ, zero, suc, ◌+◌, ◌<◌, ◌≤◌}
use native.Mathlib.{Numerals.add-one, Omega.arith}
use lib.{Dec.ltb, Seq.take_all, ListN.{length, get_or, set, take, drop, length-set, get_or-append}}
use borrow.Author.Tests.{ltb-true}
use Rattle.model.{specs.{Calls.stacked, Lists.climb}, proofs.Lists.Range.{length_climb, climb-step, climb-out}}

-- What the test of a pooled table's length tells.
pub long : (pooled : Bool) (n m : ℕ) → pooled && ltb n m ≡ true → n < m
long true n m e = ltb-true n m e
long false n m e = let z : ◌≡◌ {A = ℕ} 0 1 = cc in absurd (omega arith)

-- Row i leads to the slot above it.
rises : (slots i : ℕ) → (i ≡ 0 → ⊥) → i < slots → i + 1 ≡ get_or (0 ∷ climb 2 slots) i 0
rises zero i h l = absurd (omega arith)
rises (suc n) zero h l = absurd (h refl)
rises (suc n) (suc i) h l =
    let long = length_climb 2 (suc n) in
    omega (arith, get_or-append (climb 2 (suc n)) [] 0 i (omega arith), climb-step 2 n [] i (omega arith))

ends : (slots i : ℕ) → (i ≡ 0 → ⊥) → slots ≤ i → 0 ≡ get_or (0 ∷ climb 2 slots) i 0
ends slots zero h l = absurd (h refl)
ends slots (suc i) h l = sym (climb-out 2 slots i l)

-- One entry more of a list that is copied into another.
copied_suc : (s l : List ℕ) (i : ℕ) → i < length s → i < length l
    → set (take i s ++ drop i l) i (get_or s i 0) ≡ take (suc i) s ++ drop (suc i) l
copied_suc [] l i h k = absurd (omega arith)
copied_suc (x ∷ s) [] i h k = absurd (omega arith)
copied_suc (x ∷ s) (y ∷ l) zero h k = refl
copied_suc (x ∷ s) (y ∷ l) (suc i) h k = ap (λ (t : List ℕ). x ∷ t) (copied_suc s l i (omega arith) (omega arith))

-- Of table t₀ the rows below i are stacked in t.
abbrev pub Stacked : List ℕ → ℕ → List ℕ → ℕ → Type 0
Stacked t₀ slots t i = (i ≤ slots + 1) × ((length t ≡ length t₀) × (t ≡ take i (0 ∷ climb 2 slots) ++ drop i t₀))

stacked-next : (t₀ : List ℕ) (slots : ℕ) (t : List ℕ) (i : ℕ) → slots < length t₀ → i < slots + 1
    → Stacked t₀ slots t i → Stacked t₀ slots (set t i (get_or (0 ∷ climb 2 slots) i 0)) (i + 1)
stacked-next t₀ slots t i l m h =
    let rows : length (0 ∷ climb 2 slots) ≡ suc slots = ap suc (length_climb 2 slots) in
    let more = copied_suc (0 ∷ climb 2 slots) t₀ i (omega arith) (omega arith) in
    let stored = ap (λ (x : List ℕ). set x i (get_or (0 ∷ climb 2 slots) i 0)) h.1.1 in
    (omega arith, (simp length-set h.1.0, stored ∙ rw (add-one i) more))

stacked-all : (t₀ : List ℕ) (slots : ℕ) (t : List ℕ) (i : ℕ) → i ≡ slots + 1 → Stacked t₀ slots t i → t ≡ stacked slots t₀
stacked-all t₀ slots t i e h =
    let rows : length (0 ∷ climb 2 slots) ≡ suc slots = ap suc (length_climb 2 slots) in
    h.1.1 ∙ rw e (ap (λ (x : List ℕ). x ++ drop (slots + 1) t₀) (take_all (slots + 1) (0 ∷ climb 2 slots) (omega arith)))

begun : (t : List ℕ) (slots : ℕ) → slots < length t → Stacked (set t 0 0) slots (set t 0 0) 1
begun [] slots l = absurd (omega arith)
begun (x ∷ t) slots l = (omega arith, (refl, refl))

only : (t : List ℕ) (slots : ℕ) → slots < length t → slots ≡ 0 → set t 0 0 ≡ stacked slots t
only [] slots l z = absurd (omega arith)
only (x ∷ t) slots l z = rw z refl

beyond : (t : List ℕ) (k : ℕ) → drop (k + 1) (set t 0 0) ≡ drop (k + 1) t
beyond [] k = refl
beyond (x ∷ t) k = rw (add-one k) refl

-- Row 0 is stored first, then the rows up to the last, then the last.
module _ (t₀ : List ℕ) (slots : ℕ) (l : slots < length t₀) where
  abbrev pub Rising : List ℕ → ℕ → Type 0
  Rising t i = (1 ≤ i) × ((i ≤ slots) × Stacked (set t₀ 0 0) slots t i)

  long₁ : slots < length (set t₀ 0 0)
  long₁ = rw (length-set t₀ 0 0) l

  pub stacked-none : (slots ≡ 0 → ⊥) → Rising (set t₀ 0 0) 1
  stacked-none n = (omega arith, (omega arith, begun t₀ slots l))

  pub stacked-only : slots ≡ 0 → set t₀ 0 0 ≡ stacked slots t₀
  stacked-only = only t₀ slots l

  pub stacked-more : (t : List ℕ) (i : ℕ) → i < slots → Rising t i → Rising (set t i (i + 1)) (i + 1)
  stacked-more t i m h =
      let value = sym (rises slots i (λ z. let n = h.0 in omega arith) m) in
      let row = stacked-next (set t₀ 0 0) slots t i long₁ (omega arith) h.1.1 in
      (omega arith, (omega arith, subst (λ (v : ℕ). Stacked (set t₀ 0 0) slots (set t i v) (i + 1)) value row))

  pub stacked-last : (t : List ℕ) (i : ℕ) → slots ≤ i → Rising t i → (v : ℕ) → v ≡ 0 → set t slots v ≡ stacked slots t₀
  stacked-last t i m h v z =
      let full : i ≡ slots = let n = h.1.0 in omega arith in
      let below = subst (Stacked (set t₀ 0 0) slots t) full h.1.1 in
      let value = ends slots slots (λ z. let n = h.0 in let k = h.1.0 in omega arith) (omega arith) in
      let row = stacked-next (set t₀ 0 0) slots t slots long₁ (omega arith) below in
      ap (set t slots) (z ∙ value)
      ∙ stacked-all (set t₀ 0 0) slots (set t slots (get_or (0 ∷ climb 2 slots) slots 0)) (slots + 1) refl row
      ∙ ap (λ (x : List ℕ). 0 ∷ climb 2 slots ++ x) (beyond t₀ slots)
