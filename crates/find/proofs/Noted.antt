-- What is noted for one label, for one label more, and for a label that was not asked for.
use mathlib.Core.{Path.{◌≡◌, refl, sym, ap, ◌∙◌}, Bool.{Bool, true, false, ◌&&◌, ◌||◌, not, cond}, List.{List, [], ◌∷◌}}
use mathlib.Core.Logic.{◌≢◌}
use Prim.Native.Nat.{ℕ, zero, suc, ◌+◌, ◌<◌, ◌≤◌}
use native.Mathlib.Omega.{arith}
use lib.{Dec.eqb, ListN.{length, get_or, set, take}}
use borrow.Author.Tests.{ne_eqb}
use Rattle.model.{specs.declared.Entry.Entry}
use Rattle.find_model.{specs.Noting.{note, pick}, proofs.Positions.notes}

module _ (foremost : Bool) (y k : ℕ) where
  pub note-more : (i : ℕ) (wanted ps : List ℕ) → i < length wanted → i < length ps
      → note foremost y k (take (suc i) wanted) ps
      ≡ set (note foremost y k (take i wanted) ps) i (pick foremost (get_or wanted i 0) y k (get_or (note foremost y k (take i wanted) ps) i 0))
  note-more i [] ps h g = absurd (omega arith)
  note-more i (x ∷ wanted) [] h g = absurd (omega arith)
  note-more zero (x ∷ wanted) (p ∷ ps) h g = refl
  note-more (suc i) (x ∷ wanted) (p ∷ ps) h g = ap (λ (l : List ℕ). pick foremost x y k p ∷ l) (note-more i wanted ps (omega arith) (omega arith))

  pub none-noted : (wanted ps : List ℕ) → ((i : ℕ) → i < length wanted → get_or wanted i 0 ≢ y) → note foremost y k wanted ps ≡ ps
  none-noted [] ps h = refl
  none-noted (x ∷ wanted) [] h = refl
  none-noted (x ∷ wanted) (p ∷ ps) h =
      rw (ne_eqb y x (λ z. h 0 (omega arith) (sym z))) (ap (λ (l : List ℕ). p ∷ l) (none-noted wanted ps (λ i g. h (suc i) (omega arith))))

  -- What lies beyond the labels asked for keeps.
  pub note-beyond : (wanted ps : List ℕ) (i : ℕ) → length wanted ≤ i → get_or (note foremost y k wanted ps) i 0 ≡ get_or ps i 0
  note-beyond [] ps i h = refl
  note-beyond (x ∷ wanted) [] i h = refl
  note-beyond (x ∷ wanted) (p ∷ ps) zero h = absurd (omega arith)
  note-beyond (x ∷ wanted) (p ∷ ps) (suc i) h = note-beyond wanted ps i (omega arith)

  -- No position is above k.
  pub note_most : (wanted ps : List ℕ) → ((i : ℕ) → get_or ps i 0 ≤ k) → (i : ℕ) → get_or (note foremost y k wanted ps) i 0 ≤ k
  note_most [] ps h i = h i
  note_most (x ∷ wanted) [] h i = h i
  note_most (x ∷ wanted) (p ∷ ps) h zero = go (eqb y x && (not foremost || eqb p 0))
    where
      go : (b : Bool) → cond b k p ≤ k
      go true = omega arith
      go false = h 0
  note_most (x ∷ wanted) (p ∷ ps) h (suc i) = note_most wanted ps (λ j. h (suc j)) i

module _ (foremost : Bool) (wanted : List ℕ) where
  pub notes_beyond : (k : ℕ) (ps : List ℕ) (l : List Entry) (i : ℕ) → length wanted ≤ i → get_or (notes foremost wanted k ps l) i 0 ≡ get_or ps i 0
  notes_beyond k ps [] i h = refl
  notes_beyond k ps (e ∷ l) i h =
      notes_beyond (k + 1) (note foremost e.label k wanted ps) l i h ∙ note-beyond foremost e.label k wanted ps i h

  pub notes_most : (k : ℕ) (ps : List ℕ) (l : List Entry) → ((i : ℕ) → get_or ps i 0 ≤ k) → (i : ℕ)
      → get_or (notes foremost wanted (k + 1) ps l) i 0 ≤ k + length l
  notes_most k ps [] h i = omega (arith, h i)
  notes_most k ps (e ∷ l) h i =
      omega (
        arith,
        notes_most (k + 1) (note foremost e.label (k + 1) wanted ps) l
            (note_most foremost e.label (k + 1) wanted ps (λ j. omega (arith, h j))) i,
      )
