-- What the square and the positions tell is what breaks the sheet, and the first pair found is the verdict.
use mathlib.Core.{Bool.{Bool, true, false, ◌&&◌, cond}, List.{List, reverse}, Logic.{◌⊎◌, inl, inr}}
use mathlib.Core.Path.{◌≡◌, refl, sym, ap, ◌∙◌}
use Prim.Native.Nat.{ℕ, zero, suc, ◌+◌, ◌-◌, ◌≤◌, ◌<◌}
use native.Mathlib.Omega.{arith}
use lib.{Dec.{eqb, leb}, ListN.{length, get_or}}
use borrow.Author.Tests.{eq-eqb, ne_eqb}
use Rattle.model.{specs.declared.Entry.Entry, proofs.Tests.Truth.decide_eq}
use Rattle.sheet_model.specs.{declared.SheetReply.SheetReply, Sheet.{Sheet, chained, waits, left_of, breaks}}
use Rattle.sheet_model.{specs.{Words.linked, Verdict.{broken_by, verdict}}, proofs.Formed.Formed}
use Rattle.sheet.specs.{Squares.{Row, crossed}, Extents.{Noting, place_of, first_at}, Search.{in_row, in_rows}}
use Rattle.sheet.proofs.{Searched.verdict-is, Rounds.{Shows, marks, row_at}, Crossing.meets_self}
use Rattle.sheet.proofs.Crossing.{meets, lowest, highest, crosses_up, crosses_down, meets_reverse, meets_left}
use Rattle.sheet.proofs.Noted.{noted_all, label-place, low-noted, high-noted}

-- The entries met, from left to right, of a walk from the left or from the right.
abbrev pub turned : Bool → List Entry → List Entry
turned up l = cond up l (reverse l)

crosses : (up : Bool) (y x : ℕ) (l : List Entry) → length l ≤ 1023
    → leb (lowest up (first_at up) y l) (highest up (first_at up) x l) ≡ meets y x (turned up l)
crosses true y x l h = crosses_up 1 y x l (omega arith) (omega arith)
crosses false y x l h = crosses_down 1023 y x l (omega arith) h ∙ sym (meets_reverse y x l)

same_row : (p q : ℕ → ℕ → Bool) (a b m : ℕ) (o : SheetReply) → ((c : ℕ) → b ≤ c → c < b + m → p a c ≡ q a c)
    → in_row p a b m o ≡ in_row q a b m o
unfolding in_row
same_row p q a b zero o h = refl
same_row p q a b (suc m) o h =
    λ i. cond (h b (omega arith) (omega arith) i) (broken_by a b) (same_row p q a (b + 1) m o (λ c f g. h c (omega arith) (omega arith)) i)

same_rows : (p q : ℕ → ℕ → Bool) (k a m : ℕ) → ((b c : ℕ) → a ≤ b → b < a + m → 1 ≤ c → c ≤ k → p b c ≡ q b c)
    → in_rows p k a m ≡ in_rows q k a m
unfolding in_rows
same_rows p q k a zero h = refl
same_rows p q k a (suc m) h =
    same_row p q a 1 k (in_rows p k (a + 1) m) (λ c f g. h a c (omega arith) (omega arith) f (omega arith))
    ∙ ap (in_row q a 1 k) (same_rows p q k (a + 1) m (λ b c f g. h b c (omega arith) (omega arith)))

module _ (s : Sheet) (form : Formed s) (up : Bool) (l : List Entry) (short : length l ≤ 1023) where
  abbrev n : ℕ
  n = length s.listed

  abbrev e : Noting
  e = noted_all up s.listed l

  -- Different places have different labels.
  apart : (a b : ℕ) → a < n → b < n → (a ≡ b → ⊥) → get_or s.listed a 0 ≡ get_or s.listed b 0 → ⊥
  apart a b f g h z =
      h (sym (label-place s.listed a form.once f) ∙ ap (λ (x : ℕ). place_of x s.listed) z ∙ label-place s.listed b form.once g)

  pair : (a b : ℕ) → a < n → b < n
      → leb (get_or e.low b 0) (get_or e.high a 0)
      ≡ cond (eqb (suc a) (suc b)) (waits (get_or s.listed a 0) (turned up l)) (left_of (get_or s.listed b 0) (get_or s.listed a 0) (turned up l))
  pair a b f g =
      (λ i. leb (low-noted s.listed form.once b g form.few up l i)
      (high-noted s.listed form.once a f form.few up l i))
      ∙ crosses up (get_or s.listed b 0) (get_or s.listed a 0) l short
      ∙ go (decide_eq a b)
    where
      go : (a ≡ b) ⊎ (a ≡ b → ⊥) → meets (get_or s.listed b 0) (get_or s.listed a 0) (turned up l)
          ≡ cond (eqb (suc a) (suc b)) (waits (get_or s.listed a 0) (turned up l)) (left_of (get_or s.listed b 0) (get_or s.listed a 0) (turned up l))
      go (inl z) =
          rw (eq-eqb (suc a) (suc b) (omega arith))
          (ap (λ (x : ℕ). meets (get_or s.listed x 0) (get_or s.listed a 0) (turned up l)) (sym z) ∙ meets_self (get_or s.listed a 0) (turned up l))
      go (inr z) =
          rw (ne_eqb (suc a) (suc b) (λ w. z (omega arith)))
          (meets_left (get_or s.listed b 0) (get_or s.listed a 0) (turned up l) (apart a b f g z))

  -- A square of either kind that holds the chained rules.
  module _ {A : Type 0} (r : Row A) (R : (ℕ → Bool) → A) (law : Shows r R) (beyond : List A) where
    abbrev square : List A
    square = marks r R law beyond (linked s.rules n)

    cell : (a b : ℕ) → a < 32 → b < 32 → r.has (get_or square a r.bare) b ≡ linked s.rules n a b
    cell a b f g =
        ap (λ (x : A). r.has x b) (row_at r R law beyond (linked s.rules n) a f) ∙ law.has (linked s.rules n a) b g

    crossed-breaks : (a b : ℕ) → 1 ≤ a → a ≤ n → 1 ≤ b → b ≤ n → crossed r square e.low e.high a b ≡ breaks s (turned up l) a b
    unfolding breaks chained
    crossed-breaks zero b f g h k = absurd (omega arith)
    crossed-breaks (suc a) zero f g h k = absurd (omega arith)
    crossed-breaks (suc a) (suc b) f g h k =
        let p : suc a - 1 ≡ a = omega arith in
        let q : suc b - 1 ≡ b = omega arith in
        rw (p, q) (λ i. cell a b (let z = form.few in omega arith) (let z = form.few in omega arith) i && pair a b (omega arith) (omega arith) i)

    pub found-verdict : in_rows (crossed r square e.low e.high) n 1 n ≡ verdict s (turned up l)
    found-verdict =
        same_rows (crossed r square e.low e.high) (breaks s (turned up l)) n 1 n (λ b c f g h k. crossed-breaks b c f (omega arith) h k)
        ∙ sym (verdict-is s (turned up l))
