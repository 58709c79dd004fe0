-- A reading whose first numbers alone are held goes on to the same first numbers.
use mathlib.Core.{Bool.{Bool, true, false, true≢false, ◌||◌, cond}, List.{List, [], ◌∷◌, ◌++◌}, Path.{◌≡◌, sym, ap, ◌∙◌}}
use Rattle.std.proofs.Common.{ℕ, ◌≤◌, length-take-le, take_all, take-take, leb-false, leb-true}
use native.Mathlib.{Omega.arith}
use lib.{Dec.{eqb, eqb-suc-zero, leb}, ListN.{length, take, length-take}}
use lib.Seq.{take-append-le}
use Rattle.std.specs.Prelude.{Option, Some, None, is_some, is_none}
use Rattle.historyfile.specs.declared.words.Fault.{Fault}
use Rattle.model.proofs.Tests.Truth.{split}
use Rattle.historyfile.specs.{declared.reading.{State.State, Turn.Turn}, Buffer.{Within, held, reading}}
use Rattle.historyfile.specs.{Reading.{Reading, appended, kept, kept_in, read_all, read_end, read_word, turned}, Words.says}
use Rattle.historyfile.specs.Text.{Piece, word, line_end}

-- The first m of a list, behind which one more may be put.
take_appended : (m : ℕ) (v : Option ℕ) (l : List ℕ) → take m (appended v (take m l)) ≡ take m (appended v l)
take_appended m None l = take-take m m l (omega arith)
take_appended m (Some v) l = split (leb (length l) m)
    (λ e. ap (λ (x : List ℕ). take m (x ++ (v ∷ []))) (take_all m l (leb-true (length l) m e)))
    (λ e. let h = leb-false (length l) m e in
    let k : length (take m l) ≡ m = length-take-le m l (omega arith) in
    take-append-le m (take m l) (v ∷ []) (omega arith) ∙ take-take m m l (omega arith) ∙ sym (take-append-le m l (v ∷ []) (omega arith)))

take_short : (k c : ℕ) (l : List ℕ) → c ≤ k → take k (take c l) ≡ take c l
take_short k c l h = take_all k (take c l) (omega (arith, length-take c l))

module _ (m n : ℕ) where
  kept-held : (t : Turn) (r : Reading) → held m n (kept t (held m n r)) ≡ held m n (kept t r)
  kept-held t r = go (eqb r.place.column 8)
    where
      go : (b : Bool) → held m n (kept_in b t (held m n r)) ≡ held m n (kept_in b t r)
      go true = λ i. record { place = t.place; calls = take-take m m r.calls (omega arith) i; order = take_appended n t.value r.order i }
      go false = λ i. record { place = t.place; calls = take_appended m t.value r.calls i; order = take-take n n r.order (omega arith) i }

  twice : (r : Reading) → held m n (held m n r) ≡ held m n r
  twice r = λ i. record { place = r.place; calls = take-take m m r.calls (omega arith) i; order = take-take n n r.order (omega arith) i }

  word_held : (w : List ℕ) (r : Reading) → held m n (read_word w (held m n r)) ≡ held m n (read_word w r)
  unfolding read_word
  word_held [] r = twice r
  word_held (b ∷ bs) r = go (is_none r.place.fault)
    where
      t : Turn
      t = turned r.place (says r.place.column (b ∷ bs))

      go : (f : Bool) → held m n (cond f (kept t (held m n r)) (held m n r)) ≡ held m n (cond f (kept t r) r)
      go true = kept-held t r
      go false = twice r

  pub all_held : (ps : List Piece) (r : Reading) → held m n (read_all ps (held m n r)) ≡ held m n (read_all ps r)
  unfolding read_all
  all_held [] r = twice r
  all_held (word w ∷ ps) r =
      sym (all_held ps (read_word w (held m n r))) ∙ ap (λ (x : Reading). held m n (read_all ps x)) (word_held w r) ∙ all_held ps (read_word w r)
  all_held (line_end ∷ ps) r = all_held ps (read_end r)

  -- What lies in the buffers is held already.
  pub lies_held : (s : State) (calls order : List ℕ) → Within s m n → held m n (reading s calls order) ≡ reading s calls order
  lies_held s calls order h = λ i. record {
    place = s.place;
    calls = take_short m s.calls calls h.calls i;
    order = take_short n s.order order h.order i;
  }

  -- A word that is empty, or behind a fault, says nothing; any other does.
  module _ (s : State) (calls order : List ℕ) (h : Within s m n) where
    pub word_none : (w : List ℕ) → eqb (length w) 0 || is_some s.place.fault ≡ true
        → reading s calls order ≡ held m n (read_word w (reading s calls order))
    unfolding read_word
    word_none [] e = sym (lies_held s calls order h)
    word_none (b ∷ bs) e = go s.place.fault (rw (eqb-suc-zero (length bs)) at e)
      where
        go : (f : Option Fault) → is_some f ≡ true
            → reading s calls order ≡ held m n
            (cond (is_none f) (kept (turned s.place (says s.place.column (b ∷ bs))) (reading s calls order)) (reading s calls order))
        go None e = absurd (true≢false (sym e))
        go (Some why) e = sym (lies_held s calls order h)

    pub word_some : (w : List ℕ) (r : Reading) → eqb (length w) 0 || is_some s.place.fault ≡ false
        → r ≡ held m n (kept (turned s.place (says s.place.column w)) (reading s calls order))
        → r ≡ held m n (read_word w (reading s calls order))
    unfolding read_word
    word_some [] r e k = absurd (true≢false e)
    word_some (b ∷ bs) r e k = go s.place.fault (rw (eqb-suc-zero (length bs)) at e)
      where
        go : (f : Option Fault) → is_some f ≡ false
            → r ≡ held m n
            (cond (is_none f) (kept (turned s.place (says s.place.column (b ∷ bs))) (reading s calls order)) (reading s calls order))
        go None e = k
        go (Some why) e = absurd (true≢false e)
