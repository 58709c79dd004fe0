-- One byte on, what is ahead stays what it was.
use mathlib.Core.{Bool.{Bool, true, false, ◌||◌, cond}, List.{List, [], ◌∷◌, ◌++◌}, Path.{◌≡◌, sym, ap, ◌∙◌}}
use Rattle.std.proofs.Common.{ℕ, suc, ◌+◌, ◌-◌, ◌<◌, ◌≤◌, arith}
use lib.{Dec.eqb, ListN.{length, get_or, take, drop, drop_of_length-le, length-drop}, Seq.{get_or-drop, take-suc}}
use Rattle.model.proofs.Tests.Truth.{split}
use Rattle.historyfile.specs.{declared.reading.{Place.Place, State.State}, Text.{Piece, line_end, of_word, pieces}}
use Rattle.historyfile.specs.Buffer.{Within, ahead, held, reading, separated}
use Rattle.historyfile.specs.Reading.{ended_line, read_all, read_end, read_word}
use Rattle.historyfile.proofs.{Digits.next_of, Held.all_held}

abbrev part : List ℕ → ℕ → ℕ → List ℕ
part text from to = take (to - from) (drop from text)

module _ (text : List ℕ) (from i : ℕ) (below : from ≤ i) (h : i < length text) where
  part-more : part text from (i + 1) ≡ part text from i ++ (get_or text i 0 ∷ [])
  part-more =
      let n : i + 1 - from ≡ suc (i - from) = omega arith in
      let k : from + (i - from) ≡ i = omega arith in
      ap (λ (m : ℕ). take m (drop from text)) n
      ∙ take-suc (drop from text) (i - from) 0 (omega (arith, length-drop from text))
      ∙ ap (λ (x : ℕ). part text from i ++ (x ∷ [])) (get_or-drop from text (i - from) 0 ∙ ap (λ (m : ℕ). get_or text m 0) k)

module _ (m n : ℕ) (text : List ℕ) (i : ℕ) (s : State) (calls order : List ℕ) (below : s.from ≤ i) (h : i < length text) where
  pub word-goes_on : of_word s.comment (get_or text i 0) ≡ true → ahead m n text (i + 1) s calls order ≡ ahead m n text i s calls order
  unfolding ahead pieces
  word-goes_on e =
      sym (ap (λ (l : List ℕ). held m n (read_all (pieces s.comment (part text s.from i) l) (reading s calls order))) (next_of text i h)
      ∙ rw e (ap (λ (w : List ℕ). held m n (read_all (pieces s.comment w (drop (i + 1) text)) (reading s calls order)))
      (sym (part-more text s.from i below h))))

  -- What follows a byte that ended a word.
  abbrev follows : Bool → ℕ → List Piece
  follows comment b = cond (eqb b 10) (line_end ∷ pieces false [] (drop (i + 1) text)) (pieces (comment || eqb b 35) [] (drop (i + 1) text))

  nothing_yet : (j : ℕ) → take (j - j) (drop j text) ≡ []
  nothing_yet j = let z : j - j ≡ 0 = omega arith in ap (λ (k : ℕ). take k (drop j text)) z

  module _ (t : State) (calls' order' : List ℕ) (same : t.comment ≡ s.comment) where
    separated-ahead : (b : ℕ) → ahead m n text (i + 1) (separated t b (i + 1)) calls' order'
        ≡ held m n (read_all (follows t.comment b) (reading t calls' order'))
    unfolding ahead read_all
    separated-ahead b = split (eqb b 10)
        (λ e. rw (e, nothing_yet (i + 1)))
        (λ e. rw (e, nothing_yet (i + 1)))

    pub word-ends : of_word s.comment (get_or text i 0) ≡ false
        → reading t calls' order' ≡ held m n (read_word (part text s.from i) (reading s calls order))
        → ahead m n text (i + 1) (separated t (get_or text i 0) (i + 1)) calls' order' ≡ ahead m n text i s calls order
    unfolding ahead pieces read_all
    word-ends e k =
        let b = get_or text i 0 in
        separated-ahead b
        ∙ (λ j. held m n (read_all (follows (same j) b) (k j)))
        ∙ all_held m n (follows s.comment b) (read_word (part text s.from i) (reading s calls order))
        ∙ sym (ap (λ (l : List ℕ). held m n (read_all (pieces s.comment (part text s.from i) l) (reading s calls order))) (next_of text i h)
        ∙ rw e)

-- The end of the text ends its last word and line.
pub text_ends : (m n : ℕ) (text : List ℕ) (i : ℕ) (s : State) (calls order : List ℕ) → length text ≤ i
    → (t : State) (calls' order' w : List ℕ) (p : Place) → p ≡ ended_line t.place → w ≡ part text s.from i
    → reading t calls' order' ≡ held m n (read_word w (reading s calls order))
    → record { place = p; calls = take t.calls calls'; order = take t.order order' } ≡ ahead m n text i s calls order
unfolding ahead pieces read_all
text_ends m n text i s calls order h t calls' order' w p e k r =
    (λ j. record { place = e j; calls = take t.calls calls'; order = take t.order order' })
    ∙ ap read_end r
    ∙ ap (λ (x : List ℕ). held m n (read_end (read_word x (reading s calls order)))) k
    ∙ sym (ap (λ (l : List ℕ). held m n (read_all (pieces s.comment (part text s.from i) l) (reading s calls order)))
    (drop_of_length-le text {i = i} h))

-- The numbers kept stay within their buffers.
pub same-within : (s : State) (m n m' n' : ℕ) → m' ≡ m → n' ≡ n → Within s m n → Within s m' n'
same-within s m n m' n' d e h = record { calls = omega (arith, h.calls); order = omega (arith, h.order) }
