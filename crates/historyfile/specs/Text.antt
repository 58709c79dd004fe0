-- A history as text: words, separated by blanks, in lines.
--   # a comment goes to the end of its line
--   0 push right 700 pushed 1 3      a call a line: task, kind, side, label, answer, start event, answer event
--   1 pop left - empty 4 6           with empty the label may be -; kind, side and answer may be numbers
--   order 1 2                        the claimed order of effects: numbers of calls, to the end of the file
use mathlib.Core.{Bool.{Bool, false, ◌||◌, not, cond}, List.{List, [], ◌∷◌, ◌++◌}}
use Rattle.std.specs.Prelude.{ℕ, ◌==◌}

pub data Piece : Type 0 where
  word : List ℕ → Piece
  line_end : Piece

-- Space, tab, carriage return.
abbrev pub is_blank : ℕ → Bool
is_blank b = b == 32 || b == 9 || b == 13

-- A byte of a word: it is in no comment, and neither blank, # nor a line's end.
abbrev pub of_word : Bool → ℕ → Bool
of_word comment b = not (comment || is_blank b || b == 35 || b == 10)

-- The words of a text and the ends of its lines, in order, after the word under way. Between two blanks lies an empty word.
unfoldable pub pieces : Bool → List ℕ → List ℕ → List Piece
pieces comment w [] = word w ∷ line_end ∷ []
pieces comment w (b ∷ bs) =
    cond (of_word comment b) (pieces comment (w ++ (b ∷ [])) bs)
    (word w ∷ cond (b == 10) (line_end ∷ pieces false [] bs) (pieces (comment || b == 35) [] bs))
