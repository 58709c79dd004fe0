-- A reading whose numbers lie at the front of two buffers, as many as there is room for.
use mathlib.Core.{Bool.{false, ◌||◌, cond}, List.List, Path.◌≡◌}
use Rattle.std.specs.Prelude.{ℕ, ◌-◌, ◌≤◌}
use lib.{Dec.eqb, ListN.{take, drop}}
use Rattle.historyfile.specs.{declared.reading.State.State, Reading.{Reading, ended_line, read_all}, Text.pieces}

abbrev pub reading : State → List ℕ → List ℕ → Reading
reading s calls order = record { place = s.place; calls = take s.calls calls; order = take s.order order }

-- The first m numbers of the calls and n of the order.
abbrev pub held : ℕ → ℕ → Reading → Reading
held m n r = record { place = r.place; calls = take m r.calls; order = take n r.order }

-- What is held once the text from byte i on is read, the word under way being the bytes from the one kept in the state on.
unfoldable pub ahead : ℕ → ℕ → List ℕ → ℕ → State → List ℕ → List ℕ → Reading
ahead m n text i s calls order =
    held m n (read_all (pieces s.comment (take (i - s.from) (drop s.from text)) (drop i text)) (reading s calls order))

-- Behind a byte that ended a word, the next word beginning at a position.
abbrev pub separated : State → ℕ → ℕ → State
separated s b next =
    cond (eqb b 10)
    (record s { place = ended_line s.place; from = next; comment = false })
    (record s { from = next; comment = s.comment || eqb b 35 })

pub record Within (s : State) (m n : ℕ) : Type 0 where
  pub calls : s.calls ≤ m
  pub order : s.order ≤ n

-- A buffer written from one position on and before another: from there on it is as it was.
pub record Written (from to : ℕ) (before after : List ℕ) : Type 0 where
  pub onward : from ≤ to
  pub rest : drop to after ≡ drop to before

-- Both buffers, written from the numbers kept in one state on and before those kept in a later one.
pub record BothWritten (s r : State) (cs os cs' os' : List ℕ) : Type 0 where
  pub calls : Written s.calls r.calls cs cs'
  pub order : Written s.order r.order os os'
