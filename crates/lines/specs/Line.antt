-- A line of the trace, byte by byte. (Document 01: The run file and its trace.)
use Rattle.std.specs.Prelude.{Err, Ok}
use Rattle.std.specs.Prelude.{ℕ, zero, suc, ◌+◌, ◌/◌, ◌%◌, ◌^◌}
use mathlib.Core.{Path.◌≡◌, Bool.cond, List.{List, [], ◌∷◌, ◌++◌}}
use lib.{ListN.length, Seq.sets, Dec.{ltb, leb}}
use Rattle.model.specs.Outcomes.{Opening, Outcome}
use Rattle.model.specs.declared.{Entry.Entry, Op.Op}
use Rattle.model.specs.declared.Answer.{Answer, TheVariants.{Running, Pushed, Empty, Popped, NoFreeSlot}}
use Rattle.model.specs.Refusals.{malformed}
use Rattle.model.specs.declared.Op.TheVariants as op
use Rattle.lines.specs.{Ascii.ascii, declared.Line.{Line, TheVariants.{Open, Act, File}}}

-- The decimal digits of n, at most more + 1 of them; a number below 2 ^ 64 has at most 20.
unfoldable pub decimal_in : ℕ → ℕ → List ℕ
decimal_in zero n = (48 + n % 10) ∷ []
decimal_in (suc more) n = cond (ltb n 10) [] (decimal_in more (n / 10)) ++ ((48 + n % 10) ∷ [])

unfoldable pub decimal : ℕ → List ℕ
decimal n = decimal_in 19 n

-- The last two decimal digits.
abbrev pub last_two : ℕ → List ℕ
last_two n = (48 + n / 10 % 10) ∷ (48 + n % 10) ∷ []

-- The last four hexadecimal digits of n, and sixteen of a word.
unfoldable pub glyph : ℕ → ℕ
glyph d = cond (ltb d 10) (48 + d) (87 + d)

unfoldable pub hex_four : ℕ → List ℕ
hex_four n = glyph (n / 2 ^ 12 % 16) ∷ glyph (n / 2 ^ 8 % 16) ∷ glyph (n / 2 ^ 4 % 16) ∷ glyph (n % 16) ∷ []

unfoldable pub hex : ℕ → List ℕ
hex w = hex_four (w / 2 ^ 48) ++ hex_four (w / 2 ^ 32) ++ hex_four (w / 2 ^ 16) ++ hex_four w

-- Words, and a word with a number behind it.
unfoldable pub numbered : List ℕ → ℕ → List ℕ
numbered word n = word ++ decimal n

abbrev pub ok : List ℕ
ok = ascii "ok"

abbrev pub no : List ℕ
no = ascii "no"

-- Task as given, and the call. A push has the same word with a slot and without.
abbrev pub call_word : Op → List ℕ
call_word (op.Push side slot label) = ascii " push "
call_word (op.Pop side) = ascii " pop "
call_word (op.PushPooled side label) = ascii " push "
call_word op.Step = ascii " step "

unfoldable pub call_of : ℕ → Op → List ℕ
call_of task op = numbered (ascii " ") task ++ call_word op

-- Popped.
unfoldable pub entry_of : Entry → List ℕ
entry_of e = numbered (ascii "got:") e.slot ++ numbered (ascii ":") e.label

-- Running at a place, or the answer.
abbrev pub answer_of : Answer → List ℕ
answer_of (Running p) = numbered (ascii "at") p
answer_of Pushed = ascii "pushed"
answer_of Empty = ascii "empty"
answer_of (Popped e) = entry_of e
answer_of NoFreeSlot = ascii "noslot"

-- A start carried out, or a step's answer.
abbrev pub moved : Op → Answer → List ℕ
moved (op.Push side slot label) a = ok
moved (op.Pop side) a = ok
moved (op.PushPooled side label) a = ok
moved op.Step a = answer_of a

-- A refusal has its number.
abbrev pub outcome_of : Op → Outcome → List ℕ
outcome_of op (Err refusal) = numbered no refusal.number
outcome_of op (Ok a) = moved op a

abbrev pub opening_of : Opening → List ℕ
opening_of (Err refusal) = numbered no refusal.number
opening_of (Ok u) = ok

-- Task, call and answer. An opening and a malformed place have no task.
unfoldable pub told : Line → List ℕ
told (Open o) = ascii " - open " ++ opening_of o
told (Act task op outcome) = call_of task op ++ outcome_of op outcome
told File = ascii " - file " ++ numbered no malformed

-- Anchor, and the line's end.
unfoldable pub anchor_text : ℕ → List ℕ
anchor_text w = ascii " " ++ hex w ++ ascii "\n"

unfoldable pub line_of : ℕ → Line → ℕ → List ℕ
line_of event line anchor = decimal event ++ told line ++ anchor_text anchor

-- The first line.
unfoldable pub header : List ℕ
header = ascii "event task call answer anchor\n"

-- No line is longer.
abbrev pub room : ℕ
room = 128

-- Bytes were stored from position at on, and r is the position after them.
pub record Put (before after : List ℕ) (at r : ℕ) (bytes : List ℕ) : Type 0 where
  pub stop : r ≡ at + length bytes
  pub stored : after ≡ sets before at bytes

-- Bytes that are written where a buffer of n bytes has room for `most` bytes at a position, and otherwise not.
unfoldable pub given_room : ℕ → ℕ → ℕ → List ℕ → List ℕ
given_room most n at bytes = cond (leb (at + most) n) bytes []
