-- No line is longer than `room`, whatever its numbers.
use Rattle.std.specs.Prelude.{Err, Ok}
use Prim.Native.Nat.{ℕ, zero, suc, ◌+◌, ◌/◌, ◌%◌, ◌≤◌}
use mathlib.Core.{Bool.{Bool, true, false, cond}, List.{List, [], ◌∷◌, ◌++◌}}
use native.Mathlib.Omega.{arith}
use lib.{Dec.ltb, ListN.{length, length-append}}
use Rattle.model.specs.Refusals.{malformed}
use Rattle.model.specs.Outcomes.{Opening, Outcome}
use Rattle.model.specs.declared.{Entry.Entry, Op.Op}
use Rattle.model.specs.declared.Answer.{Answer, TheVariants.{Running, Pushed, Empty, Popped, NoFreeSlot}}
use Rattle.model.specs.declared.Op.TheVariants as op
use Rattle.lines.specs.{Ascii.ascii, declared.Line.{Line, TheVariants.{Open, Act, File}}}
use Rattle.lines.specs.Line.{decimal_in, decimal, hex_four, hex, numbered, no, call_word, call_of, entry_of, answer_of}
use Rattle.lines.specs.Line.{moved, outcome_of, opening_of, told, anchor_text, line_of, header, room}

-- A list of two parts is at most as long as both may be.
both_most : (xs ys : List ℕ) (m n : ℕ) → length xs ≤ m → length ys ≤ n → length (xs ++ ys) ≤ m + n
both_most xs ys m n h k = omega (arith, h, k, length-append xs ys)

digits_most : (more n : ℕ) → length (decimal_in more n) ≤ suc more
unfolding decimal_in
digits_most zero n = omega arith
digits_most (suc more) n = go (ltb n 10) (digits_most more (n / 10))
  where
    go : (b : Bool) → length (decimal_in more (n / 10)) ≤ suc more
        → length (cond b [] (decimal_in more (n / 10)) ++ ((48 + n % 10) ∷ [])) ≤ suc (suc more)
    go true h = omega arith
    go false h = omega (arith, h, length-append (decimal_in more (n / 10)) ((48 + n % 10) ∷ []))

decimal_most : (n : ℕ) → length (decimal n) ≤ 20
unfolding decimal
decimal_most n = digits_most 19 n

numbered_most : (word : List ℕ) (n : ℕ) → length (numbered word n) ≤ length word + 20
unfolding numbered
numbered_most word n = both_most word (decimal n) (length word) 20 (omega arith) (decimal_most n)

word_most : (o : Op) → length (call_word o) ≤ 6
word_most (op.Push side slot label) = omega arith
word_most (op.Pop side) = omega arith
word_most (op.PushPooled side label) = omega arith
word_most op.Step = omega arith

call_most : (task : ℕ) (o : Op) → length (call_of task o) ≤ 27
unfolding call_of
call_most task o = both_most (numbered (ascii " ") task) (call_word o) 21 6 (numbered_most (ascii " ") task) (word_most o)

entry_most : (e : Entry) → length (entry_of e) ≤ 45
unfolding entry_of
entry_most e =
    both_most (numbered (ascii "got:") e.slot) (numbered (ascii ":") e.label) 24 21
    (numbered_most (ascii "got:") e.slot) (numbered_most (ascii ":") e.label)

answer_most : (a : Answer) → length (answer_of a) ≤ 45
answer_most (Running p) = omega (arith, numbered_most (ascii "at") p)
answer_most Pushed = omega arith
answer_most Empty = omega arith
answer_most (Popped e) = entry_most e
answer_most NoFreeSlot = omega arith

moved_most : (o : Op) (a : Answer) → length (moved o a) ≤ 45
moved_most (op.Push side slot label) a = omega arith
moved_most (op.Pop side) a = omega arith
moved_most (op.PushPooled side label) a = omega arith
moved_most op.Step a = answer_most a

outcome_most : (o : Op) (x : Outcome) → length (outcome_of o x) ≤ 45
outcome_most o (Err refusal) = omega (arith, numbered_most no refusal.number)
outcome_most o (Ok a) = moved_most o a

opening_most : (o : Opening) → length (opening_of o) ≤ 22
opening_most (Err refusal) = numbered_most no refusal.number
opening_most (Ok u) = omega arith

told_most : (l : Line) → length (told l) ≤ 72
unfolding told
told_most (Open o) = omega (arith, opening_most o)
told_most (Act task o x) = both_most (call_of task o) (outcome_of o x) 27 45 (call_most task o) (outcome_most o x)
told_most File = omega (arith, numbered_most no malformed)

anchor_most : (w : ℕ) → length (anchor_text w) ≤ 18
unfolding anchor_text hex hex_four
anchor_most w = omega arith

pub line_short : (event : ℕ) (l : Line) (anchor : ℕ) → length (line_of event l anchor) ≤ room
unfolding line_of
line_short event l anchor =
    let front = both_most (decimal event) (told l) 20 72 (decimal_most event) (told_most l) in
    omega (arith, both_most (decimal event ++ told l) (anchor_text anchor) 92 18 front (anchor_most anchor))

pub header_short : length header ≤ room
unfolding header
header_short = omega arith
