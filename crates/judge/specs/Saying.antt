-- What is said of a text, byte by byte: the verdict, or why the text cannot be read.
use mathlib.Core.{Bool.cond, List.{List, ◌++◌}}
use Rattle.std.specs.Prelude.{ℕ, eqb, Option, Some, None, Result, Ok, Err}
use Rattle.audit_model.specs.declared.Verdict.{Verdict, TheVariants.{Refused, Failed, Passed}}
use Rattle.lines.specs.{Ascii.ascii, Line.numbered}
use Rattle.historyfile.specs.declared.{reading.Place.Place, words.Fault.{Fault, TheVariants.{Unknown, Large, Seven, Unlabelled}}}

-- A line of a word and a number.
abbrev pub counted : List ℕ → ℕ → List ℕ
counted word n = numbered word n ++ ascii "\n"

abbrev pub position : ℕ → List ℕ
position n = cond (eqb n 0) (ascii "no rearrangement\n") (counted (ascii "fails at ") n)

abbrev pub verdict_line : Verdict → List ℕ
verdict_line Passed = ascii "passes\n"
verdict_line (Failed n) = position n
verdict_line (Refused why) = counted (ascii "refused ") why

-- The word that a column asks for.
abbrev pub wanted : ℕ → List ℕ
wanted column =
    cond (eqb column 0) (ascii "a task's number or `order` is wanted\n")
    (cond (eqb column 1) (ascii "`push` or `pop` is wanted\n")
    (cond (eqb column 2) (ascii "`left` or `right` is wanted\n")
    (cond (eqb column 3) (ascii "a label or `-` is wanted\n")
    (cond (eqb column 4) (ascii "`pushed`, `empty` or `popped` is wanted\n")
    (cond (eqb column 8) (ascii "a call's number is wanted\n") (ascii "an event's number is wanted\n"))))))

abbrev pub fault_line : Fault → ℕ → List ℕ
fault_line Unknown column = wanted column
fault_line Large column = ascii "a number is above 18446744073709551615\n"
fault_line Seven column = ascii "a call has seven words: task, kind, side, label, answer, start, end\n"
fault_line Unlabelled column = ascii "`-` stands for a label only with `empty`\n"

-- Without a fault the order is missing.
abbrev pub unread_line_of : Place → Option Fault → List ℕ
unread_line_of p None = ascii "verdict: the order is missing; it is the last line, `order` and the calls' numbers\n"
unread_line_of p (Some why) = (numbered (ascii "verdict: line ") p.line ++ ascii ": ") ++ fault_line why p.column

abbrev pub unread_line : Place → List ℕ
unread_line p = unread_line_of p p.fault

abbrev pub message : Result Verdict Place → List ℕ
message (Ok v) = verdict_line v
message (Err p) = unread_line p

-- How many bytes say it: a verdict is told on standard output, `Ok`, and what cannot be read on standard error, `Err`.
abbrev pub said : Result ℕ ℕ → ℕ
said (Ok n) = n
said (Err n) = n
