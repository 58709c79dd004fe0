-- What a word says in its column: 0 task, 1 kind, 2 side, 3 label, 4 answer, 5 start event, 6 answer event, 7 behind a call; 8 in the order.
use mathlib.Core.{Bool.cond, List.{List, [], ◌∷◌}}
use Rattle.std.specs.Prelude.{ℕ, ◌+◌, ◌-◌, ◌*◌, ◌^◌, ◌==◌, nat_lt, bytes_eq, Result, Ok, Err}
use Rattle.std.specs.{Char.is_ascii_digit, List.list_all}
use Rattle.lines.specs.Ascii.{ascii}
use Rattle.historyfile.specs.declared.words.{Meaning.{Meaning, TheVariants.{Number, NoLabel, Order}}, Fault.{Fault, TheVariants.{Unknown, Large, Seven}}}

-- The number that digits come to behind a number.
unfoldable pub valued : ℕ → List ℕ → ℕ
valued n [] = n
valued n (b ∷ bs) = valued (n * 10 + (b - 48)) bs

-- A word of digits: its number, if it is below 2 ^ 64 and not behind a call.
unfoldable pub number : ℕ → List ℕ → Result Meaning Fault
number column w = cond (nat_lt (valued 0 w) (2 ^ 64)) (cond (column == 7) (Err Seven) (Ok (Number (valued 0 w)))) (Err Large)

-- A word that is no number: in a line's first column the word order, in the next four what the call's column may be named.
abbrev pub first : List ℕ → Result Meaning Fault
first w = cond (bytes_eq w (ascii "order")) (Ok Order) (Err Unknown)

abbrev pub kind : List ℕ → Result Meaning Fault
kind w = cond (bytes_eq w (ascii "push")) (Ok (Number 0)) (cond (bytes_eq w (ascii "pop")) (Ok (Number 1)) (Err Unknown))

abbrev pub side : List ℕ → Result Meaning Fault
side w = cond (bytes_eq w (ascii "left")) (Ok (Number 0)) (cond (bytes_eq w (ascii "right")) (Ok (Number 1)) (Err Unknown))

abbrev pub label : List ℕ → Result Meaning Fault
label w = cond (bytes_eq w (ascii "-")) (Ok NoLabel) (Err Unknown)

abbrev pub answer : List ℕ → Result Meaning Fault
answer w =
    cond (bytes_eq w (ascii "pushed")) (Ok (Number 2))
    (cond (bytes_eq w (ascii "empty")) (Ok (Number 3))
    (cond (bytes_eq w (ascii "popped")) (Ok (Number 4)) (Err Unknown)))

-- A word that is no number, by its column.
abbrev pub name : ℕ → List ℕ → Result Meaning Fault
name column w =
    cond (column == 0) (first w)
    (cond (column == 1) (kind w)
    (cond (column == 2) (side w)
    (cond (column == 3) (label w)
    (cond (column == 4) (answer w) (Err Unknown)))))

abbrev pub says : ℕ → List ℕ → Result Meaning Fault
says column w = cond (list_all is_ascii_digit w) (number column w) (cond (column == 7) (Err Seven) (name column w))
