-- What is left of the word is of digits, and leads to the number of the whole.
use mathlib.Core.{Bool.true, Path.◌≡◌}
use Rattle.std.proofs.Common.{drop, ◌^◌, ◌<◌}
use Rattle.std.specs.{Char.is_ascii_digit, List.list_all}
use Rattle.historyfile.specs.Words.{valued}
use Rattle.historyfile.proofs.words.number.Given as goal

abbrev pub invariant-loop-b : goal.invariant-loop-b
invariant-loop-b l =
    (list_all is_ascii_digit (drop l.b-index l.word) ≡ true) × (valued l.n (drop l.b-index l.word) ≡ valued 0 l.word) × (l.n < 2 ^ 64)
