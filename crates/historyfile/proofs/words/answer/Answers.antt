-- A name of six letters.
use mathlib.Core.{List.{List, [], ◌∷◌}, Path.{◌≡◌, ap₂, ◌∙◌}}
use Rattle.std.proofs.Common.{ℕ, length, get_or, ◌≤◌, ◌<◌, rules, arith, drop_of_length-le}
use Rattle.historyfile.proofs.Digits.{next_of}
use Rattle.lines.specs.Ascii.{ascii}
use Rattle.historyfile.proofs.words.answer.Goals as goal

six : (w : List ℕ) (a b c d e f : ℕ) → 6 ≤ length w → length w < 7
    → get_or w 0 0 ≡ a → get_or w 1 0 ≡ b → get_or w 2 0 ≡ c → get_or w 3 0 ≡ d → get_or w 4 0 ≡ e → get_or w 5 0 ≡ f → w ≡ a ∷ b ∷ c ∷ d ∷ e ∷ f ∷ []
six w a b c d e f h k i j l m n o =
    next_of w 0 (omega arith) ∙ ap₂ ◌∷◌ i (next_of w 1 (omega arith) ∙ ap₂ ◌∷◌ j (next_of w 2 (omega arith) ∙ ap₂ ◌∷◌ l
    (next_of w 3 (omega arith) ∙ ap₂ ◌∷◌ m (next_of w 4 (omega arith) ∙ ap₂ ◌∷◌ n (next_of w 5 (omega arith) ∙ ap₂ ◌∷◌ o
    (drop_of_length-le w {i = 6} (omega arith)))))))

pub returns-in-pushed : goal.returns-in-pushed
returns-in-pushed c =
    let e : c.args.word.now ≡ ascii "pushed" = six c.args.word.now 112 117 115 104 101 100
    (search rules) (search rules) (search rules) (search rules) (search rules) (search rules) (search rules) (search rules) in
    rw e

pub returns-in-popped : goal.returns-in-popped
returns-in-popped c =
    let e : c.args.word.now ≡ ascii "popped" = six c.args.word.now 112 111 112 112 101 100
    (search rules) (search rules) (search rules) (search rules) (search rules) (search rules) (search rules) (search rules) in
    rw e
