-- Worked sheets, by computation.
use mathlib.Core.{Bool.{Bool, true, false}, List.{List, [], ◌∷◌}, Path.{◌≡◌, refl}}
use Prim.Native.Nat.{ℕ, ◌+◌, ◌*◌, ◌^◌}
use Rattle.model.{specs.{declared.Entry.Entry, Tables.Tables}, proofs.Laws.Order.numbers}
use Rattle.sheet_model.specs.{declared.SheetReply.SheetReply, Sheet.{Sheet, through, chained, breaks, malformed}}
use Rattle.sheet_model.specs.Verdict.{broken_by, kept, refused, sheet_rules, verdict, first_broken, pairs, places}

-- A rule on two places, labels 10, 20 and 30 listed, and labels waiting in slots that don't matter.
abbrev rule : ℕ → ℕ → ℕ
rule a b = a * 2 ^ 16 + b

abbrev ruled : List ℕ → Sheet
ruled rules = record { listed = 10 ∷ 20 ∷ 30 ∷ []; rules = rules }

abbrev wait : List ℕ → List Entry
wait [] = []
wait (x ∷ l) = record { slot = 1; label = x } ∷ wait l

chained_through_a_label_that_does_not_wait : verdict (ruled (rule 1 2 ∷ rule 2 3 ∷ [])) (wait (30 ∷ 10 ∷ [])) ≡ broken_by 1 3
unfolding verdict first_broken pairs places breaks chained through
chained_through_a_label_that_does_not_wait = refl

any_copy_of_either : verdict (ruled (rule 1 2 ∷ [])) (wait (10 ∷ 20 ∷ 10 ∷ [])) ≡ broken_by 1 2
unfolding verdict first_broken pairs places breaks chained through
any_copy_of_either = refl

kept-in_order : verdict (ruled (rule 1 2 ∷ rule 2 3 ∷ [])) (wait (10 ∷ 10 ∷ 30 ∷ 30 ∷ [])) ≡ kept
unfolding verdict first_broken pairs places breaks chained through
kept-in_order = refl

one_copy_breaks_a_cycle : verdict (ruled (rule 2 3 ∷ rule 3 2 ∷ [])) (wait (20 ∷ [])) ≡ broken_by 2 2
unfolding verdict first_broken pairs places breaks chained through
one_copy_breaks_a_cycle = refl

first_place_first : verdict (ruled (rule 2 1 ∷ rule 1 3 ∷ [])) (wait (30 ∷ 10 ∷ 20 ∷ [])) ≡ broken_by 1 3
unfolding verdict first_broken pairs places breaks chained through
first_place_first = refl

a_place_with_itself_is_a_rule : malformed (ruled (rule 1 1 ∷ [])) ≡ false
unfolding malformed
a_place_with_itself_is_a_rule = refl

place_0 : malformed (ruled (rule 0 1 ∷ [])) ≡ true
unfolding malformed
place_0 = refl

beyond_the_list : malformed (ruled (rule 1 4 ∷ [])) ≡ true
unfolding malformed
beyond_the_list = refl

listed-twice : malformed (record { listed = 10 ∷ 20 ∷ 10 ∷ []; rules = [] }) ≡ true
unfolding malformed
listed-twice = refl

-- The answers in numbers, and the refusals in their order, whatever the tables and the sheet.
abbrev answered : ℕ → ℕ → ℕ → SheetReply
answered code first second = record { code = code; first = first; second = second }

answers : kept ∷ broken_by 2 3 ∷ refused 46 ∷ [] ≡ answered 0 0 0 ∷ answered 0 2 3 ∷ answered 46 0 0 ∷ []
answers = refl

order : (q : Tables) (s : Sheet) (enough : Bool) → numbers (sheet_rules q s enough) ≡ 34 ∷ 46 ∷ 12 ∷ 34 ∷ []
order q s enough = refl
