-- The numbers of a text.
use mathlib.Core.{Bool.{Bool, true, false, ◌&&◌, not, cond}, List.{List, [], ◌∷◌, ◌++◌}}
use Rattle.std.specs.Prelude.{ℕ, ◌+◌, ◌%◌, ◌^◌, ◌==◌, nat_lt, Option, Some, None, Result, Ok, Err, is_none}
use Rattle.historyfile.specs.{declared.reading.{Place.Place, Turn.Turn}, Text.{Piece, word, line_end, pieces}}
use Rattle.historyfile.specs.declared.words.{Meaning.{Meaning, TheVariants.{Number, NoLabel, Order}}, Fault.{Fault, TheVariants.{Seven, Unlabelled}}}
use Rattle.historyfile.specs.Words.{says}

-- Line 1, column 0.
abbrev pub at_start : Place
at_start = record { line = 1; column = 0; unlabelled = false; fault = None }

abbrev pub stopped : Place → Fault → Turn
stopped p why = record { place = record p { fault = Some why }; value = None }

-- The order has but one column.
abbrev pub next_column : ℕ → ℕ
next_column column = cond (nat_lt column 8) (column + 1) column

-- Behind a number.
abbrev pub numbered : Place → Bool → ℕ → Turn
numbered p dash n = record {
  place = record { line = p.line; column = next_column p.column; unlabelled = dash; fault = None };
  value = Some n;
}

-- - stands for a label only with the answer empty, 3.
abbrev pub lacks_label : Place → ℕ → Bool
lacks_label p n = p.unlabelled && p.column == 4 && not (n == 3)

-- Behind what a word says: where the reading stands, and the number that it gives, if any.
abbrev pub turned : Place → Result Meaning Fault → Turn
turned p (Ok (Number n)) = cond (lacks_label p n) (stopped p Unlabelled) (numbered p p.unlabelled n)
turned p (Ok NoLabel) = numbered p true 0
turned p (Ok Order) = record {
  place = record { line = p.line; column = 8; unlabelled = false; fault = None };
  value = None;
}
turned p (Err why) = stopped p why

-- The line after this one, in the first column or still in the order. Lines count modulo 2 ^ 64.
abbrev pub next_line : Place → Place
next_line p = record {
  line = (p.line + 1) % 2 ^ 64;
  column = cond (p.column == 7) 0 p.column;
  unlabelled = false;
  fault = None;
}

-- A fault stays; a call has seven words.
abbrev pub ended_line : Place → Place
ended_line p =
    cond (is_none p.fault)
    (cond (nat_lt 0 p.column && nat_lt p.column 7) (stopped p Seven).place (next_line p))
    p

-- Where the reading stands, the numbers of the calls so far, seven a call, and those of the order.
pub record Reading : Type 0 where
  pub place : Place
  pub calls : List ℕ
  pub order : List ℕ

abbrev pub appended : Option ℕ → List ℕ → List ℕ
appended None l = l
appended (Some n) l = l ++ (n ∷ [])

-- The number of a word, if it gives one, behind those of the order or of the calls.
abbrev pub kept_in : Bool → Turn → Reading → Reading
kept_in true t r = record { place = t.place; calls = r.calls; order = appended t.value r.order }
kept_in false t r = record { place = t.place; calls = appended t.value r.calls; order = r.order }

-- A word in the order's column is of the order, any other one of a call.
abbrev pub kept : Turn → Reading → Reading
kept t r = kept_in (r.place.column == 8) t r

-- One piece read. Behind a fault nothing is read, and an empty word says nothing.
unfoldable pub read_word : List ℕ → Reading → Reading
read_word [] r = r
read_word (b ∷ bs) r = cond (is_none r.place.fault) (kept (turned r.place (says r.place.column (b ∷ bs))) r) r

abbrev pub read_end : Reading → Reading
read_end r = record { place = ended_line r.place; calls = r.calls; order = r.order }

unfoldable pub read_all : List Piece → Reading → Reading
read_all [] r = r
read_all (word w ∷ ps) r = read_all ps (read_word w r)
read_all (line_end ∷ ps) r = read_all ps (read_end r)

abbrev pub whole : List ℕ → Reading
whole text = read_all (pieces false [] text) (record { place = at_start; calls = []; order = [] })
