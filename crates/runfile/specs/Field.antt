-- The field at the head of some bytes. (Document 01: The run file and its trace.)
use Rattle.std.specs.Prelude.{ℕ, ◌+◌, ◌*◌, Result, Ok, Err}
use mathlib.Core.{Path.◌≡◌, List.List, Bool.{Bool, ◌&&◌, ◌||◌, cond}}
use lib.{ListN.{length, get_or, drop}, Dec.{ltb, leb, eqb}}
use Rattle.model.specs.{declared.Op.TheVariants.{Push, Pop, PushPooled, Step}, Refusals.malformed}
use Rattle.runfile.specs.declared.{Field.{Field, TheVariants.{Open, Each}}, Found.Found, NoField.{NoField, TheVariants.{Malformed, Cut, End}}}

-- Numbers, high byte first.
unfoldable pub two_at : List ℕ → ℕ → ℕ
two_at b i = get_or b i 0 * 256 + get_or b (i + 1) 0

unfoldable pub four_at : List ℕ → ℕ → ℕ
four_at b i = two_at b i * 65536 + two_at b (i + 2)

-- The tags with their lengths. One of 01 and 05 comes first and neither later.
unfoldable pub formed : Bool → ℕ → ℕ → Bool
formed opened tag len =
    cond opened
    ((eqb tag 2 && eqb len 8) || (eqb tag 3 && eqb len 2) || (eqb tag 4 && leb len 4096) || (eqb tag 6 && eqb len 6))
    ((eqb tag 1 || eqb tag 5) && eqb len 7)

-- No field is longer: a head, and steps of 4,096 tasks.
abbrev pub longest_field : ℕ
longest_field = 3 + 4096

-- 01 open: tasks, slots, first tag; 05 the same, pooled. 02 push: task, side, slot, label; 06 without the slot. 03 pop: task, side.
-- 04 steps: tasks. Of an operation the tasks are the first bytes of the content, one or all.
unfoldable pub content_of : ℕ → ℕ → List ℕ → Field
content_of tag len b =
    cond (eqb tag 1 || eqb tag 5) (Open (eqb tag 5) (get_or b 0 0) (two_at b 1) (four_at b 3))
    (cond (eqb tag 2) (Each (Push (get_or b 1 0) (two_at b 2) (four_at b 4)) 1)
    (cond (eqb tag 3) (Each (Pop (get_or b 1 0)) 1)
    (cond (eqb tag 6) (Each (PushPooled (get_or b 1 0) (four_at b 2)) 1)
    (Each Step len))))

-- The number of a field: its tag. Where no field is, the number of the refusal, or 0.
abbrev pub field_number : Field → ℕ
field_number (Open pooled tasks slots tag) = cond pooled 5 1
field_number (Each (Push side slot label) n) = 2
field_number (Each (Pop side) n) = 3
field_number (Each Step n) = 4
field_number (Each (PushPooled side label) n) = 6

abbrev pub fault_number : NoField → ℕ
fault_number Malformed = malformed
fault_number Cut = 0
fault_number End = 0

-- How many bytes are taken: none where there is no whole field.
abbrev pub taken : Result Found NoField → ℕ
taken (Ok found) = found.size
taken (Err why) = 0

-- One tag byte, two length bytes, content. A wrong head is malformed whether or not its content is there.
unfoldable pub field_of : Bool → List ℕ → Result Found NoField
field_of opened b =
    let tag = get_or b 0 0 in
    let len = two_at b 1 in
    cond (leb (length b) 0) (Err End)
    (cond (ltb (length b) 3) (Err Cut)
    (cond (formed opened tag len)
    (cond (ltb (length b) (3 + len)) (Err Cut) (Ok (record { field = content_of tag len (drop 3 b); size = 3 + len })))
    (Err Malformed)))

-- A whole field has the number that its tag byte names.
abbrev pub Numbered : Type 0
Numbered = (opened : Bool) (b : List ℕ) (found : Found) → field_of opened b ≡ Ok found → field_number found.field ≡ get_or b 0 0
