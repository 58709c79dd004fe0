-- What is sound, and which tables are long enough: refusals 34 and 12. (Document 01: Refused because of the input, .. of the state.)
use mathlib.Core.{Bool.{Bool, ◌&&◌, ◌||◌, not, cond, beq}, List.{List, [], ◌∷◌, ◌++◌}}
use Rattle.std.specs.Prelude.{ℕ, ◌/◌}
use lib.{Dec.{ltb, leb, eqb}, ListN.length}
use Rattle.word.specs.{declared.Anchor.Anchor, Anchor.anchor_of, Link.{link_of, spare_of}}
use Rattle.model.specs.{declared.{Control.Control, Call.Call}, Tables.Tables, Lists.every}
use Rattle.model.specs.Kinds.{is_push, is_pop, helping, drawing, giving, owning}

-- x is 1 to n.
abbrev pub from1 : ℕ → ℕ → Bool
from1 n x = leb 1 x && leb x n

-- Anchor: no status 3, no end above slots, not just one end null, not unstable with equal ends.
abbrev pub anchor_tests : ℕ → Anchor → List Bool
anchor_tests slots a =
    leb a.status 2
    ∷ leb a.left slots
    ∷ leb a.right slots
    ∷ beq (eqb a.left 0) (eqb a.right 0)
    ∷ (eqb a.status 0 || not (eqb a.left a.right))
    ∷ []

unfoldable pub anchor_sound : ℕ → Anchor → Bool
anchor_sound slots a = every (anchor_tests slots a)

-- Link word: no set bit in 31–15, no slot above slots.
unfoldable pub link_sound : ℕ → ℕ → Bool
link_sound slots w = eqb (spare_of w) 0 && leb (link_of w).slot slots

-- Control: tasks and slots within limits, Anchor sound, named or pooled.
abbrev pub control_tests : Control → List Bool
control_tests c =
    from1 16 c.tasks
    ∷ from1 1023 c.slots
    ∷ anchor_sound c.slots (anchor_of c.anchor)
    ∷ leb c.pooled 1
    ∷ []

unfoldable pub control_sound : Control → Bool
control_sound c = every (control_tests c)

-- At 13 and 14 the head as read names a slot.
abbrev pub head_has_slot : Call → Bool
head_has_slot r = not (eqb r.place 13 || eqb r.place 14) || not (eqb (link_of r.link).slot 0)

-- Record: idle, or each field within its meaning, in a pooled queue or in a named one: what the place asks of the call, and what was read.
abbrev pub call_tests : Bool → ℕ → Call → List Bool
call_tests pooled slots r =
    leb r.place (cond pooled 17 11)
    ∷ leb r.kind 1
    ∷ leb r.side 1
    ∷ leb r.finishing 1
    ∷ (not (eqb r.place 11 || giving r) || is_pop r)
    ∷ (not (drawing r) || is_push r)
    ∷ (eqb r.finishing 0 || (is_push r && helping r))
    ∷ cond (owning r) (from1 slots r.own) (eqb r.own 0)
    ∷ head_has_slot r
    ∷ []

abbrev pub read_tests : ℕ → Call → List Bool
read_tests slots r =
    leb r.neighbour slots
    ∷ link_sound slots r.link
    ∷ anchor_sound slots (anchor_of r.seen)
    ∷ (not (helping r) || not (eqb (anchor_of r.seen).status 0))
    ∷ []

abbrev pub record_tests : Bool → ℕ → Call → List Bool
record_tests pooled slots r = call_tests pooled slots r ++ read_tests slots r

unfoldable pub record_sound : Bool → ℕ → Call → Bool
record_sound pooled slots r = eqb r.place 0 || every (record_tests pooled slots r)

-- Long enough: rows slots + 1, mark words (slots div 64) + 1; the next table counts in a pooled queue alone.
abbrev pub row_tests : Bool → ℕ → Tables → List Bool
row_tests pooled slots q =
    ltb slots (length q.lefts)
    ∷ ltb slots (length q.rights)
    ∷ ltb slots (length q.labels)
    ∷ ltb (slots / 64) (length q.marks)
    ∷ (not pooled || ltb slots (length q.next))
    ∷ []

unfoldable pub rows_fit : Bool → ℕ → Tables → Bool
rows_fit pooled slots q = every (row_tests pooled slots q)
