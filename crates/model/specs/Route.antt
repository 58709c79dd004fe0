-- The route from place to place, and what a step answers. (Document 01: Places, the column next, and below the table.)
use mathlib.Core.{Bool.{Bool, cond}, List.{List, [], ◌∷◌}}
use Rattle.std.specs.Prelude.{ℕ, ◌+◌}
use lib.{Dec.{ltb, leb, eqb}, ListN.get_or}
use Rattle.model.specs.{declared.{Call.Call, Entry.Entry}, Tables.{at_place, idle}}
use Rattle.model.specs.declared.Answer.{Answer, TheVariants.{Running, Pushed, Empty, Popped, NoFreeSlot}}

-- Where a route leads: to a place, 1 to 17, or to one of these.
abbrev pub leave : ℕ
leave = 20

abbrev pub pushed : ℕ
pushed = 21

abbrev pub empty : ℕ
empty = 22

abbrev pub popped : ℕ
popped = 23

abbrev pub no_free_slot : ℕ
no_free_slot = 24

-- The branches of a place. Where it goes one way:
abbrev pub only_way : ℕ
only_way = 0

-- a change is done or has failed,
abbrev pub done : ℕ
done = 0

abbrev pub has_failed : ℕ
has_failed = 1

-- a comparison finds the word as read or another; so does place 7, where the link names r or not,
abbrev pub equal : ℕ
equal = 0

abbrev pub unequal : ℕ
unequal = 1

-- place 11 is in a named or in a pooled queue, the head read at 12 has slot 0 or another,
abbrev pub named_queue : ℕ
named_queue = 0

abbrev pub pooled_queue : ℕ
pooled_queue = 1

abbrev pub none_free : ℕ
none_free = 0

abbrev pub some_free : ℕ
some_free = 1

-- and the Anchor read at 1 is empty, has l = r in a pop, is STABLE, or is none of these.
abbrev pub read_empty : ℕ
read_empty = 0

abbrev pub read_single : ℕ
read_single = 1

abbrev pub read_stable : ℕ
read_stable = 2

abbrev pub read_unstable : ℕ
read_unstable = 3

-- A failed change at 2 or 4 has the branches of that reading, behind the one where it is done. (Document 02: #106.)
abbrev pub failed_reading : ℕ → ℕ
failed_reading branch = branch + 1

-- Where a reading leads: empty, l = r, STABLE, else. A push never reads a single label as such, so that entry is 0, no place.
abbrev pub push_read : List ℕ
push_read = 2 ∷ 0 ∷ 3 ∷ 5 ∷ []

abbrev pub pop_read : List ℕ
pop_read = empty ∷ 2 ∷ 3 ∷ 5 ∷ []

-- The column next: a line for each place from 0, where no task steps, and an entry for each branch from 0.
unfoldable pub push_route : List (List ℕ)
push_route =
    []
    ∷ push_read  -- 1
    ∷ (pushed ∷ push_read)  -- 2: done, failed and read
    ∷ (4 ∷ [])  -- 3
    ∷ (5 ∷ push_read)  -- 4: done, failed and read
    ∷ (6 ∷ [])  -- 5
    ∷ (7 ∷ leave ∷ [])  -- 6: equal, else
    ∷ (10 ∷ 8 ∷ [])  -- 7: names r, else
    ∷ (9 ∷ leave ∷ [])  -- 8: equal, else
    ∷ (10 ∷ leave ∷ [])  -- 9: done, failed
    ∷ (leave ∷ leave ∷ [])  -- 10: done, failed
    ∷ []  -- 11: no push
    ∷ (no_free_slot ∷ 13 ∷ [])  -- 12: slot 0, else
    ∷ (14 ∷ [])  -- 13
    ∷ (1 ∷ 12 ∷ [])  -- 14: done, failed
    ∷ []

unfoldable pub pop_route : List (List ℕ)
pop_route =
    []
    ∷ pop_read  -- 1
    ∷ (11 ∷ pop_read)  -- 2: done, failed and read
    ∷ (4 ∷ [])  -- 3
    ∷ (11 ∷ pop_read)  -- 4: done, failed and read
    ∷ (6 ∷ [])  -- 5, as a push
    ∷ (7 ∷ leave ∷ [])  -- 6, as a push
    ∷ (10 ∷ 8 ∷ [])  -- 7, as a push
    ∷ (9 ∷ leave ∷ [])  -- 8, as a push
    ∷ (10 ∷ leave ∷ [])  -- 9, as a push
    ∷ (leave ∷ leave ∷ [])  -- 10, as a push
    ∷ (popped ∷ 15 ∷ [])  -- 11: named, pooled
    ∷ []  -- 12 to 14: no pop
    ∷ []
    ∷ []
    ∷ (16 ∷ [])  -- 15
    ∷ (17 ∷ [])  -- 16
    ∷ (popped ∷ 15 ∷ [])  -- 17: done, failed
    ∷ []

unfoldable pub route : ℕ → ℕ → ℕ → ℕ
route place kind branch = get_or (get_or (cond (eqb kind 0) push_route pop_route) place []) branch 0

-- Leave: a finishing push answers pushed in that step; any other task goes to 1.
unfoldable pub onward : ℕ → ℕ → ℕ
onward n finishing = cond (eqb n leave) (cond (eqb finishing 1) pushed 1) n

-- A step's answer: running with its next place, pushed, empty, popped with slot and label, or no slot.
unfoldable pub answer : ℕ → Entry → Answer
answer n e =
    cond (eqb n pushed) Pushed
    (cond (eqb n empty) Empty
    (cond (eqb n popped) (Popped e)
    (cond (eqb n no_free_slot) NoFreeSlot
    (Running n))))

-- The record at its next place; after an answer it is all zero.
unfoldable pub goes : Call → ℕ → Call
goes r n =
    cond (leb n 17)
    (at_place r n)
    idle

-- Retries count the failed changes and stay at 4,294,967,295 once there.
unfoldable pub counted : ℕ → Bool → ℕ
counted n failed = cond failed (cond (ltb n 4294967295) (n + 1) n) n
