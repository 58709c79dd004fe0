-- Worked runs of threads at the grain of single instructions: for each rule a short run that goes wrong without it, then threads that run alone.
-- Each line holds by computing the meanings.
use mathlib.Core.{Path.{◌≡◌, refl}, Bool.{true, false}, List.{List, [], ◌∷◌, ◌++◌, map}}
use Prim.Native.Nat.{ℕ}
use lib.ListN.{get_or, replicate}
use Rattle.model.{specs.declared.{Call.Call, Record.Record, Answer.TheVariants.Pushed}, proofs.Bench.{fresh, at, got}}
use Rattle.model.specs.Outcomes.{Moved, Outcome, Refused}
use Rattle.model.specs.Tables.{with_seen, with_neighbour}
use Rattle.model.specs.declared.Op.{Op, TheVariants.{Push, Pop, PushPooled, Step}}
use Rattle.model.specs.Tables.{Tables, Queue, queue_of, unopened, unused, counting, opened_control, with_words, new_call}
use Rattle.model.specs.{Sound.{anchor_sound, link_sound, record_sound, rows_fit}, Calls.{opened, open_as, open_pooled}}
use Rattle.model.specs.Places.{side_of, row, link_side, reading, at1, at2, at3, new4, at4, at5, at6, at7, at9, at10, at11}
use Rattle.model.specs.Places.{at12, at13, at14, at15, at16, at17, move}
use Rattle.model.specs.Route.{push_route, pop_route, route, onward, answer, goes, counted}
use Rattle.model.specs.Refusals.{open_refusal, step_sound, record_refusal}
use Rattle.threads_model.specs.Split.{loads, planned, plan, plan_unasked, perform, gone, settled_at, meets_anchor}
use Rattle.threads_model.specs.{Split.{settle, settle_unasked}, Starts.{own_refusal, plan_start, settle_start}}
use Rattle.threads_model.specs.{Turns.Turn, Crew.{Act, calls, next, all_free, go, go_on, turns, told, label_next}}
use Rattle.threads_model.specs.Instructions.{is_to_put, loads_own, is_as_read, puts_own, reads_next, at_once, one_word}
use Rattle.threads_model.specs.Instructions.{replaces, step_first, clears, start_first, claims_mark, looks_mark}

-- A thread begins a start or a step.
abbrev begins : ℕ → Op → Act
begins t op = calls (record { task = t; op = op })

-- It begins a step and makes so many of its instructions.
abbrev part : ℕ → ℕ → List Act
part t n = begins t Step ∷ replicate n (next t)

-- A whole start or step. None here has more than four instructions, and a thread that has nothing to do changes nothing.
abbrev whole : ℕ → Op → List Act
whole t op = begins t op ∷ replicate 4 (next t)

-- Whole steps of these threads, in this order.
abbrev steps : List ℕ → List Act
steps [] = []
steps (t ∷ ts) = whole t Step ++ steps ts

-- What a run leaves of the tables, what thread t is told, and the turns.
abbrev leaves : Queue → List Act → Tables
leaves q l = (go_on q.tables.control.pooled q.tables.control.slots (all_free q) l).queue.tables

abbrev hears : Queue → List Act → ℕ → List Outcome
hears q l t = told q.tables.control.pooled q.tables.control.slots (all_free q) l t

abbrev rests : Queue → List Act → Queue
rests q l = (go_on q.tables.control.pooled q.tables.control.slots (all_free q) l).queue

abbrev place_of : Record → ℕ
place_of r = r.call.place

-- The slot whose label thread t touches next.
abbrev touching : Queue → List Act → ℕ → ℕ
touching q l t =
    let c = q.tables.control in
    label_next c.pooled c.slots (go_on c.pooled c.slots (all_free q) l) t

abbrev order : Queue → List Act → List Turn
order q l = turns q.tables.control.pooled q.tables.control.slots (all_free q) l

-- A push at the right, and its steps: two on an empty queue, nine on another. A pop of one label of several.
abbrev pushes : ℕ → ℕ → ℕ → ℕ → List Act
pushes t slot label n = whole t (Push 1 slot label) ++ steps (replicate n t)

abbrev first : List Act
first = pushes 1 1 700 2

abbrev second : List Act
second = first ++ pushes 1 2 800 9

abbrev pops : ℕ → List Act
pops t = whole t (Pop 1) ++ steps (replicate 4 t)

-- A pooled queue of three tasks and two slots. Places 12 and 13: a push has read the head and the next of its slot.
abbrev pool : Queue
pool = (open_pooled (queue_of unopened (replicate 3 unused) (replicate 3 0) (replicate 3 0) (replicate 3 0) (0 ∷ []) (replicate 3 0)) 3 2 0).queue

abbrev before14 : ℕ → ℕ → List Act
before14 t label = whole t (PushPooled 1 label) ++ steps (replicate 2 t)

-- Both threads name slot 1. Thread 1 loads Anchor first; thread 0 sets the mark first; thread 1 finds it set.
abbrev both_name : List Act
both_name = begins 0 (Push 1 1 7) ∷ begins 1 (Push 1 1 8) ∷ next 1 ∷ next 0 ∷ next 0 ∷ next 1 ∷ next 1 ∷ []

-- Thread 0 has taken slot 1 and stored its label; thread 1 names it too, and is refused.
abbrev named_later : List Act
named_later = whole 0 (Push 1 1 7) ++ whole 1 (Push 1 1 8)

-- They name slots 1 and 2. Both have loaded Anchor; then each sets its mark, in one word.
abbrev both_take : List Act
both_take = begins 0 (Push 1 1 7) ∷ begins 1 (Push 1 2 8) ∷ next 0 ∷ next 1 ∷ next 0 ∷ next 1 ∷ []

-- Place 2. Both push to the empty queue and have read Anchor; thread 1 changes it; thread 0's change fails.
abbrev both_first : List Act
both_first = whole 0 (Push 1 1 700) ++ whole 1 (Push 1 2 800) ++ steps (0 ∷ 1 ∷ 1 ∷ 0 ∷ [])

-- From the last tag that a start is accepted at: thread 0 loads Anchor, and before it sets its mark thread 1's push raises the tag.
abbrev overtaken : List Act
overtaken = begins 0 (Push 1 2 800) ∷ next 0 ∷ first ++ replicate 3 (next 0)

-- Place 3. Thread 0 loads its own link; thread 1, at 9, changes that word; thread 0 compares and puts. (Records as lent: after an opening and calls
-- alone no change at 9 of such a link is done.)
abbrev with_rights : List ℕ → Queue
with_rights rights =
    let stable : ℕ = 0x0000000100008002 in
    let pushing : ℕ = 0x0000000240008002 in
    let puts : Call = with_seen (new_call 3 0 0 3 900) stable 0 in
    let helps : Call = with_neighbour (with_seen (new_call 9 1 1 0 0) pushing 0) 3 in
    queue_of (with_words (opened_control false 2 3 0) stable 0) (counting puts 0 ∷ counting helps 0 ∷ [])
    (replicate 4 0) rights (replicate 4 0) (0 ∷ []) []

abbrev at3and9 : Queue
at3and9 = with_rights (replicate 4 0)

abbrev put_amid : List Act
put_amid = part 0 1 ++ steps (1 ∷ []) ++ replicate 3 (next 0)

-- Place 8. Thread 1's push of slot 2 stands at 5; thread 0 helps, as far as 6; thread 1 stabilises, pops slot 2 and pushes slot 3; thread 0 goes on.
abbrev waits_at8 : List Act
waits_at8 =
    first ++ pushes 1 2 800 3 ++ whole 0 (Pop 1) ++ steps (replicate 3 0 ++ replicate 6 1) ++ pops 1 ++ pushes 1 3 900 9 ++ steps (0 ∷ 0 ∷ [])

-- Place 11. Thread 0 pops the label of slot 1 and has made one instruction of two; thread 1 names slot 1; thread 0 goes on.
abbrev pop_amid : List Act
pop_amid = first ++ whole 0 (Pop 1) ++ steps (replicate 2 0) ++ part 0 1 ++ whole 1 (Push 1 1 900) ++ replicate 2 (next 0)

-- The same, and thread 1 names slot 2, whose mark lies in the word of slot 1's.
abbrev clears_amid : List Act
clears_amid = first ++ whole 0 (Pop 1) ++ steps (replicate 2 0) ++ part 0 1 ++ whole 1 (Push 1 2 900) ++ replicate 2 (next 0)

-- Thread 0 at 11 with its step begun and so many instructions of it made; then thread 1 names slot 1 and has looked at its mark.
abbrev taken_amid : ℕ → List Act
taken_amid n = first ++ whole 0 (Pop 1) ++ steps (replicate 2 0) ++ part 0 n ++ (begins 1 (Push 1 1 900) ∷ next 1 ∷ next 1 ∷ [])

-- Threads 0 and 1 are about to draw slot 1; thread 1 does.
abbrev both_draw : List Act
both_draw = before14 0 5 ++ before14 1 6 ++ (begins 0 Step ∷ begins 1 Step ∷ [])

-- Place 14. Thread 0 is about to draw slot 1; thread 1 draws it; thread 0's change fails.
abbrev drawn_before : List Act
drawn_before = before14 0 5 ++ before14 1 6 ++ steps (1 ∷ 0 ∷ [])

-- The same; then thread 2 draws slot 2, and thread 1 pushes, pops and gives slot 1 back: the head names slot 1 again, whose next was slot 2.
abbrev given_back : List Act
given_back =
    before14 0 5 ++ before14 1 6 ++ steps (replicate 3 1) ++ before14 2 7 ++ steps (2 ∷ []) ++ whole 1 (Pop 1) ++ steps (replicate 6 1) ++ steps (0 ∷ [])

-- Threads 0 and 1 have drawn slots 1 and 2 and stored their labels; then each sets its mark, in one word.
abbrev both_mark : List Act
both_mark = before14 0 5 ++ part 0 2 ++ before14 1 6 ++ part 1 2 ++ (next 0 ∷ next 1 ∷ [])

pub record Cases : Type 0 where
  -- 32 for thread 1, while thread 0 still owes its label; once it is stored thread 0 is told
  pub named-twice : hears (fresh 0) both_name 1 ≡ Refused 32 ∷ []
  pub label-owed : (leaves (fresh 0) both_name).labels ≡ 0 ∷ 0 ∷ 0 ∷ 0 ∷ []
  pub label-stored : (leaves (fresh 0) (both_name ++ (next 0 ∷ []))).labels ≡ 0 ∷ 7 ∷ 0 ∷ 0 ∷ []
  pub then_told : hears (fresh 0) (both_name ++ (next 0 ∷ next 0 ∷ [])) 0 ≡ at 1 ∷ []
  -- who is refused has stored no label
  pub label_of_taker : (leaves (fresh 0) named_later).labels ≡ 0 ∷ 7 ∷ 0 ∷ 0 ∷ []
  -- two slots taken at once: neither mark is lost
  pub both_taken : (leaves (fresh 0) both_take).marks ≡ 6 ∷ []
  -- 2: Anchor is thread 1's, and thread 0 goes on with it as read
  pub anchor_stays : (leaves (fresh 0) both_first).control.anchor ≡ 0x0000000100010002
  pub change_failed : hears (fresh 0) both_first 0 ≡ at 1 ∷ at 2 ∷ at 3 ∷ []
  -- the turns are in the order of the fetch-ors
  pub in_order : order (fresh 0) both_name ≡ record { task = 0; op = Push 1 1 7; early = true } ∷ record { task = 1; op = Push 1 1 8; early = true } ∷ []
  -- 33 above tag 4,294,967,262 alone; 32 comes before it
  pub at_last_tag : hears (fresh 4294967262) (whole 0 (Pop 1)) 0 ≡ at 1 ∷ []
  pub past_it : hears (fresh 4294967263) (whole 0 (Pop 1)) 0 ≡ Refused 33 ∷ []
  pub marked_past_it : hears (fresh 4294967262) (first ++ whole 0 (Push 1 1 5) ++ whole 0 (Push 1 2 5)) 0 ≡ Refused 32 ∷ Refused 33 ∷ []
  -- 33 is asked of the Anchor that was loaded
  pub passed_before : hears (fresh 4294967262) overtaken 0 ≡ at 1 ∷ []
  -- 3: the tag kept is the one that the word has when it is replaced
  pub tag-kept : get_or (leaves at3and9 put_amid).rights 3 0 ≡ 0x0000000100000001
  -- a word that has the slot already is only loaded: two instructions, of which the second tells
  pub put_already : hears (with_rights (0 ∷ 0 ∷ 0 ∷ 0x0000000500000001 ∷ [])) (part 0 2) 0 ≡ at 4 ∷ []
  -- 8: thread 0 leaves without a change, and slot 1's Right still names slot 3
  pub leaves_at_8 : hears (fresh 0) waits_at8 0 ≡ at 1 ∷ at 5 ∷ at 6 ∷ at 7 ∷ at 8 ∷ at 1 ∷ []
  pub right_stays : get_or (leaves (fresh 0) waits_at8).rights 1 0 ≡ 0x0000000200000003
  -- 11: the label is read before the slot is free, so thread 1 is refused 32 and thread 0 gets its own label
  pub label_read_first : hears (fresh 0) pop_amid 0 ≡ at 1 ∷ at 2 ∷ at 11 ∷ got 1 700 ∷ []
  pub mark_cleared_last : hears (fresh 0) pop_amid 1 ≡ at 1 ∷ at 2 ∷ Moved Pushed ∷ Refused 32 ∷ []
  -- the mark that was set meanwhile stays, and no other
  pub one_cleared : (leaves (fresh 0) clears_amid).marks ≡ 4 ∷ []
  -- so they never touch its label at one time: thread 0 first, then neither, and once the mark is cleared thread 1
  pub label_of_pop : touching (fresh 0) (taken_amid 0) 0 ≡ 1
  pub label_of-none : touching (fresh 0) (taken_amid 1) 1 ≡ 0
  pub label_of_push : touching (fresh 0) (taken_amid 2) 1 ≡ 1
  -- 14: a label is touched by who has drawn its slot, not by who is about to
  pub label_undrawn : touching pool both_draw 0 ≡ 0
  pub label-drawn : touching pool (both_draw ++ (next 1 ∷ [])) 1 ≡ 1
  -- 14: the label of who has drawn the slot stays
  pub label_stays : (leaves pool drawn_before).labels ≡ 0 ∷ 6 ∷ 0 ∷ []
  -- the head's tag was raised three times, so thread 0's change fails, and slot 2 is drawn once
  pub tag_shows : hears pool given_back 0 ≡ at 12 ∷ at 13 ∷ at 14 ∷ at 12 ∷ []
  pub head_stays : (leaves pool given_back).control.head ≡ 0x0000000300000001
  -- a step is at most four instructions, the last of which tells: at 14 it is four
  pub not_in_three : hears pool (before14 0 5 ++ part 0 3) 0 ≡ at 12 ∷ at 13 ∷ at 14 ∷ []
  pub told_in_four : hears pool (before14 0 5 ++ part 0 4) 0 ≡ at 12 ∷ at 13 ∷ at 14 ∷ at 1 ∷ []
  -- at rest each record is as it was told
  pub rested : map place_of (rests (fresh 0) (second ++ whole 0 (Pop 1) ++ steps (0 ∷ []))).records ≡ 3 ∷ 0 ∷ []
  -- 16: slot 1 was given back while the pool was empty: its next, once slot 2, is 0
  pub next-stored : (leaves pool given_back).next ≡ 0 ∷ 0 ∷ 0 ∷ []
  -- neither mark is lost
  pub both_marked : (leaves pool both_mark).marks ≡ 6 ∷ []
  -- a thread alone: slot 1, then slot 2 pushed right (★), a pop; places 12 to 17
  pub pushed-alone : hears (fresh 0) (second ++ pops 0) 1
      ≡ at 1 ∷ at 2 ∷ Moved Pushed ∷ at 1 ∷ at 3 ∷ at 4 ∷ at 5 ∷ at 6 ∷ at 7 ∷ at 8 ∷ at 9 ∷ at 10 ∷ Moved Pushed ∷ []
  pub popped-alone : hears (fresh 0) (second ++ pops 0) 0 ≡ at 1 ∷ at 3 ∷ at 4 ∷ at 11 ∷ got 2 800 ∷ []
  pub second-anchor : (leaves (fresh 0) second).control.anchor ≡ 0x0000000300008002
  pub first-right : (leaves (fresh 0) second).rights ≡ 0 ∷ 0x0000000100000002 ∷ 0 ∷ 0 ∷ []
  pub pooled-alone : hears pool (before14 0 5 ++ steps (replicate 3 0) ++ whole 0 (Pop 1) ++ steps (replicate 6 0)) 0
      ≡ at 12 ∷ at 13 ∷ at 14 ∷ at 1 ∷ at 2 ∷ Moved Pushed ∷ at 1 ∷ at 2 ∷ at 11 ∷ at 15 ∷ at 16 ∷ at 17 ∷ got 1 5 ∷ []
  -- a record that is asked nothing but its place: idle 31, beyond 17 34; an Anchor found that is unsound is told all the same
  pub unasked_idle : (settle_unasked 0 3 (counting (new_call 0 0 0 0 0) 0) 0).outcome ≡ Refused 31
  pub unasked_nowhere : (plan_unasked 0 3 (new_call 18 1 1 0 0)).word ≡ 34
  pub unasked_anchor : (settle_unasked 0 3 (counting (new_call 1 1 1 0 0) 0) 0x00000000c0000000).outcome ≡ Refused 34

pub cases : Cases
unfolding open_as opened open_refusal rows_fit told go_on go turns start_first plan_start settle_start claims_mark looks_mark own_refusal step_first is_to_put
    loads_own is_as_read puts_own reads_next at_once one_word replaces clears loads planned plan plan_unasked perform gone settled_at meets_anchor settle
    settle_unasked record_refusal step_sound move at1 at2 at3 new4 at4 at5 at6 at7 at9 at10 at11 at12 at13 at14 at15 at16 at17 reading
    side_of row link_side anchor_sound link_sound record_sound push_route pop_route route onward answer goes counted
cases = record {
  named-twice = refl;
  label-owed = refl;
  label-stored = refl;
  then_told = refl;
  label_of_taker = refl;
  both_taken = refl;
  anchor_stays = refl;
  change_failed = refl;
  in_order = refl;
  at_last_tag = refl;
  past_it = refl;
  marked_past_it = refl;
  passed_before = refl;
  tag-kept = refl;
  put_already = refl;
  leaves_at_8 = refl;
  right_stays = refl;
  label_read_first = refl;
  mark_cleared_last = refl;
  one_cleared = refl;
  label_of_pop = refl;
  label_of-none = refl;
  label_of_push = refl;
  label_undrawn = refl;
  label-drawn = refl;
  label_stays = refl;
  tag_shows = refl;
  head_stays = refl;
  not_in_three = refl;
  told_in_four = refl;
  rested = refl;
  next-stored = refl;
  both_marked = refl;
  pushed-alone = refl;
  popped-alone = refl;
  second-anchor = refl;
  first-right = refl;
  pooled-alone = refl;
  unasked_idle = refl;
  unasked_nowhere = refl;
  unasked_anchor = refl;
}
