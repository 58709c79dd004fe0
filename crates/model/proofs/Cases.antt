-- Cases worked beside those of `Bench`: each refusal of an opening and of a start, what a step may not touch, which changes count as failed, walks that
-- lead astray, what a report tells and leaves out, the number of each outcome, and a task stepped until it answers. Each line holds by computing
-- the meanings.
use Rattle.std.specs.Prelude.{Ok}
use mathlib.Core.{Path.{◌≡◌, refl}, Bool.{true, false}, List.{List, [], ◌∷◌, ◌++◌, map}}
use Prim.Native.Nat.{ℕ}
use lib.ListN.{replicate}
use Rattle.model.specs.declared.{Call.Call, Reply.Reply, Answer.TheVariants.{Pushed, Empty, NoFreeSlot}}
use Rattle.model.specs.Outcomes.{Moved, Opened, Refused}
use Rattle.model.specs.declared.{Op.TheVariants.PushPooled}
use Rattle.model.specs.Tables.{Tables, Queue, tables_of, queue_of, unopened, opened_control, with_words, new_call}
use Rattle.model.specs.Tables.{with_seen, with_neighbour, with_link, with_marks, counting, unused, started}
use Rattle.model.specs.{Sound.{anchor_sound, link_sound, control_sound, record_sound, rows_fit}, Lists.{count, listed}}
use Rattle.model.specs.Places.{side_of, row, link_side, reading, at1, at2, at3, new4, at4, at5, at6, at7, at9, at10}
use Rattle.model.specs.{Places.{at11, at12, at13, at14, at15, at16, at17, move}, History.{Request, run, final}}
use Rattle.model.specs.Route.{push_route, pop_route, route, onward, answer, goes, counted}
use Rattle.model.specs.Refusals.{open_refusal, start_refusal, step_sound, step_refusal, alone, report_refusal}
use Rattle.model.specs.Calls.{opened, open_as, open_queue, open_pooled, push_start, push_pooled_start, pop_start, finish}
use Rattle.model.specs.{Calls.{step, act_on, act, opening_code, reply_of}, Solo.{solo_run, solo_steps}}
use Rattle.model.specs.Walk.{Walk, entries, broken, along, contents}
use Rattle.model.specs.Report.{busy, waiting, taken_slots, tell, report, report_code, retry_counts}
use Rattle.model.proofs.Bench.{zeros, fresh, push, pop, steps, outcomes, at, got, one, two}

-- Tables for 16 tasks and 1,023 slots.
abbrev largest : Queue
largest = queue_of unopened (replicate 16 unused) (replicate 1024 0) (replicate 1024 0) (replicate 1024 0) (replicate 16 0) []

-- A push that names no slot; a pooled queue of one slot, with a first tag.
abbrev push_pooled : ℕ → ℕ → ℕ → Request
push_pooled t side label = record { task = t; op = PushPooled side label }

abbrev pooled_at : ℕ → Queue
pooled_at tag =
    (open_pooled (queue_of unopened (unused ∷ unused ∷ []) (0 ∷ 0 ∷ []) (0 ∷ 0 ∷ []) (0 ∷ 0 ∷ []) (0 ∷ []) (9 ∷ 9 ∷ [])) 2 1 tag).queue

abbrev single : Queue
single = pooled_at 0

-- The same once its slot waits.
abbrev filled : Queue
filled = final single (push_pooled 0 1 5 ∷ steps (replicate 5 0))

abbrev drawing : ℕ → Tables
drawing n = (final single (push_pooled 0 1 5 ∷ steps (replicate n 0))).tables

abbrev giving : ℕ → Tables
giving n = (final filled (pop 1 0 ∷ steps (replicate n 1))).tables

-- Anchors: 1 and 2, STABLE and RPUSH. A set bit in 31–15; a word whose tag is the last.
abbrev stable : ℕ
stable = 0x0000000100008002

abbrev pushing : ℕ
pushing = 0x0000000240008002

abbrev spare : ℕ
spare = 0x0000000000008000

abbrev last : ℕ
last = 0xffffffff00000000

-- A named queue of three slots with these words, and a pooled one.
abbrev links : ℕ → ℕ → ℕ → ℕ → Tables
links anchor left2 left3 right1 =
    tables_of (with_words (opened_control false 2 3 0) anchor 0)
    (0 ∷ 0 ∷ left2 ∷ left3 ∷ []) (0 ∷ right1 ∷ 0 ∷ 0 ∷ []) (replicate 4 0) (0 ∷ []) []

abbrev pool : ℕ → ℕ → Tables
pool head next1 =
    tables_of (with_words (opened_control true 2 3 0) 0 head)
    (replicate 4 0) (replicate 4 0) (replicate 4 0) (0 ∷ []) (0 ∷ next1 ∷ 0 ∷ 0 ∷ [])

-- A record at a place, at the right: kind, own slot, Anchor as read, neighbour, link word as read.
abbrev doing : ℕ → ℕ → ℕ → ℕ → ℕ → ℕ → Call
doing place kind own seen neighbour link =
    with_link (with_neighbour (with_seen (new_call place kind 1 own 7) seen 0) neighbour) link

abbrev why : Tables → Call → ℕ
why q r = step_refusal q alone r

-- The count that a step leaves, 5 before it.
abbrev counts : Tables → Call → ℕ
counts q r = (step q alone (counting r 5)).task.retries

-- The walk from the right end 2 to the left end 1, where Left of 2 and of 3 are these; under LPUSH from 1 to 2, where Right of 1 is this.
abbrev walked : ℕ → ℕ → Walk
walked left2 left3 = contents (links stable left2 left3 spare)

abbrev walked_back : ℕ → Walk
walked_back right1 = contents (links 0x0000000280008002 spare spare right1)

abbrev met : List ℕ → Walk
met slots = entries (map (λ x. record { slot = x; label = 0 }) slots)

-- From the last tag that a start is accepted at: slot 1 pushed, task 1 busy, and the tag one too high.
abbrev worn : Queue
worn = final (fresh 4294967262) (push 0 1 1 700 ∷ pop 1 1 ∷ steps (replicate 2 0))

-- Of two labels task 1 has taken the left one and is at 11; task 0, with a third, is at 4, before its effect.
abbrev halfway : Queue
halfway = final two (pop 1 0 ∷ steps (replicate 3 1) ++ push 0 1 3 900 ∷ steps (replicate 2 0))

-- After the race of two pops.
abbrev raced : Queue
raced = final one (pop 0 0 ∷ pop 1 1 ∷ steps (0 ∷ 1 ∷ 0 ∷ 1 ∷ 0 ∷ []))

-- A reply in numbers.
abbrev reply : ℕ → ℕ → ℕ → Reply
reply code label value = record { code = code; label = label; value = value }

-- What lies beyond is full: a busy record, marks of slots 0 and 4.
abbrev crowded : Queue
crowded = record {
  tables = with_marks halfway.tables (31 ∷ []);
  records = halfway.records ++ (counting (started 1 0 0 0) 5 ∷ []);
}

abbrev popping : Queue
popping = final one (pop 0 1 ∷ [])

-- Task 0 pops at the right, where Left of 2 has a set bit in 31–15.
abbrev astray : Queue
astray = record { tables = links stable spare 0 0; records = counting (started 1 1 0 0) 0 ∷ unused ∷ [] }

pub record Cases : Type 0 where
  -- 2 tasks and 3 slots open
  pub opens : (open_queue zeros 2 3 0).outcome ≡ Opened
  -- 1 to 16 tasks, 1 to 1,023 slots, and tables long enough; 10 before 11 before 12
  pub largest_opens : open_refusal false largest 16 1023 ≡ 0
  pub smallest_opens : open_refusal false zeros 1 1 ≡ 0
  pub many_tasks : open_refusal false largest 17 1024 ≡ 10
  pub no-tasks : open_refusal false zeros 0 3 ≡ 10
  pub many_slots : open_refusal false largest 16 1024 ≡ 11
  pub no-slots : open_refusal false zeros 2 0 ≡ 11
  pub short_rows : open_refusal false zeros 2 4 ≡ 12
  pub short_records : open_refusal false zeros 3 3 ≡ 12
  -- a short next table is 12 in a pooled queue
  pub short_next : open_refusal true zeros 2 3 ≡ 12
  -- starts: no such task, no such side, no such slot
  pub starts_refused : outcomes (fresh 0)
      (push 2 2 0 5 ∷ push 0 2 0 5 ∷ push 0 1 0 5 ∷ push 0 1 4 5 ∷ pop 2 2 ∷ pop 0 2 ∷ push_pooled 2 2 5 ∷ push_pooled 0 2 5 ∷ push_pooled 0 1 5 ∷ [])
      ≡ Refused 13 ∷ Refused 14 ∷ Refused 15 ∷ Refused 15 ∷ Refused 13 ∷ Refused 14 ∷ Refused 13 ∷ Refused 14 ∷ Refused 41 ∷ []
  -- in a pooled queue a slot that is named is 41, whatever the slot
  pub pooled_starts : outcomes single (push 0 1 1 5 ∷ push 0 1 9 5 ∷ push_pooled 0 1 5 ∷ push_pooled 0 1 5 ∷ [])
      ≡ Refused 41 ∷ Refused 41 ∷ at 12 ∷ Refused 30 ∷ []
  -- at the last tag a push that names no slot is accepted, past it refused 33, and so is a pop
  pub pooled_at_last_tag : outcomes (pooled_at 4294967262) (push_pooled 0 1 5 ∷ pop 1 0 ∷ []) ≡ at 12 ∷ at 1 ∷ []
  pub pooled_past_it : outcomes (pooled_at 4294967263) (push_pooled 0 1 5 ∷ pop 1 0 ∷ []) ≡ Refused 33 ∷ Refused 33 ∷ []
  -- the order of 30, 32 and 33: all three apply, then the last two, then the last
  pub start-order : outcomes worn (push 1 1 1 5 ∷ push 0 1 1 5 ∷ push 0 1 2 5 ∷ []) ≡ Refused 30 ∷ Refused 32 ∷ Refused 33 ∷ []
  -- the first push draws the one slot, the second finds none
  pub drawn : outcomes single (push_pooled 0 1 5 ∷ steps (replicate 3 0) ++ push_pooled 1 1 6 ∷ steps (1 ∷ []))
      ≡ at 12 ∷ at 13 ∷ at 14 ∷ at 1 ∷ at 12 ∷ Moved NoFreeSlot ∷ []
  -- 14 marks and labels the slot drawn; a pop clears the mark at 11, before it gives the slot back; each change of the head raises its tag
  pub marked_at_14 : map (λ n. (drawing n).marks) (2 ∷ 3 ∷ 5 ∷ []) ≡ (0 ∷ []) ∷ (2 ∷ []) ∷ (2 ∷ []) ∷ []
  pub labelled_at_14 : map (λ n. (drawing n).labels) (2 ∷ 3 ∷ []) ≡ (0 ∷ 0 ∷ []) ∷ (0 ∷ 5 ∷ []) ∷ []
  pub given_back : outcomes filled (pop 1 0 ∷ steps (replicate 6 1)) ≡ at 1 ∷ at 2 ∷ at 11 ∷ at 15 ∷ at 16 ∷ at 17 ∷ got 1 5 ∷ []
  pub cleared_at_11 : map (λ n. (giving n).marks) (2 ∷ 3 ∷ 6 ∷ []) ≡ (2 ∷ []) ∷ (0 ∷ []) ∷ (0 ∷ []) ∷ []
  pub heads : (drawing 2).control.head ∷ map (λ n. (giving n).control.head) (5 ∷ 6 ∷ []) ≡ 1 ∷ 0x0000000100000000 ∷ 0x0000000200000001 ∷ []
  -- no such task, an idle one
  pub steps-refused : outcomes (fresh 0) (steps (2 ∷ 0 ∷ [])) ≡ Refused 13 ∷ Refused 31 ∷ []
  -- 34 for what a step touches. At 3 a pop reads the end's link, a push its own; at 5 and 7 link words are read, at 7, 9 and 11 a row is needed
  pub at_3_pop : map (λ w. why (links stable w spare spare) (doing 3 1 0 stable 0 0)) (1 ∷ spare ∷ 4 ∷ []) ≡ 0 ∷ 34 ∷ 34 ∷ []
  pub at_3_push : map (λ w. why (links stable spare w spare) (doing 3 0 3 stable 0 0)) (1 ∷ spare ∷ 4 ∷ []) ≡ 0 ∷ 34 ∷ 34 ∷ []
  pub at_5 : map (λ w. why (links pushing w spare spare) (doing 5 1 0 pushing 0 0)) (1 ∷ spare ∷ 4 ∷ []) ≡ 0 ∷ 34 ∷ 34 ∷ []
  pub at_7 : map (λ w. why (links pushing spare spare w) (doing 7 1 0 pushing 1 0)) (0 ∷ spare ∷ 4 ∷ []) ≡ 0 ∷ 34 ∷ 34 ∷ []
  pub rows_needed : map (λ p. why (links pushing 0 0 0) (doing p 1 0 pushing 0 0)) (7 ∷ 9 ∷ []) ≡ 34 ∷ 34 ∷ []
  pub end_needed : why (links 0 0 0 0) (doing 11 1 0 0 0 0) ≡ 34
  -- a change that leaves just one end null; one that raises a tag past 32 bits; none of them where the word is not as read
  pub one_end_null : map (λ a. why (links a 0 0 0) (doing 4 1 0 stable 0 0)) (stable ∷ pushing ∷ []) ≡ 34 ∷ 0 ∷ []
  pub anchor_worn : map (λ a. why (links a 0 0 0) (doing 2 0 1 last 0 0)) (last ∷ 0 ∷ []) ≡ 34 ∷ 0 ∷ []
  pub link_worn : map (λ w. why (links pushing 0 0 w) (doing 9 1 0 pushing 1 last)) (last ∷ 0 ∷ []) ≡ 34 ∷ 0 ∷ []
  -- a head is looked at where it is read, at 12 and 15, before *no slot*; a next at 13; a head's tag where it is changed
  pub head-met : map (λ h. why (pool h 0) (doing 12 0 0 0 0 0)) (0 ∷ 3 ∷ spare ∷ 4 ∷ []) ≡ 0 ∷ 0 ∷ 34 ∷ 34 ∷ []
  pub head_met_again : map (λ h. why (pool h 0) (doing 15 1 1 0 0 0)) (0 ∷ 3 ∷ spare ∷ 4 ∷ []) ≡ 0 ∷ 0 ∷ 34 ∷ 34 ∷ []
  pub next-met : map (λ n. why (pool 1 n) (doing 13 0 0 0 0 1)) (3 ∷ 4 ∷ []) ≡ 0 ∷ 34 ∷ []
  pub head_worn : map (λ h. why (pool h 0) (doing 14 0 0 0 0 0xffffffff00000001)) (0xffffffff00000001 ∷ 0 ∷ []) ≡ 34 ∷ 0 ∷ []
  pub head_worn_again : map (λ h. why (pool h 0) (doing 17 1 1 0 0 last)) (last ∷ 0 ∷ []) ≡ 34 ∷ 0 ∷ []
  -- failed changes count, at 2, 4, 9, 10, 14 and 17; changes made do not, nor does a comparison that fails, at 6 and 8
  pub failed-counted : map (λ p. counts (links 0 0 0 0) (doing p 1 0 pushing 1 0)) (2 ∷ 4 ∷ 10 ∷ 6 ∷ 8 ∷ []) ≡ 6 ∷ 6 ∷ 6 ∷ 5 ∷ 5 ∷ []
  pub failed_link_counted : map (λ w. counts (links pushing 0 0 w) (doing 9 1 0 pushing 1 3)) (2 ∷ 3 ∷ []) ≡ 6 ∷ 5 ∷ []
  pub failed_head_counted : map (λ h. counts (pool h 0) (doing 14 0 0 0 0 3)) (2 ∷ 3 ∷ []) ≡ 6 ∷ 5 ∷ []
  pub failed_head_counted_again : map (λ h. counts (pool h 0) (doing 17 1 1 0 0 3)) (2 ∷ 3 ∷ []) ≡ 6 ∷ 5 ∷ []
  -- a walk is broken where before the other end it meets a set bit in 31–15, slot 0, a slot above slots, or more slots than exist
  pub walks : map (λ w. walked w spare) (1 ∷ spare ∷ 0 ∷ 4 ∷ 2 ∷ []) ≡ met (1 ∷ 2 ∷ []) ∷ broken ∷ broken ∷ broken ∷ broken ∷ []
  pub walks_round : map (λ w. walked 3 w) (1 ∷ 2 ∷ []) ≡ met (1 ∷ 3 ∷ 2 ∷ []) ∷ broken ∷ []
  pub walks-back : map walked_back (2 ∷ spare ∷ 0 ∷ 1 ∷ []) ≡ met (1 ∷ 2 ∷ []) ∷ broken ∷ broken ∷ broken ∷ []
  -- two labels wait, from left to right
  pub both_wait : contents two.tables ≡ entries (record { slot = 1; label = 700 } ∷ record { slot = 2; label = 800 } ∷ [])
  -- the report of calls half done: both are busy, one label waits, and with the slots of the two calls three are taken
  pub tells : report halfway
      ≡ Ok (record { anchor = record { tag = 4; status = 0; left = 2; right = 2 }; busy = 2; waiting = 1; taken = 3 })
  -- the failed change of the race is its task's
  pub retries-told : retry_counts raced ≡ 0 ∷ 1 ∷ replicate 14 0
  -- a refused report
  pub report_short : report (record { tables = two.tables; records = [] }) ≡ Refused 12
  -- a report counts no record beyond the tasks and no mark but those of slots 1 to slots
  pub no_more-told : report crowded ≡ report halfway
  pub no_more-counts : retry_counts crowded ≡ replicate 16 0
  -- the number and values of each outcome, of openings and of reports
  pub numbers : map reply_of (at 7 ∷ Moved Pushed ∷ Moved Empty ∷ got 2 800 ∷ Moved NoFreeSlot ∷ Refused 34 ∷ [])
      ≡ reply 1 0 7 ∷ reply 2 0 0 ∷ reply 3 0 0 ∷ reply 4 800 2 ∷ reply 5 0 0 ∷ reply 34 0 0 ∷ []
  pub opening_numbers : map opening_code (Opened ∷ Refused 11 ∷ []) ≡ 0 ∷ 11 ∷ []
  pub report_numbers : report_code (report two) ≡ 0
  pub report-refused : report_code (Refused 34) ≡ 34
  -- retries stay at 4,294,967,295 once there
  pub ceiling_reached : counted 4294967294 true ≡ 4294967295
  pub ceiling_kept : counted 4294967295 true ≡ 4294967295
  -- a task stepped until it answers: no step to make, too few, enough; refused where its first step is, one to make or none;
  -- a later step that is refused is not made
  pub none_made : ((solo_run 0 popping 0).outcome ≡ at 1) × ((solo_run 0 popping 0).steps ≡ 0)
  pub two_made : ((solo_run 2 popping 0).outcome ≡ at 11) × ((solo_run 2 popping 0).steps ≡ 2)
  pub enough-made : ((solo_run 9 popping 0).outcome ≡ got 1 700) × ((solo_run 9 popping 0).steps ≡ 3)
  pub none-accepted : ((solo_run 9 popping 1).outcome ≡ Refused 31) × ((solo_run 9 popping 1).steps ≡ 0)
  pub none_asked : ((solo_run 0 popping 1).outcome ≡ Refused 31) × ((solo_run 0 popping 2).outcome ≡ Refused 13)
  pub one_made : ((solo_run 9 astray 0).outcome ≡ at 3) × ((solo_run 9 astray 0).steps ≡ 1)

pub cases : Cases
unfolding open_as opened open_refusal run final act act_on push_start push_pooled_start pop_start step finish start_refusal step_refusal step_sound move at1 at2 at3
    new4 at4 at5 at6 at7 at9 at10 at11 at12 at13 at14 at15 at16 at17 reading side_of row link_side anchor_sound link_sound control_sound record_sound
    rows_fit push_route pop_route route onward answer goes counted along contents report tell report_refusal busy count waiting taken_slots retry_counts
    listed solo_steps solo_run
cases = record {
  opens = refl;
  largest_opens = refl;
  smallest_opens = refl;
  many_tasks = refl;
  no-tasks = refl;
  many_slots = refl;
  no-slots = refl;
  short_rows = refl;
  short_records = refl;
  short_next = refl;
  starts_refused = refl;
  pooled_starts = refl;
  pooled_at_last_tag = refl;
  pooled_past_it = refl;
  start-order = refl;
  drawn = refl;
  marked_at_14 = refl;
  labelled_at_14 = refl;
  given_back = refl;
  cleared_at_11 = refl;
  heads = refl;
  steps-refused = refl;
  at_3_pop = refl;
  at_3_push = refl;
  at_5 = refl;
  at_7 = refl;
  rows_needed = refl;
  end_needed = refl;
  one_end_null = refl;
  anchor_worn = refl;
  link_worn = refl;
  head-met = refl;
  head_met_again = refl;
  next-met = refl;
  head_worn = refl;
  head_worn_again = refl;
  failed-counted = refl;
  failed_link_counted = refl;
  failed_head_counted = refl;
  failed_head_counted_again = refl;
  walks = refl;
  walks_round = refl;
  walks-back = refl;
  both_wait = refl;
  tells = refl;
  retries-told = refl;
  report_short = refl;
  no_more-told = refl;
  no_more-counts = refl;
  numbers = refl;
  opening_numbers = refl;
  report_numbers = refl;
  report-refused = refl;
  ceiling_reached = refl;
  ceiling_kept = refl;
  none_made = (refl, refl);
  two_made = (refl, refl);
  enough-made = (refl, refl);
  none-accepted = (refl, refl);
  none_asked = (refl, refl);
  one_made = (refl, refl);
}
