-- The search for the next schedule, as the code makes it: down the tree of steps, task 0 first, where the remembered list lets it.
use mathlib.Core.{Bool.{Bool, ◌&&◌, ◌||◌, not, cond}, List.List}
use Rattle.std.specs.Prelude.{ℕ, zero, suc, ◌-◌, Err, Ok}
use lib.{Dec.{ltb, eqb}, ListN.get_or}
use Rattle.model.specs.Outcomes.{Outcome}
use Rattle.model.specs.{Tables.Queue, Calls.Done}
use Rattle.schedule_model.specs.Schedules.{Schedule, answered_both, was_cut, was_refused, ends, begun, at_work}
use Rattle.schedule_model.specs.{Schedules.both_answered, Next.{Next, given, no_more}}

-- Free: any schedule from here on will do; else the steps so far are those of the list, and the schedule must come after it.
abbrev pub ended : Bool → Schedule → Next
ended free s = cond free (given s) no_more

abbrev pub or_else : Next → Next → Next
or_else (given s) m = given s
or_else no_more m = m

abbrev pub prefixed : ℕ → Next → Next
prefixed t (given s) = given (begun t s)
prefixed t no_more = no_more

-- m: what is found below.
abbrev pub stepped : ℕ → Outcome → Bool → Next → Next
stepped t (Err refusal) free m = ended free (begun t (ends was_refused))
stepped t (Ok a) free m = prefixed t m

-- ws: the memory; len: the length of its list. With so many steps to go the list still binds, and names a task that may be next.
abbrev pub bound : ℕ → ℕ → Bool → Bool
bound len left free = not free && ltb (48 - left) len

abbrev pub least : List ℕ → ℕ → ℕ
least ws left = get_or ws (49 - left) 0

-- Task t comes too early; or no schedule that goes on with t can come too early.
abbrev pub skips : List ℕ → ℕ → ℕ → Bool → ℕ → Bool
skips ws len left free t = bound len left free && ltb t (least ws left)

abbrev pub frees : List ℕ → ℕ → ℕ → Bool → ℕ → Bool
frees ws len left free t = not (bound len left free) || not (eqb t (least ws left))

abbrev pub tried : List ℕ → ℕ → ℕ → Bool → Queue → ℕ → Outcome → Next → Next
tried ws len left free q t o m =
    cond (not (at_work q t) || skips ws len left free t) no_more (stepped t o (frees ws len left free t) m)

-- A level of the search: o, p the outcomes of a step of each task, l, m what is found below them.
abbrev pub level : List ℕ → ℕ → ℕ → Bool → Queue → Outcome → Outcome → Next → Next → Next
level ws len left free q o p l m =
    cond (both_answered q) (ended free (ends answered_both)) (or_else (tried ws len left free q 0 o l) (tried ws len left free q 1 p m))

-- by: how the search steps a task.
unfoldable pub seek_by : (Queue → ℕ → Done) → List ℕ → ℕ → ℕ → Bool → Queue → Next
seek_by by ws len zero free q = cond (both_answered q) (ended free (ends answered_both)) (ended free (ends was_cut))
seek_by by ws len (suc n) free q =
    level ws len (suc n) free q (by q 0).outcome (by q 1).outcome
    (seek_by by ws len n (frees ws len (suc n) free 0) (by q 0).queue)
    (seek_by by ws len n (frees ws len (suc n) free 1) (by q 1).queue)
