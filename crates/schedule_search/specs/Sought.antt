-- What a search hands back by value, with the memory and the queue that it was lent.
use mathlib.Core.{Bool.{Bool, ◌||◌, not, cond}, List.List}
use Rattle.std.specs.Prelude.{ℕ, ◌+◌, ◌-◌, Option, Some, None}
use lib.{Dec.eqb, ListN.length, Seq.sets}
use Rattle.model.specs.Tables.{Queue}
use Rattle.schedule_model.specs.{Schedules.{was_refused, ends, at_work}, Next.{Next, given, no_more}}
use Rattle.schedule_model.specs.declared.Ending.{Ending, TheVariants.{Answered, Cut, Refused}}
use Rattle.schedule_model.specs.Search.{ended, skips, frees, tried, seek_by}
use Rattle.schedule_search.specs.{declared.Found.Found, Stepped.moved}

abbrev pub seeking : List ℕ → ℕ → ℕ → Bool → Queue → Next
seeking = seek_by moved

-- The schedules that begin with task t.
abbrev pub branch : List ℕ → ℕ → ℕ → Bool → Queue → ℕ → Next
branch ws len left free q t =
    let d = moved q t in
    tried ws len left free q t d.outcome (seeking ws len (left - 1) (frees ws len left free t) d.queue)

-- Whether task t may be next; if so, whether any schedule that goes on with it will do, or the rest of the list binds.
abbrev pub choice : List ℕ → ℕ → ℕ → Bool → Queue → ℕ → Option Bool
choice ws len left free q t = cond (not (at_work q t) || skips ws len left free t) None (Some (frees ws len left free t))

-- After so many steps made: the whole length and the ending.
abbrev pub found_of : ℕ → Next → Option Found
found_of made (given s) = Some (record { length = made + length s.steps; ending = s.ending })
found_of made no_more = None

-- The steps found are stored from word i of the memory on.
abbrev pub written : ℕ → Next → List ℕ → List ℕ
written i (given s) ws = sets ws i s.steps
written i no_more ws = ws

pub record Sought : Type 0 where
  pub found : Option Found
  pub memory : List ℕ
  pub queue : Queue

-- With so many steps to go; the queue is as before.
unfoldable pub sought : ℕ → List ℕ → Next → Queue → Sought
sought left ws m q = record { found = found_of (48 - left) m; memory = written (49 - left) m ws; queue = q }

-- How a schedule ends: the last step was refused, both calls are answered, no step is left; or it goes on.
abbrev pub ends_here : Bool → Bool → ℕ → Option Ending
ends_here stopped both left = cond stopped (Some Refused) (cond both (Some Answered) (cond (eqb left 0) (Some Cut) None))

-- Below a step: nothing, where it was refused; else m.
abbrev pub under : Bool → Bool → Next → Next
under stopped free m = cond stopped (ended free (ends was_refused)) m
