-- Cases worked by computing: the refusals in their order, and a few schedules.
use mathlib.Core.{Path.{◌≡◌, refl}, Bool.{false, cond}, List.{List, [], ◌∷◌}}
use Prim.Native.Nat.{ℕ}
use lib.{Dec.eqb, ListN.replicate}
use Rattle.word.specs.Anchor.{pack_anchor}
use Rattle.model.specs.{declared.Record.Record, Sound.{anchor_sound, link_sound, control_sound, record_sound, rows_fit}}
use Rattle.model.specs.{Tables.{Queue, queue_of, unused, with_call, started, opened_control, with_words}, Report.waiting}
use Rattle.model.specs.{Places.{side_of, row, link_side, reading, at1, at2, move}, Refusals.{step_sound, step_refusal}}
use Rattle.model.specs.{Route.{push_route, pop_route, route, onward, answer, goes, counted}, Walk.{along, contents}}
use Rattle.model.specs.Calls.{finish, step, act_on, act}
use Rattle.schedule_model.specs.Schedules.{schedules}
use Rattle.schedule_model.specs.Next.{Handed, no_more, given, handing, next_schedule, schedule_refusal, storing}

-- A queue of 7 slots: so many waiting, in slots 1 to last where the Left links lead that way.
abbrev lane : ℕ → ℕ → List ℕ → ℕ → List Record → Queue
lane tasks last lefts marks records =
    let anchor = pack_anchor (record { tag = 1; status = 0; left = cond (eqb last 0) 0 1; right = last }) in
    queue_of (with_words (opened_control false tasks 7 0) anchor 0)
    records lefts (replicate 8 0) (replicate 8 0) (marks ∷ []) []

abbrev memory : List ℕ
memory = replicate 49 0

abbrev links : List ℕ
links = 0 ∷ 0 ∷ 1 ∷ 2 ∷ 3 ∷ 4 ∷ 5 ∷ 6 ∷ []

abbrev astray : List ℕ
astray = replicate 8 0

abbrev pop : Record
pop = with_call unused (started 1 0 0 0)

-- A record of no kind.
abbrev damaged : Record
damaged = with_call unused (started 2 0 0 0)

abbrev why : Queue → List ℕ → ℕ
why q ws = schedule_refusal q ws

abbrev handed : ℕ → ℕ → ℕ → List ℕ → Handed
handed code ending length ws = record { reply = record { code = code; ending = ending; length = length }; memory = ws }

pub record Cases : Type 0 where
  -- Four labels wait; what is marked besides does not count.
  pub four : why (lane 2 4 links 0xfe (pop ∷ pop ∷ [])) memory ≡ 0
  pub five : why (lane 2 5 links 0 (pop ∷ pop ∷ [])) memory ≡ 42
  pub one_idle : why (lane 2 1 links 0 (pop ∷ unused ∷ [])) memory ≡ 42
  pub other_idle : why (lane 2 1 links 0 (unused ∷ pop ∷ [])) memory ≡ 42
  pub three_tasks : why (lane 3 1 links 0 (pop ∷ pop ∷ pop ∷ [])) memory ≡ 42
  -- A damaged record that is busy is no refusal.
  pub busy_damaged : why (lane 2 1 links 0 (damaged ∷ pop ∷ [])) memory ≡ 0
  -- The walk comes before 42, the lengths before the walk, control before the lengths.
  pub walk_first : why (lane 3 5 astray 0 (pop ∷ pop ∷ pop ∷ [])) memory ≡ 34
  pub short_memory : why (lane 3 5 astray 0 (pop ∷ pop ∷ pop ∷ [])) (replicate 48 0) ≡ 12
  pub short_records : why (lane 3 5 astray 0 (pop ∷ pop ∷ [])) memory ≡ 12
  pub control-first : why (lane 17 5 astray 0 []) [] ≡ 34
  -- A refusal is its number alone; the answers of the others.
  pub refused-alone : next_schedule (lane 2 5 links 0 (pop ∷ pop ∷ [])) memory ≡ handed 42 0 0 memory
  pub no_more-told : handing memory no_more ≡ handed 0 3 0 memory
  pub given-told : handing (5 ∷ 6 ∷ 7 ∷ 8 ∷ []) (given (record { steps = 0 ∷ 1 ∷ []; ending = 2 })) ≡ handed 0 2 2 (2 ∷ 0 ∷ 1 ∷ 8 ∷ [])
  -- Two pops on an empty queue.
  pub pops : schedules (lane 2 0 links 0 (pop ∷ pop ∷ [])) 2 ≡ record { steps = 0 ∷ 1 ∷ []; ending = 0 }
      ∷ record { steps = 1 ∷ 0 ∷ []; ending = 0 } ∷ []
  -- A step is refused: as the last of those to go too, where a call unanswered is else cut.
  pub refused : schedules (lane 2 0 links 0 (damaged ∷ pop ∷ [])) 2 ≡ record { steps = 0 ∷ []; ending = 2 }
      ∷ record { steps = 1 ∷ 0 ∷ []; ending = 2 } ∷ []
  pub cut : schedules (lane 2 0 links 0 (damaged ∷ pop ∷ [])) 1 ≡ record { steps = 0 ∷ []; ending = 2 } ∷ record { steps = 1 ∷ []; ending = 1 } ∷ []

pub cases : Cases
unfolding next_schedule storing schedule_refusal contents along waiting anchor_sound link_sound control_sound record_sound rows_fit schedules
    act act_on step step_refusal step_sound finish move at1 at2 reading side_of row link_side route onward answer goes counted push_route pop_route
cases = record {
  four = refl;
  five = refl;
  one_idle = refl;
  other_idle = refl;
  three_tasks = refl;
  busy_damaged = refl;
  walk_first = refl;
  short_memory = refl;
  short_records = refl;
  control-first = refl;
  refused-alone = refl;
  no_more-told = refl;
  given-told = refl;
  pops = refl;
  refused = refl;
  cut = refl;
}
