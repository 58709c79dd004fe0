-- The bench cases that document 01 marks with a star, as one table. Each line holds by computing the meanings.
use mathlib.Core.{Path.{◌≡◌, refl}, List.{List, [], ◌∷◌, map}}
use Prim.Native.Nat.{ℕ}
use lib.ListN.{get_or, replicate}
use Rattle.word.specs.Anchor.{pack_anchor}
use Rattle.model.specs.{declared.Answer.TheVariants.{Running, Pushed, Empty, Popped}, Places.{at11, move}}
use Rattle.model.specs.Outcomes.{Moved, Outcome, Refused}
use Rattle.model.specs.{declared.Op.TheVariants.{Push, Pop, Step}, Tables.{Queue, queue_of, unopened, unused}}
use Rattle.model.specs.Sound.{anchor_sound, link_sound, control_sound, record_sound, rows_fit}
use Rattle.model.specs.Places.{side_of, row, link_side, reading, at1, at2, at3, new4, at4, at5, at6, at7, at9, at10}
use Rattle.model.specs.Route.{push_route, pop_route, route, onward, answer, goes, counted}
use Rattle.model.specs.Refusals.{open_refusal, step_sound, step_refusal, start_refusal}
use Rattle.model.specs.Calls.{opened, open_as, open_queue, push_start, pop_start, finish, step, act_on, act}
use Rattle.model.specs.History.{Request, Event, run, final}

-- Tables of zeros for 2 tasks and 3 slots, and the queue opened in them with a first tag.
abbrev pub zeros : Queue
zeros = queue_of unopened (replicate 2 unused) (replicate 4 0) (replicate 4 0) (replicate 4 0) (replicate 1 0) []

abbrev pub fresh : ℕ → Queue
fresh tag = (open_queue zeros 2 3 tag).queue

abbrev pub push : ℕ → ℕ → ℕ → ℕ → Request
push t side slot label = record { task = t; op = Push side slot label }

abbrev pub pop : ℕ → ℕ → Request
pop t side = record { task = t; op = Pop side }

abbrev pub steps : List ℕ → List Request
steps l = map (λ t. record { task = t; op = Step }) l

abbrev pub outcomes : Queue → List Request → List Outcome
outcomes q os = map (λ (e : Event). e.outcome) (run q os)

abbrev pub at : ℕ → Outcome
at p = Moved (Running p)

abbrev pub got : ℕ → ℕ → Outcome
got slot label = Moved (Popped (record { slot = slot; label = label }))

-- Slot 1 pushed right alone by task 0, then slot 2.
abbrev push_first : List Request
push_first = push 0 1 1 700 ∷ steps (replicate 2 0)

abbrev push_second : List Request
push_second = push 0 1 2 800 ∷ steps (replicate 9 0)

abbrev pub one : Queue
one = final (fresh 0) push_first

abbrev pub two : Queue
two = final one push_second

pub record Table : Type 0 where
  -- ★ tag 1, STABLE, 1, 1 packs to 0x0000000100008001
  pub packs_stable : pack_anchor (record { tag = 1; status = 0; left = 1; right = 1 }) ≡ 0x0000000100008001
  -- ★ tag 2, RPUSH, 1, 2 packs to 0x0000000240008002
  pub packs_pushing : pack_anchor (record { tag = 2; status = 1; left = 1; right = 2 }) ≡ 0x0000000240008002
  -- ★ pop on empty: 1 step
  pub pop_on_empty : outcomes (fresh 0) (pop 0 1 ∷ steps (0 ∷ [])) ≡ at 1 ∷ Moved Empty ∷ []
  -- ★ push on empty: 2 steps
  pub push_on_empty : outcomes (fresh 0) push_first ≡ at 1 ∷ at 2 ∷ Moved Pushed ∷ []
  -- ★ slot 1, then slot 2 pushed right alone, first tag 0: the second takes 9 steps, Anchor 0x0000000300008002
  pub second_push : outcomes one push_second ≡ at 1 ∷ at 3 ∷ at 4 ∷ at 5 ∷ at 6 ∷ at 7 ∷ at 8 ∷ at 9 ∷ at 10 ∷ Moved Pushed ∷ []
  pub second-anchor : two.tables.control.anchor ≡ 0x0000000300008002
  -- ★ slot 1's Right is then 0x0000000100000002
  pub first-right : get_or two.tables.rights 1 0 ≡ 0x0000000100000002
  -- ★ a left pop from those two: 4 steps
  pub left_pop : outcomes two (pop 0 0 ∷ steps (replicate 4 0)) ≡ at 1 ∷ at 3 ∷ at 4 ∷ at 11 ∷ got 1 700 ∷ []
  -- ★ pop of a single label: 3 steps
  pub single_pop : outcomes one (pop 0 1 ∷ steps (replicate 3 0)) ≡ at 1 ∷ at 2 ∷ at 11 ∷ got 1 700 ∷ []
  -- ★ left pop (task 0) and right pop (task 1) on one label, steps 0 1 0 1 0 1: task 0 gets it, task 1 answers empty. (#106: at its second
  -- step, and its third is refused 31.)
  pub race : outcomes one (pop 0 0 ∷ pop 1 1 ∷ steps (0 ∷ 1 ∷ 0 ∷ 1 ∷ 0 ∷ 1 ∷ []))
      ≡ at 1 ∷ at 1 ∷ at 2 ∷ at 2 ∷ at 11 ∷ Moved Empty ∷ got 1 700 ∷ Refused 31 ∷ []
  -- ★ start at tag 4,294,967,262 accepted, at 4,294,967,263 refused 33
  pub push_at_last_tag : outcomes (fresh 4294967262) (push 0 1 1 700 ∷ []) ≡ at 1 ∷ []
  pub push_past_it : outcomes (fresh 4294967263) (push 0 1 1 700 ∷ []) ≡ Refused 33 ∷ []
  pub pop_at_last_tag : outcomes (fresh 4294967262) (pop 0 1 ∷ []) ≡ at 1 ∷ []
  pub pop_past_it : outcomes (fresh 4294967263) (pop 0 1 ∷ []) ≡ Refused 33 ∷ []

pub bench : Table
unfolding open_as opened open_refusal run final act act_on push_start pop_start step finish start_refusal step_refusal step_sound move at1 at2 at3 new4 at4
    at5 at6 at7 at9 at10 at11 reading side_of row link_side anchor_sound link_sound control_sound record_sound rows_fit push_route pop_route route onward
    answer goes counted
bench = record {
  packs_stable = refl;
  packs_pushing = refl;
  pop_on_empty = refl;
  push_on_empty = refl;
  second_push = refl;
  second-anchor = refl;
  first-right = refl;
  left_pop = refl;
  single_pop = refl;
  race = refl;
  push_at_last_tag = refl;
  push_past_it = refl;
  pop_at_last_tag = refl;
  pop_past_it = refl;
}
