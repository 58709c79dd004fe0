-- Histories with joinings among openings, starts, steps, savings and returns. (Document 02, #113 and #114.)
use mathlib.Core.{Bool.{Bool, true, false, ◌&&◌, cond, not}, Path.◌≡◌, List.{List, [], ◌∷◌, ◌++◌}}
use Rattle.std.specs.Prelude.{ℕ, ◌≤◌, eqb}
use Rattle.model.specs.{Tables.{Queue, is_pooled}, History.{Event, Request, run}}
use Rattle.model.specs.Progress.{any, steps, stretch_limit, took_effect_or_answered}
use Rattle.join_model.specs.Join.{join, join_refusal, lanes, pushes}
use Rattle.shelf_model.specs.Changeovers.{Past, Turn, Unfilled, World, breaks, station, turned, with_event}
use Rattle.shelf_model.specs.Promises.{Kept}

-- What may be done: a turn of one queue, or the joining of two queues in a third.
pub data Deed : Type 0 where
  turns : Turn → Deed
  joins : (first second third : ℕ) → Deed

-- The past of queue q with more requests.
abbrev pub goes_on : Past → Queue → List Request → Past
goes_on p q os = record { made = p.made; opened = p.opened; since = p.since ++ os; events = p.events ++ run q os }

-- Queue k with the labels of queues i and j: its past counts them as pushed at the joining, if that is accepted. Nothing else changes.
unfoldable pub joined_in : World → ℕ → ℕ → ℕ → World
joined_in w i j k =
    let a = w.queues i in
    let b = w.queues j in
    let q = w.queues k in
    record {
      queues = λ n. cond (eqb n k) (join a b q).third (w.queues n);
      pasts = λ n. cond (eqb n k && eqb (join_refusal a b q) 0) (goes_on (w.pasts n) q (pushes 1 (lanes a b))) (w.pasts n);
      shelves = w.shelves;
      stored = w.stored;
    }

abbrev pub after_one : World → Deed → World
after_one w (turns t) = turned w t
after_one w (joins i j k) = joined_in w i j k

unfoldable pub after_all : World → List Deed → World
after_all w [] = w
after_all w (d ∷ l) = after_all (after_one w d) l

-- Another queue i stands there afterwards: an opening or a return that is accepted. No joining ends a stretch, not even
-- one that fills queue i.
abbrev pub replaces : ℕ → World → Deed → Bool
replaces i w (turns t) = eqb i t.queue && breaks (station w i) t.action
replaces i w (joins j k third) = false

-- A stretch of queue i with joinings in it, of any queues.
unfoldable pub continuous : ℕ → World → List Deed → Bool
continuous i w [] = true
continuous i w (d ∷ l) = not (replaces i w d) && continuous i (after_one w d) l

-- The events of queue i's starts and steps in it: a joining is none of them.
abbrev pub with_deed : ℕ → World → Deed → List Event → List Event
with_deed i w (turns t) es = cond (eqb i t.queue) (with_event (w.queues i) t.action es) es
with_deed i w (joins j k third) es = es

unfoldable pub events_in : ℕ → World → List Deed → List Event
events_in i w [] = []
events_in i w (d ∷ l) = with_deed i w d (events_in i (after_one w d) l)

-- The promises, and #108's stretch with joinings in it.
pub record KeptJoining (w : World) : Type 0 where
  pub kept : Kept w
  pub stretch : (i : ℕ) → (w.pasts i).made ≡ true → let c = (w.queues i).tables.control in
      (l : List Deed) → continuous i w l ≡ true → stretch_limit (is_pooled c) c.tasks ≤ steps (events_in i w l)
      → any took_effect_or_answered (events_in i w l) ≡ true

-- They hold with joinings among the turns.
abbrev pub JoinsKept : Type 0
JoinsKept = (w : World) → Unfilled w.shelves → ((i : ℕ) → (w.pasts i).made ≡ false) → (l : List Deed) → KeptJoining (after_all w l)
