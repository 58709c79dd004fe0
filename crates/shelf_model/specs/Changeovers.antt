-- Histories with openings, savings and returns. (Document 02, #109.)
use mathlib.Core.{Path.◌≡◌, Logic.◌≢◌, Bool.{Bool, true, false, ◌&&◌, cond, not}, List.{List, [], ◌∷◌, ◌++◌}}
use Rattle.std.specs.Prelude.{ℕ, ◌≤◌}
use lib.{Dec.eqb, ListN.get_or}
use Rattle.model.specs.Outcomes.{Opened}
use Rattle.model.specs.{Tables.Queue, Sound.control_sound, Refusals.open_refusal}
use Rattle.model.specs.{Calls.{open_as, act}, History.{Request, Event, run, final}}
use Rattle.shelf_model.specs.Cut.{cut}
use Rattle.shelf_model.specs.Shelves.{Shelves, shelf_at, unfilled, save_refusal, saved, return_refusal, returned}

-- What may be asked, with any numbers.
pub data Action : Type 0 where
  opens : (pooled : Bool) (tasks slots tag : ℕ) → Action
  asks : Request → Action
  saves returns : (shelf : ℕ) → Action

-- The history that a queue stands for: the queue right after its opening, the requests since, and their events. What lies in lent tables
-- before any opening or return is not made, and has none.
pub record Past : Type 0 where
  pub made : Bool
  pub opened : Queue
  pub since : List Request
  pub events : List Event

-- A queue's tables and the shelves, and beside them the queue's past and the past of what lies on each shelf.
pub record Station : Type 0 where
  pub queue : Queue
  pub shelves : Shelves
  pub past : Past
  pub stored : ℕ → Past

-- An accepted opening begins a past.
abbrev pub begins : Queue → Past
begins q = record { made = true; opened = q; since = []; events = [] }

-- The event of a request, as `run` tells it.
abbrev pub event_of : Queue → Request → Event
event_of q o =
    let d = act q o.task o.op in
    record {
      task = o.task;
      op = o.op;
      outcome = d.outcome;
      before = q.tables.control.anchor;
      after = d.queue.tables.control.anchor;
    }

-- A start or step, refused or not, belongs to the past.
abbrev pub continues : Past → Queue → Request → Past
continues p q o = record { made = p.made; opened = p.opened; since = p.since ++ (o ∷ []); events = p.events ++ (event_of q o ∷ []) }

-- A saving stores the past with the shelf, and a return takes the stored one back: answers given between belong to no history.
unfoldable pub does : Station → Action → Station
does w (opens pooled tasks slots tag) =
    let d = open_as pooled w.queue tasks slots tag in
    record {
      queue = d.queue;
      shelves = w.shelves;
      past = cond (eqb (open_refusal pooled w.queue tasks slots) 0) (begins d.queue) w.past;
      stored = w.stored;
    }
does w (asks o) = record {
  queue = (act w.queue o.task o.op).queue;
  shelves = w.shelves;
  past = continues w.past w.queue o;
  stored = w.stored;
}
does w (saves n) = record {
  queue = w.queue;
  shelves = saved w.queue w.shelves n;
  past = w.past;
  stored = λ m. cond (eqb (save_refusal w.queue w.shelves n) 0 && eqb m n) w.past (w.stored m);
}
does w (returns n) = record {
  queue = returned w.queue w.shelves n;
  shelves = w.shelves;
  past = cond (eqb (return_refusal w.queue w.shelves n) 0) (w.stored n) w.past;
  stored = w.stored;
}

-- Several queues, numbered, each in tables of its own, share the shelves.
pub record World : Type 0 where
  pub queues : ℕ → Queue
  pub pasts : ℕ → Past
  pub shelves : Shelves
  pub stored : ℕ → Past

abbrev pub station : World → ℕ → Station
station w i = record { queue = w.queues i; shelves = w.shelves; past = w.pasts i; stored = w.stored }

-- An action of queue i.
pub record Turn : Type 0 where
  pub queue : ℕ
  pub action : Action

unfoldable pub turned : World → Turn → World
turned w t =
    let s = does (station w t.queue) t.action in
    record {
      queues = λ i. cond (eqb i t.queue) s.queue (w.queues i);
      pasts = λ i. cond (eqb i t.queue) s.past (w.pasts i);
      shelves = s.shelves;
      stored = s.stored;
    }

-- A list of them, each on what the last left.
unfoldable pub after : World → List Turn → World
after w [] = w
after w (t ∷ l) = after (turned w t) l

-- Another queue stands there afterwards: an opening or a return that is accepted.
abbrev pub breaks : Station → Action → Bool
breaks s (opens pooled tasks slots tag) = eqb (open_refusal pooled s.queue tasks slots) 0
breaks s (asks o) = false
breaks s (saves n) = false
breaks s (returns n) = eqb (return_refusal s.queue s.shelves n) 0

-- A stretch of queue i: no opening of it and no return to it is accepted. Savings may be in it, refused actions, and whatever other queues do.
unfoldable pub unbroken : ℕ → World → List Turn → Bool
unbroken i w [] = true
unbroken i w (t ∷ l) = not (eqb i t.queue && breaks (station w i) t.action) && unbroken i (turned w t) l

-- The events of queue i's starts and steps in it.
abbrev pub with_event : Queue → Action → List Event → List Event
with_event q (opens pooled tasks slots tag) es = es
with_event q (asks o) es = event_of q o ∷ es
with_event q (saves n) es = es
with_event q (returns n) es = es

unfoldable pub events_of : ℕ → World → List Turn → List Event
events_of i w [] = []
events_of i w (t ∷ l) = let es = events_of i (turned w t) l in cond (eqb i t.queue) (with_event (w.queues i) t.action es) es

-- A past that begins with an accepted opening and whose requests were answered as they are after it alone.
pub record FromOpening (p : Past) : Type 0 where
  pub pooled : Bool
  pub before : Queue
  pub tasks : ℕ
  pub slots : ℕ
  pub tag : ℕ
  pub accepted : (open_as pooled before tasks slots tag).outcome ≡ Opened
  pub opened : p.opened ≡ (open_as pooled before tasks slots tag).queue
  pub events : p.events ≡ run p.opened p.since

-- A queue is, within its lengths, what its past leaves.
abbrev pub StandsAfter : Past → Queue → Type 0
StandsAfter p q = cut q ≡ cut (final p.opened p.since)

-- A queue has a past that begins with an accepted opening and that leaves it.
pub record Explained (p : Past) (q : Queue) : Type 0 where
  pub begun : FromOpening p
  pub leaves : StandsAfter p q

-- Every queue that is made has one, and so has every queue on a filled shelf that was made when it was saved. A filled shelf is sound.
pub record Holds (w : World) : Type 0 where
  pub now : (i : ℕ) → (w.pasts i).made ≡ true → Explained (w.pasts i) (w.queues i)
  pub shelved : (n : ℕ) → n ≤ 7 → (shelf_at w.shelves n).tables.control.tasks ≢ 0 → (w.stored n).made ≡ true
      → Explained (w.stored n) (shelf_at w.shelves n)
  pub sound : (n : ℕ) → n ≤ 7 → (shelf_at w.shelves n).tables.control.tasks ≢ 0 → control_sound (shelf_at w.shelves n).tables.control ≡ true

-- Shelves are first lent with every entry zero; of these the tasks matter.
abbrev pub Unfilled : Shelves → Type 0
Unfilled s = (n : ℕ) → (get_or s.controls n unfilled).tasks ≡ 0

-- After any list of turns, with any tables of which nothing is made yet, and shelves first unfilled. (What past stands beside these may be any.)
abbrev pub AfterTurns : (World → Type 0) → Type 0
AfterTurns P = (w : World) → Unfilled w.shelves → ((i : ℕ) → (w.pasts i).made ≡ false) → (l : List Turn) → P (after w l)

abbrev pub Changeovers : Type 0
Changeovers = AfterTurns Holds

-- A turn of queue i.
abbrev pub by_one : World → ℕ → Action → World
by_one w i a = turned w (record { queue = i; action = a })

-- A queue is made by an accepted opening, or by an accepted return to what was made when it was saved. A start or step keeps what is made, and
-- so does whatever other queues do.
pub record Making (w : World) (i : ℕ) : Type 0 where
  pub opening : (pooled : Bool) (tasks slots tag : ℕ) → open_refusal pooled (w.queues i) tasks slots ≡ 0
      → ((by_one w i (opens pooled tasks slots tag)).pasts i).made ≡ true
  pub request : (o : Request) → ((by_one w i (asks o)).pasts i).made ≡ (w.pasts i).made
  pub saving : (n : ℕ) → save_refusal (w.queues i) w.shelves n ≡ 0
      → (((by_one w i (saves n)).pasts i).made ≡ (w.pasts i).made) × (((by_one w i (saves n)).stored n).made ≡ (w.pasts i).made)
  pub returning : (n : ℕ) → return_refusal (w.queues i) w.shelves n ≡ 0 → ((by_one w i (returns n)).pasts i).made ≡ (w.stored n).made
  pub others : (t : Turn) → i ≢ t.queue → ((turned w t).pasts i ≡ w.pasts i) × ((turned w t).queues i ≡ w.queues i)

abbrev pub Makings : Type 0
Makings = (w : World) (i : ℕ) → Making w i
