-- When no thread is in a call the memory is the list's queue, mark by mark; so what is kept of the one is kept of the other.
use mathlib.Core.{Path.{◌≡◌, ap, fun_ext, sym, subst, ◌∙◌}, Bool.{◌&&◌, ◌||◌, not}, List.{List, [], ◌∷◌}}
use Prim.Native.Nat.{ℕ, ◌/◌}
use lib.{Dec.{leb, ltb}, ListN.length, Seq.ext_get_or}
use Rattle.model.specs.{declared.Control.Control, Tables.{Queue, Tables, is_pooled, marked, task_at, unused, with_marks}}
use Rattle.model.specs.{Sound.rows_fit, History.{Event, Ledger, ledger}, Lists.{All, every}}
use Rattle.model.proofs.{Bridge.{Facts.LinksFine, View.{state_of, view}}, Machine.Machine.{Shared, State}}
use Rattle.model.proofs.{Invariant.{Invariant.Inv, Tags.Tags}, Ledger.Matched.Matched, Unsound.Safe.Safe}
use Rattle.model.proofs.Laws.Sizes as sizes
use Rattle.threads_model.specs.{Turns.final_turns, Instructions.{Hand, free}}
use Rattle.threads_model.specs.Crew.{Act, Crew, Known, all_free, go_on, turns}
use Rattle.threads.specs.{Promises.{OwesLabel, OwesMark, Rest, record_of, seen_of}, Consequences.SameQueue}
use Rattle.threads.proofs.{Follow.{Overlay.overlay, Relation.Sim}, Lists.EarlyPush.after, Run.runs_on}
use Rattle.threads.proofs.Kept.{Kept, kept-turns}

-- Links and nexts are what they are, whatever the labels and marks.
pub over_fine : (q : Tables) (l k : List ℕ) → LinksFine q → LinksFine (overlay q l k)
over_fine q l k f = record { spare = f.spare; tag = f.tag; slot = f.slot; next = f.next; head = f.head }

-- The tables are as long as the list's.
pub same-fits : (tasks pooled slots : ℕ) (m : Crew) (q : Queue) → Sim tasks pooled slots m q → sizes.fits m.queue ≡ sizes.fits q
unfolding rows_fit
same-fits tasks pooled slots m q f =
    let G = q.tables in
    ap (λ (X : Tables). sizes.fits (record { tables = X; records = m.queue.records })) f.rest
    ∙ (λ i. every (ltb G.control.slots (length G.lefts) ∷ ltb G.control.slots (length G.rights)
    ∷ ltb G.control.slots (f.labels-long i) ∷ ltb (G.control.slots / 64) (f.marks-long i)
    ∷ (not (is_pooled G.control) || ltb G.control.slots (length G.next)) ∷ [])
    && leb G.control.tasks (f.long i))

-- Nobody owes anything.
rests : (tasks pooled slots : ℕ) (m : Crew) (q : Queue) → Sim tasks pooled slots m q → ((t : ℕ) → m.hands t ≡ free) → SameQueue m.queue q
rests tasks pooled slots m q f idle =
    let T = m.queue.tables in
    let G = q.tables in
    let labels : T.labels ≡ G.labels =
    ext_get_or 0 T.labels G.labels f.labels-long (λ x _. f.labels x (λ t o. subst (λ (k : Hand). OwesLabel k x) (idle t) o)) in
    record {
      tables = f.rest ∙ ap (λ (l : List ℕ). overlay G l T.marks) labels;
      marks = λ x. f.marks x (λ t o. subst (λ (k : Hand). OwesMark k x) (idle t) o);
      records = ext_get_or unused m.queue.records q.records f.long
          (λ t _. subst (λ (k : Hand). record_of k (task_at m.queue t) ≡ task_at q t) (idle t) (f.records t));
    }

-- A queue whose mark words are others, with the same marks: the invariant sees the marks alone.
module _ (q : Queue) (k : List ℕ) (same : (x : ℕ) → marked k x ≡ marked q.tables.marks x) where
  abbrev p : Queue
  p = record { tables = with_marks q.tables k; records = q.records }

  view_same : view (with_marks q.tables k) ≡ view q.tables
  unfolding view
  view_same = let v = view q.tables in λ i. record {
    slots = v.slots;
    pooled = v.pooled;
    anchor = v.anchor;
    head = v.head;
    link = v.link;
    next = v.next;
    label = v.label;
    mark = fun_ext same i;
  }

  state_same : state_of p ≡ state_of q
  unfolding state_of
  state_same = ap (λ (s : Shared). record { shared = s; task = (state_of q).task }) view_same

  matched_same : (n : ℕ) (l : Ledger) → Matched n q l → Matched n p l
  unfolding state_of
  matched_same n l g = record {
    book = g.book;
    inv = subst (λ (s : State). Inv (record { state = s; book = g.book })) (sym state_same) g.inv;
    links = over_fine q.tables q.tables.labels k g.links;
    deque = g.deque;
    tracks = g.tracks;
    busy = g.busy;
  }

  safe_same : Safe q → Safe p
  unfolding state_of view
  safe_same s = record { control = s.control; fine = s.fine; extra = s.extra; tags = subst Tags (sym view_same) s.tags; bound = s.bound; head = s.head }

-- At rest what is kept of the list's queue is kept of the memory.
module _ (tasks pooled slots : ℕ) (past : List Event) (q : Queue) (k : Kept tasks pooled slots past q) (l : List Act) (h : All (Known tasks) l)
    (idle : Rest pooled slots q l) where
  abbrev m : Crew
  m = go_on pooled slots (all_free q) l

  abbrev end : Queue
  end = final_turns q (turns pooled slots (all_free q) l)

  abbrev es : List Event
  es = seen_of past pooled slots q l

  sim : Sim tasks pooled slots m end
  sim = (runs_on tasks pooled slots q k.good l h).sim

  pub same : SameQueue m.queue end
  same = rests tasks pooled slots m end sim idle

  pub kept-rest : Kept tasks pooled slots es m.queue
  kept-rest =
      let z = kept-turns tasks pooled slots past q k l h in
      let ms = m.queue.tables.marks in
      let is : record { tables = with_marks end.tables ms; records = end.records } ≡ m.queue =
      λ i. record { tables = sym same.tables i; records = sym same.records i } in
      let g = subst (λ (x : Queue). Matched (after 1 es) x (ledger es)) is (matched_same end ms same.marks (after 1 es) (ledger es) z.matched) in
      let control = ap (λ (x : Tables). x.control) same.tables in
      record {
        matched = g;
        good = record {
          position = after 1 es;
          ledger = ledger es;
          matched = g;
          safe = subst Safe is (safe_same end ms same.marks z.good.safe);
          long = same-fits tasks pooled slots m end sim ∙ z.good.long;
          count = ap (λ (c : Control). c.tasks) control ∙ z.good.count;
          pool = ap (λ (c : Control). c.pooled) control ∙ z.good.pool;
          size = ap (λ (c : Control). c.slots) control ∙ z.good.size;
        };
      }
