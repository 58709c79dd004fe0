-- What an instruction must show (Goal): one that decides nothing (quietly), one that decides (turning, deciding).
use mathlib.Core.{Path.{◌≡◌, refl, ap, sym, subst, ◌∙◌}, Bool.{Bool, false, cond}, List.{List, [], ◌∷◌, ◌++◌}}
use Prim.Native.Nat.{ℕ, ◌<◌}
use native.Mathlib.Omega.{arith}
use lib.{Dec.eqb, ListN.{length, get_or, set, length-set}, Seq.{get_or-set_same, get_or-set_other}}
use borrow.Author.Tests.{eqb-true, eqb-false, eq-eqb}
use Rattle.model.specs.Outcomes.{Outcome, Refused}
use Rattle.model.specs.{declared.{Record.Record, Op.Op}, Places.row, Lists.All}
use Rattle.model.specs.{Tables.{Tables, Queue, task_at, record_at, marked, unused}, History.Event}
use Rattle.model.{specs.Calls.{Acted, Done, act, back}, proofs.{Tests.Truth.split, Invariant.Owners.held}}
use Rattle.threads_model.specs.{Split.plan, Turns.{Turn, take_early, run_turns, final_turns}}
use Rattle.threads_model.specs.Instructions.{Hand, free, begun, loaded, knows, claims, looks, labels, marks, ends}
use Rattle.threads_model.specs.Instructions.{Ticked, quiet, decided, written, told_at_end}
use Rattle.threads_model.specs.Crew.{Crew, with_hand, turns_of, outcomes_of, owed}
use Rattle.threads.specs.Promises.{record_of, OwesLabel, OwesMark}
use Rattle.threads.proofs.{Follow.{Overlay.overlay, Plans.says, Good.Good}, Lists.EarlyPush.shown}
use Rattle.threads.proofs.Follow.Relation.{Extra, Holds, Moment, Sim, Wrote, none, one}
use Rattle.threads.proofs.Follow.Good as own

module _ (now : Moment) where
  abbrev tasks : ℕ
  tasks = now.tasks

  abbrev pooled : ℕ
  pooled = now.pooled

  abbrev slots : ℕ
  slots = now.slots

  abbrev m : Crew
  m = now.crew

  abbrev q : Queue
  q = now.queue

  abbrev f : Sim now.tasks now.pooled now.slots now.crew now.queue
  f = now.sim

  abbrev g : Good now.tasks now.pooled now.slots now.queue
  g = now.good

  abbrev t : ℕ
  t = now.thread

  abbrev lt : now.thread < now.tasks
  lt = now.known

  abbrev T : Tables
  T = now.crew.queue.tables

  abbrev G : Tables
  G = now.queue.tables

  abbrev r : Record
  r = task_at now.crew.queue now.thread

  abbrev pub after : Tables → Record → Hand → Crew
  after T' r' k = record { queue = record { tables = T'; records = set m.queue.records t r' }; hands = with_hand m.hands t k }

  low : t < length m.queue.records
  low = let z = own.records-long tasks pooled slots q g in let w = g.count in let v = f.long in omega (arith, z, w, v, lt)

  -- What nobody owes after the instruction, nobody else owed before.
  module _ (O : Hand → ℕ → Type 0) (k : Hand) (x : ℕ) where
    pub before : (O (m.hands t) x → ⊥) → ((u : ℕ) → O (with_hand m.hands t k u) x → ⊥) → (u : ℕ) → O (m.hands u) x → ⊥
    before mine never u o = split (eqb u t)
        (λ e. mine (subst (λ (u : ℕ). O (m.hands u) x) (eqb-true u t e) o))
        (λ e. never u (subst (λ (b : Bool). O (cond b k (m.hands u)) x) (sym e) o))

    pub own_owed : ((u : ℕ) → O (with_hand m.hands t k u) x → ⊥) → O k x → ⊥
    own_owed never o = never t (subst (λ (b : Bool). O (cond b k (m.hands t)) x) (sym (eq-eqb t t refl)) o)

  pub record Next (T' : Tables) (r' : Record) (k : Hand) (q' : Queue) : Type 0 where
    pub rest : T' ≡ overlay q'.tables T'.labels T'.marks
    pub labels-long : length T'.labels ≡ length q'.tables.labels
    pub marks-long : length T'.marks ≡ length q'.tables.marks
    pub labels : (x : ℕ) → ((u : ℕ) → OwesLabel (with_hand m.hands t k u) x → ⊥) → get_or T'.labels x 0 ≡ get_or q'.tables.labels x 0
    pub marks : (x : ℕ) → ((u : ℕ) → OwesMark (with_hand m.hands t k u) x → ⊥) → marked T'.marks x ≡ marked q'.tables.marks x
    pub long : length m.queue.records ≡ length q'.records
    pub task : record_of k r' ≡ task_at q' t
    pub extra : Extra tasks pooled slots t r' q'.tables.labels k
    pub others : (u : ℕ) → (u ≡ t → ⊥) → task_at q' u ≡ task_at q u
    pub kept : (u : ℕ) → (u ≡ t → ⊥) → (k : Hand) → m.hands u ≡ k → Extra tasks pooled slots u (task_at m.queue u) G.labels k
        → Extra tasks pooled slots u (task_at m.queue u) q'.tables.labels k

  pub build : (T' : Tables) (r' : Record) (k : Hand) (q' : Queue) → Next T' r' k q' → Sim tasks pooled slots (after T' r' k) q'
  build T' r' k q' n = record {
    rest = n.rest;
    labels-long = n.labels-long;
    marks-long = n.marks-long;
    labels = n.labels;
    marks = n.marks;
    long = length-set m.queue.records t r' ∙ n.long;
    records = λ u. split (eqb u t)
        (λ e. subst (λ (u : ℕ). record_of (with_hand m.hands t k u) (get_or (set m.queue.records t r') u unused) ≡ task_at q' u) (sym (eqb-true u t e))
        (subst (λ (b : Bool). record_of (cond b k (m.hands t)) (get_or (set m.queue.records t r') t unused) ≡ task_at q' t) (sym (eq-eqb t t refl))
        (subst (λ (r : Record). record_of k r ≡ task_at q' t) (sym (get_or-set_same m.queue.records t r' unused low)) n.task)))
        (λ e. subst (λ (b : Bool). record_of (cond b k (m.hands u)) (get_or (set m.queue.records t r') u unused) ≡ task_at q' u) (sym e)
        (subst (λ (r : Record). record_of (m.hands u) r ≡ task_at q' u) (sym (get_or-set_other m.queue.records t u r' unused (eqb-false u t e)))
        (f.records u ∙ sym (n.others u (eqb-false u t e)))));
    extra = λ u. split (eqb u t)
        (λ e. subst (λ (u : ℕ). Extra tasks pooled slots u (get_or (set m.queue.records t r') u unused) q'.tables.labels (with_hand m.hands t k u))
        (sym (eqb-true u t e))
        (subst (λ (b : Bool). Extra tasks pooled slots t (get_or (set m.queue.records t r') t unused) q'.tables.labels (cond b k (m.hands t)))
        (sym (eq-eqb t t refl))
        (subst (λ (r : Record). Extra tasks pooled slots t r q'.tables.labels k) (sym (get_or-set_same m.queue.records t r' unused low)) n.extra)))
        (λ e. subst (λ (b : Bool). Extra tasks pooled slots u (get_or (set m.queue.records t r') u unused) q'.tables.labels (cond b k (m.hands u)))
        (sym e)
        (subst (λ (r : Record). Extra tasks pooled slots u r q'.tables.labels (m.hands u))
        (sym (get_or-set_other m.queue.records t u r' unused (eqb-false u t e)))
        (n.kept u (eqb-false u t e) (m.hands u) refl (f.extra u))));
  }

  -- What an instruction must show: the tables as of the list, and what is owed to the thread.
  pub record Goal (k₀ : Hand) (k : Ticked) : Type 0 where
    pub sim : Sim tasks pooled slots (after k.tables (written k₀ r) k.hand) (final_turns q (turns_of t k))
    pub owes : owed k₀ ++ outcomes_of t (run_turns q (turns_of t k)) ≡ told_at_end k₀ ++ owed k.hand
    pub good : Good tasks pooled slots (final_turns q (turns_of t k))
    pub sound : All (λ (e : Event). e.outcome ≡ Refused 34 → ⊥) (run_turns q (turns_of t k))

  -- An instruction that decides nothing.
  pub quietly : (k₀ : Hand) (T' : Tables) (k : Hand) → owed k₀ ≡ told_at_end k₀ ++ owed k → Next T' (written k₀ r) k q → Goal k₀ (quiet T' k)
  unfolding run_turns final_turns outcomes_of
  quietly k₀ T' k e n = record { sim = build T' (written k₀ r) k q n; owes = append_none (owed k₀) ∙ e; good = g; sound = tt }
    where
      append_none : (l : List Outcome) → l ++ [] ≡ l
      append_none [] = refl
      append_none (x ∷ l) = ap (λ (l : List Outcome). x ∷ l) (append_none l)

  -- Where a hand's facts don't depend on the labels, they stay.
  pub stays : (u : ℕ) → (u ≡ t → ⊥) → (k : Hand) → m.hands u ≡ k → Extra tasks pooled slots u (task_at m.queue u) G.labels k
      → Extra tasks pooled slots u (task_at m.queue u) G.labels k
  stays u ne k e z = z

  abbrev pub turn : Op → Bool → Turn
  turn op early = record { task = t; op = op; early = early }

  module _ (op : Op) (early : Bool) (a : Acted) (is : take_early q (turn op early) ≡ back q t a)
      (kept : Good tasks pooled slots (take_early q (turn op early)).queue) (never : (take_early q (turn op early)).outcome ≡ Refused 34 → ⊥) where
    abbrev q' : Queue
    q' = (back q t a).queue

    good : Good tasks pooled slots q'
    good = subst (λ (d : Done). Good tasks pooled slots d.queue) is kept

    low' : t < length q.records
    low' = subst (λ (n : ℕ). t < n) f.long low

    put-task : task_at q' t ≡ a.task
    put-task = get_or-set_same q.records t a.task unused low'

    other_task : (u : ℕ) → (u ≡ t → ⊥) → task_at q' u ≡ task_at q u
    other_task u ne = get_or-set_other q.records t u a.task unused ne

    -- A label that another has read at 11 stays.
    read_stays : Wrote G.labels a → (u : ℕ) → u < tasks → (u ≡ t → ⊥) → m.hands u ≡ m.hands u → task_at m.queue u ≡ task_at q u
        → (plan pooled slots (task_at m.queue u).call).act ≡ 6
        → get_or a.tables.labels (plan pooled slots (task_at m.queue u).call).slot 0 ≡ get_or G.labels
        (plan pooled slots (task_at m.queue u).call).slot 0
    read_stays (none e) u lu ne _ same six = ap (λ (l : List ℕ). get_or l (plan pooled slots (task_at m.queue u).call).slot 0) e
    read_stays (one slot label e k) u lu ne _ same six =
        let s = (says pooled slots (task_at m.queue u).call).six six in
        let same' : task_at m.queue u ≡ task_at q' u = same ∙ sym (other_task u ne) in
        let at11 : (record_at q' u).place ≡ 11 = ap (λ (r : Record). r.call.place) (sym same') ∙ s.place in
        let hu : good.matched.inv.owner (row (record_at q' u)) ≡ held u = own.own11 tasks pooled slots q' good u lu at11 in
        let kt : Holds (task_at q' t) slot = subst (λ (r : Record). Holds r slot) (sym put-task) k in
        let is_row : (plan pooled slots (task_at m.queue u).call).slot ≡ row (record_at q' u) = s.slot ∙ ap (λ (r : Record). row r.call) same' in
        ap (λ (l : List ℕ). get_or l (plan pooled slots (task_at m.queue u).call).slot 0) e
        ∙ get_or-set_other G.labels slot (plan pooled slots (task_at m.queue u).call).slot label 0
        (λ same_slot. ne (sym (own.apart_1_11 tasks pooled slots q' good t lt u lu slot kt.place kt.kind kt.slot
        (subst (λ (x : ℕ). good.matched.inv.owner x ≡ held u) (sym is_row ∙ same_slot) hu))))

    others_stay : Wrote G.labels a → (u : ℕ) → (u ≡ t → ⊥) → (k : Hand) → m.hands u ≡ k → Extra tasks pooled slots u (task_at m.queue u) G.labels k
        → Extra tasks pooled slots u (task_at m.queue u) a.tables.labels k
    others_stay w u ne free e z = z
    others_stay w u ne (begun op) e z = z
    others_stay w u ne (loaded v) e z = z
    others_stay w u ne (knows l) e z =
        let same : task_at m.queue u ≡ task_at q u =
        subst (λ (k : Hand). record_of k (task_at m.queue u) ≡ task_at q u) e (f.records u) in
        (z.0, z.1, z.2 ∙ sym (read_stays w u z.0 ne refl same z.1))
    others_stay w u ne (claims s y l) e z = z
    others_stay w u ne (looks s y l) e z = z
    others_stay w u ne (labels both y l r p) e z = z
    others_stay w u ne (marks y r p) e z = z
    others_stay w u ne (ends r p) e z = z

    -- An instruction that decides, after which the thread has the record and owes it the outcome.
    pub record Decided (T' : Tables) (k : Hand) : Type 0 where
      pub rest : T' ≡ overlay a.tables T'.labels T'.marks
      pub labels-long : length T'.labels ≡ length a.tables.labels
      pub marks-long : length T'.marks ≡ length a.tables.marks
      pub labels : (x : ℕ) → ((u : ℕ) → OwesLabel (with_hand m.hands t k u) x → ⊥) → get_or T'.labels x 0 ≡ get_or a.tables.labels x 0
      pub marks : (x : ℕ) → ((u : ℕ) → OwesMark (with_hand m.hands t k u) x → ⊥) → marked T'.marks x ≡ marked a.tables.marks x
      pub wrote : Wrote G.labels a
      pub task : record_of k r ≡ a.task
      pub extra : Extra tasks pooled slots t r a.tables.labels k
      pub owes : owed k ≡ a.outcome ∷ []

    pub turning : (k₀ : Hand) → owed k₀ ≡ [] → told_at_end k₀ ≡ [] → written k₀ r ≡ r → (T' : Tables) (k : Hand) → Decided T' k
        → Goal k₀ (record { tables = T'; hand = k; decides = op ∷ []; early = early })
    unfolding run_turns final_turns outcomes_of
    turning k₀ o₀ t₀ w₀ T' k d =
        let turned = take_early q (turn op early) in
        record {
          sim =
              subst (λ (r : Record). Sim tasks pooled slots (after T' r k) turned.queue) (sym w₀)
              (subst (λ (x : Done). Sim tasks pooled slots (after T' r k) x.queue) (sym is)
              (build T' r k q' (record {
                rest = d.rest;
                labels-long = d.labels-long;
                marks-long = d.marks-long;
                labels = d.labels;
                marks = d.marks;
                long = f.long ∙ sym (length-set q.records t a.task);
                task = d.task ∙ sym put-task;
                extra = d.extra;
                others = other_task;
                kept = others_stay d.wrote;
              })));
          owes =
              ap (λ (l : List Outcome). l ++ outcomes_of t (shown q t op turned ∷ [])) o₀
              ∙ ap (λ (b : Bool). cond b (turned.outcome ∷ []) [] ++ []) (eq-eqb t t refl)
              ∙ ap (λ (x : Done). x.outcome ∷ []) is
              ∙ sym d.owes
              ∙ ap (λ (l : List Outcome). l ++ owed k) (sym t₀);
          good = kept;
          sound = (never, tt);
        }

  -- A start or step as ever.
  pub now-is : (op : Op) (a : Acted) → act q t op ≡ back q t a → take_early q (turn op false) ≡ back q t a
  unfolding take_early
  now-is op a is = is

  pub now_good : (op : Op) → Good tasks pooled slots (take_early q (turn op false)).queue
  unfolding take_early
  now_good op = own.good_act tasks pooled slots q t op g

  pub now-never : (op : Op) → (take_early q (turn op false)).outcome ≡ Refused 34 → ⊥
  unfolding take_early
  now-never op = own.act-never tasks pooled slots q t op g

  pub deciding : (op : Op) (a : Acted) (is : act q t op ≡ back q t a) (k₀ : Hand) → owed k₀ ≡ [] → told_at_end k₀ ≡ [] → written k₀ r ≡ r
      → (T' : Tables) (k : Hand) → Decided op false a (now-is op a is) (now_good op) (now-never op) T' k → Goal k₀ (decided op T' k)
  deciding op a is = turning op false a (now-is op a is) (now_good op) (now-never op)
