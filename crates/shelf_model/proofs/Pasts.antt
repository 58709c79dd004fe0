-- A queue, and a past that leaves it: what holds after every accepted opening holds of both.
use mathlib.Core.{Bool.{true, ◌&&◌, cond}, List.{List, [], ◌∷◌, ◌++◌, map}, Path.{◌≡◌, ◌∙◌, ap, ap₂, refl, subst, sym}}
use Prim.Native.Nat.{ℕ, zero, suc, ◌+◌, ◌<◌, ◌≤◌}
use native.Mathlib.Omega.{arith}
use lib.{Dec.eqb, ListN.length}
use Rattle.model.specs.Outcomes.{Refused}
use Rattle.model.specs.{declared.{Control.Control, Entry.Entry, Record.Record}, Calls.act}
use Rattle.model.specs.{Tables.{Queue, is_pooled, task_at}, Sound.control_sound, Retries.retries_below, Standing.Standing}
use Rattle.model.specs.{Walk.{Walk, contents, entries, met}, History.{NoFreeSlotTrue, Taken}, Lists.{All, copies}}
use Rattle.model.specs.History.{AfterOpeningAs, LedgerCall, Ending, Event, Lawful, Linearized, NeverUnsound, Request}
use Rattle.model.specs.History.{answered, final, is_open, ledger, pending, run, MarkedIn, MarkedWhile, NoFreeSlotIn}
use Rattle.model.specs.Neighbours.{NeighboursIn, NeighboursJoined}
use Rattle.model.proofs.{Laws.Sizes.{Sizes, act_sizes, fits, sizes}, Linearizable.linearizable, LinksBack.links-back}
use Rattle.model.proofs.{MarksRight.marks-right, Never34.never_34, NoFreeSlot.no_free_slot_either, Standing.standing}
use Rattle.stock_model.specs.Accounts.{Accounted, AccountedIn, AddedUp, Stands, StockSum, answered_labels, has_had_effect}
use Rattle.stock_model.specs.Accounts.{held_labels, pushed_labels, popped_labels, waiting_labels}
use Rattle.stock_model.proofs.Accounts.{OpenKnown, every-label, open_known, stock_taking}
use Rattle.shelf_model.specs.{Cut.cut, Changeovers.{Explained, FromOpening, Past}}
use Rattle.shelf_model.proofs.{Lists.enough_take, Cut.fits_cut, Stretches.task-cut, Neighbours.neighbours_alike}
use Rattle.shelf_model.proofs.{CutCalls.{contents-cut, run-cut}, InUse.{marks_alike, no_free_slot_alike}}

below_cut : (q : Queue) (n : ℕ) → n ≤ q.tables.control.tasks → retries_below (cut q) n ≡ retries_below q n
unfolding retries_below
below_cut q zero h = refl
below_cut q (suc n) h =
    ap₂ (λ (r : Record) (k : ℕ). r.retries + k) (task-cut q n (omega arith)) (below_cut q n (omega arith))

long-cut : (q : Queue) → fits (cut q) ≡ fits q
long-cut q = ap₂ ◌&&◌ (fits_cut q.tables) (enough_take q.tables.control.tasks q.records)

-- No list changes the numbers of tasks and slots, nor the way of opening.
pub final_sizes : (os : List Request) (q : Queue) → sizes (final q os).tables ≡ sizes q.tables
unfolding final
final_sizes [] q = refl
final_sizes (o ∷ os) q = final_sizes os (act q o.task o.op).queue ∙ act_sizes q o.task o.op

pub final-tasks : (os : List Request) (q : Queue) → (final q os).tables.control.tasks ≡ q.tables.control.tasks
final-tasks os q = ap (λ (s : Sizes). s.tasks) (final_sizes os q)

final-pooled : (os : List Request) (q : Queue) → (final q os).tables.control.pooled ≡ q.tables.control.pooled
final-pooled os q = ap (λ (s : Sizes). s.pooled) (final_sizes os q)

-- The events of a list's end.
run_end : (P : Event → Type 0) (os ps : List Request) (q : Queue) → All P (run q (os ++ ps)) → All P (run (final q os) ps)
unfolding run final
run_end P [] ps q h = h
run_end P (o ∷ os) ps q h = run_end P os ps (act q o.task o.op).queue h.1

-- A queue, and a past that leaves it.
module _ (p : Past) (q : Queue) (h : Explained p q) where
  abbrev t : FromOpening p
  t = h.begun

  abbrev now : Queue
  now = final p.opened p.since

  -- What holds after every accepted opening holds of the past.
  pub past-has : (P : Queue → List Request → Type 0) → AfterOpeningAs t.pooled P → P p.opened p.since
  past-has P x =
      subst (λ (o : Queue). P o p.since) (sym t.opened) (x t.before t.tasks t.slots t.tag t.accepted p.since)

  same-control : q.tables.control ≡ now.tables.control
  same-control = ap (λ (x : Queue). x.tables.control) h.leaves

  pub same-tasks : q.tables.control.tasks ≡ now.tables.control.tasks
  same-tasks = ap (λ (c : Control). c.tasks) same-control

  same-walk : contents q.tables ≡ contents now.tables
  same-walk = sym (contents-cut q.tables) ∙ ap (λ (x : Queue). contents x.tables) h.leaves ∙ contents-cut now.tables

  pub same-run : (l : List Request) → run q l ≡ run now l
  same-run l = sym (run-cut l q) ∙ ap (λ (x : Queue). run x l) h.leaves ∙ run-cut l now

  pub same-task : (i : ℕ) → i < q.tables.control.tasks → task_at q i ≡ task_at now i
  same-task i k =
      sym (task-cut q i k) ∙ ap (λ (x : Queue). task_at x i) h.leaves ∙ task-cut now i (subst (λ n. i < n) same-tasks k)

  pub stands : Standing q (ledger p.events).deque
  stands =
      let s = past-has (λ q os. Standing (final q os) (ledger (run q os)).deque) (standing t.pooled) in
      record {
        control = subst (λ (c : Control). control_sound c ≡ true) (sym same-control) s.control;
        long = sym (long-cut q) ∙ ap fits h.leaves ∙ long-cut now ∙ s.long;
        walk = same-walk ∙ s.walk ∙ ap (λ (es : List Event). entries (ledger es).deque) (sym t.events);
      }

  pub all-served : All (λ (c : LedgerCall). Lawful c c.ending) (ledger p.events).calls
  all-served =
      subst (λ (es : List Event). All (λ (c : LedgerCall). Lawful c c.ending) (ledger es).calls) (sym t.events)
      (past-has Linearized (linearizable t.pooled)).calls

  pub operations-sound : All (λ (e : Event). e.outcome ≡ Refused 34 → ⊥) p.events
  operations-sound =
      subst (λ (es : List Event). All (λ (e : Event). e.outcome ≡ Refused 34 → ⊥) es) (sym t.events)
      (past-has NeverUnsound (never_34 t.pooled)).operations

  -- After the past any list may follow.
  pub following-sound : (os : List Request) → All (λ (e : Event). e.outcome ≡ Refused 34 → ⊥) (run q os)
  following-sound os =
      let sound = (never_34 t.pooled t.before t.tasks t.slots t.tag t.accepted (p.since ++ os)).operations in
      subst (λ (es : List Event). All (λ (e : Event). e.outcome ≡ Refused 34 → ⊥) es) (sym (same-run os))
      (run_end (λ (e : Event). e.outcome ≡ Refused 34 → ⊥) p.since os p.opened
      (subst (λ (o : Queue). All (λ (e : Event). e.outcome ≡ Refused 34 → ⊥) (run o (p.since ++ os))) (sym t.opened) sound))

  -- #104, the marks and the links between neighbours.
  pub no_free_slot_lem : NoFreeSlotIn q
  no_free_slot_lem = no_free_slot_alike now q (sym h.leaves) (past-has NoFreeSlotTrue (no_free_slot_either t.pooled))

  pub marks_true : MarkedIn Taken q
  marks_true = marks_alike now q (sym h.leaves) (past-has (MarkedWhile Taken) (marks-right t.pooled))

  pub neighbours-joined : NeighboursIn q.tables
  neighbours-joined = neighbours_alike now q (sym h.leaves) (past-has NeighboursJoined (links-back t.pooled))

  -- An open call stands in the queue where it stands after the past.
  stands_alike : (c : LedgerCall) (e : Ending) → (is_open e ≡ true → c.task < now.tables.control.tasks) → Stands now c e → Stands q c e
  stands_alike c pending k s = s ∙ ap (λ (r : Record). cond (has_had_effect c.kind r.call) 1 0)
      (sym (same-task c.task (subst (λ n. c.task < n) (sym same-tasks) (k refl))))
  stands_alike c (answered n a) k s = tt

  all_alike : (cs : List LedgerCall) → All (λ (c : LedgerCall). is_open c.ending ≡ true → c.task < now.tables.control.tasks) cs
      → All (λ (c : LedgerCall). Stands now c c.ending) cs → All (λ (c : LedgerCall). Stands q c c.ending) cs
  all_alike [] k s = tt
  all_alike (c ∷ cs) k s = (stands_alike c c.ending k.0 s.0, all_alike cs k.1 s.1)

  same-waiting : waiting_labels now.tables ≡ waiting_labels q.tables
  same-waiting = ap (λ (v : Walk). map (λ (e : Entry). e.label) (met v)) (sym same-walk)

  pub accounts : AccountedIn p.events q
  accounts =
      let a = past-has Accounted (every-label t.pooled) in
      let k = past-has OpenKnown (open_known t.pooled) in
      let cs = (ledger (run p.opened p.since)).calls in
      subst (λ (es : List Event). AccountedIn es q) (sym t.events) (record {
        every_push = λ x. subst (λ (l : List ℕ). copies x (pushed_labels cs) ≡ copies x (popped_labels cs) + copies x l) same-waiting (a.every_push x);
        every_pop = a.every_pop;
        stands = all_alike cs k a.stands;
      })

  pub adds_up : AddedUp p.events q
  adds_up =
      let cs = (ledger (run p.opened p.since)).calls in
      subst (λ (es : List Event). AddedUp es q) (sym t.events)
      (subst (λ (l : List ℕ). length (pushed_labels cs) ≡ length (answered_labels cs) + length (held_labels cs) + length l) same-waiting
      (past-has StockSum (stock_taking t.pooled)))

  pub counts : retries_below q q.tables.control.tasks ≡ retries_below now now.tables.control.tasks
  counts =
      sym (below_cut q q.tables.control.tasks (omega arith))
      ∙ ap (λ (x : Queue). retries_below x x.tables.control.tasks) h.leaves
      ∙ below_cut now now.tables.control.tasks (omega arith)

  pub same-pooled : is_pooled q.tables.control ≡ is_pooled p.opened.tables.control
  same-pooled = ap (λ (n : ℕ). eqb n 1) (ap (λ (c : Control). c.pooled) same-control ∙ final-pooled p.since p.opened)
