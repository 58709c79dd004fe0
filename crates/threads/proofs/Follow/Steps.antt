-- The instructions of a step, by its touch.
use mathlib.Core.{Path.{◌≡◌, refl, ap, sym, subst, ◌∙◌}, Bool.{Bool, true, false, cond}, List.{List, [], ◌∷◌}}
use Prim.Native.Nat.{ℕ, ◌<◌, ◌≤◌, ◌/◌}
use native.Mathlib.Omega.{arith}
use lib.{Dec.eqb, Seq.{get_or-set_other, set-get_or}, ListN.{length, get_or, set, length-set}}
use borrow.Author.Tests.{eqb-true}
use Rattle.model.specs.{declared.{Control.Control, Record.Record, Op.TheVariants.Step}, Tables.with_taken, Places.row}
use Rattle.model.specs.Tables.{Tables, Queue, task_at, record_at, marked, linked, with_mark, with_marks, with_head, with_next}
use Rattle.model.specs.{Sides.links, Sound.link_sound, Calls.{Acted, act, back}}
use Rattle.model.proofs.{Tests.Truth.{by_test, split, and-true, not_both}, Invariant.Owners.{Owner, held}}
use Rattle.model.proofs.Bridge.{Marks.marked_other, Facts.from1_true}
use Rattle.threads_model.specs.{Split.{plan, perform, settle, split_step, Touched, Settled, on_row}, Crew.Crew}
use Rattle.threads_model.specs.{declared.PlannedTouch.PlannedTouch, Instructions.step_first}
use Rattle.threads_model.specs.Instructions.{Hand, loaded, knows, labels, ends, Ticked, quiet, decided, put_into, at_once}
use Rattle.threads_model.specs.Instructions.{is_to_put, is_as_read, loads_own, puts_own, reads_next, one_word, replaces, clears}
use Rattle.threads.proofs.{Split.Within.plans_within, Follow.Relation.{Holds, Moment, Sim, none, one}}
use Rattle.threads.proofs.Follow.Overlay.{overlay, Over, over, perform5, perform6, perform9, perform11}
use Rattle.threads.proofs.Follow.{Overlay.linked-same, Plans.{says, settle14}, Good.Good}
use Rattle.threads.specs.Promises.{OwesLabel, OwesMark}
use Rattle.threads.proofs.Follow.Good as own
use Rattle.threads.proofs.Follow.Instruction as I
use Rattle.threads.proofs.Follow.Clean as C
use Rattle.threads.proofs.Follow.Relation as R

module _ (now : Moment) where
  abbrev tasks : ℕ
  tasks = now.tasks

  abbrev pooled : ℕ
  pooled = now.pooled

  abbrev slots : ℕ
  slots = now.slots

  abbrev m : Crew
  m = now.crew

  abbrev q : Queue
  q = now.queue

  abbrev f : Sim now.tasks now.pooled now.slots now.crew now.queue
  f = now.sim

  abbrev g : Good now.tasks now.pooled now.slots now.queue
  g = now.good

  abbrev t : ℕ
  t = now.thread

  abbrev lt : now.thread < now.tasks
  lt = now.known

  abbrev T : Tables
  T = now.crew.queue.tables

  abbrev G : Tables
  G = now.queue.tables

  abbrev r : Record
  r = task_at now.crew.queue now.thread

  abbrev h : ℕ → Owner
  h = now.good.matched.inv.owner

  abbrev Goal : Hand → Ticked → Type 0
  Goal = I.Goal now

  module _ (k₀ : Hand) (c : C.Clean now k₀) where
    abbrev p : PlannedTouch
    p = plan pooled slots r.call

    abbrev leaves : Tables → ℕ → Acted
    leaves X w = record { tables = X; task = (settle pooled slots r w).task; outcome = (settle pooled slots r w).outcome }

    abbrev stepped : Touched → Acted
    stepped d = leaves d.tables d.found

    abbrev split_at : ℕ → ℕ → Record → Acted
    split_at pooled slots r =
        let d = perform G (plan pooled slots r.call) in
        let s = settle pooled slots r d.found in
        record { tables = d.tables; task = s.task; outcome = s.outcome }

    step-at : act q t Step ≡ back q t (stepped (perform G p))
    unfolding split_step
    step-at = own.step_is tasks pooled slots q g t lt ∙ (λ i. back q t (split_at (g.pool i) (g.size i) (sym c.reads i)))

    -- Any touch but 6 and 9 is one instruction.
    one_touch : eqb p.act 6 ≡ false → eqb p.act 9 ≡ false → Goal k₀ (at_once pooled slots T r)
    unfolding at_once
    one_touch no6 no9 =
        let O : Over G T.labels T.marks (perform G p) (perform T p) =
        subst (λ (X : Tables). Over G T.labels T.marks (perform G p) (perform X p)) (sym f.rest) (over G T.labels T.marks p no6 no9) in
        let d = perform T p in
        let e = settle pooled slots r d.found in
        let k = ends e.task e.outcome in
        let same-labels : d.tables.labels ≡ T.labels = ap (λ (X : Tables). X.labels) O.tables in
        let same-marks : d.tables.marks ≡ T.marks = ap (λ (X : Tables). X.marks) O.tables in
        I.deciding now Step (stepped (perform G p)) step-at k₀ c.owes c.tells c.writes d.tables k (record {
          rest = O.tables ∙ (λ i. overlay (perform G p).tables (sym same-labels i) (sym same-marks i));
          labels-long = ap (λ (l : List ℕ). length l) same-labels ∙ f.labels-long ∙ sym (ap (λ (l : List ℕ). length l) O.labels);
          marks-long = ap (λ (l : List ℕ). length l) same-marks ∙ f.marks-long ∙ sym (ap (λ (l : List ℕ). length l) O.marks);
          labels = λ x never. ap (λ (l : List ℕ). get_or l x 0) same-labels ∙ C.no_label now k₀ c k x never ∙ sym (ap (λ (l : List ℕ). get_or l x 0) O.labels);
          marks = λ x never. ap (λ (l : List ℕ). marked l x) same-marks ∙ C.no-mark now k₀ c k x never ∙ sym (ap (λ (l : List ℕ). marked l x) O.marks);
          wrote = none O.labels;
          task = ap (λ (w : ℕ). (settle pooled slots r w).task) O.found;
          extra = tt;
          owes = ap (λ (w : ℕ). (settle pooled slots r w).outcome ∷ []) O.found;
        })

    row_within : on_row p.act ≡ true → p.slot ≤ slots
    row_within e = (from1_true slots p.slot (plans_within pooled slots r.call e)).1

    -- 14: the swap of the head decides; the label and the mark are owed.
    abbrev drawn : Tables
    drawn = with_taken (with_head G p.word) p.slot p.label

    abbrev head : ℕ
    head = T.control.head

    abbrev s : Settled
    s = settle pooled slots r head

    swap_is : p.act ≡ 9 → (b : Bool) → eqb head p.expected ≡ b
        → act q t Step ≡ back q t (record { tables = cond b drawn G; task = s.task; outcome = s.outcome })
    swap_is nine b e =
        let same_head : G.control.head ≡ head = ap (λ (c : Control). c.head) (sym (R.control tasks pooled slots m q f g)) in
        step-at
        ∙ ap (λ (d : Touched). back q t (stepped d)) (perform9 G p nine)
        ∙ (λ i. back q t (leaves (cond (eqb (same_head i) p.expected) drawn G) (same_head i)))
        ∙ ap (λ (b : Bool). back q t (record { tables = cond b drawn G; task = s.task; outcome = s.outcome })) e

    swap_failed : p.act ≡ 9 → eqb head p.expected ≡ false → Goal k₀ (decided Step T (ends s.task s.outcome))
    swap_failed nine e = C.plain now k₀ c Step s.task s.outcome (swap_is nine false e)

    swap_done : p.act ≡ 9 → eqb head p.expected ≡ true
        → Goal k₀ (decided Step (with_head T p.word) (labels true p.slot p.label s.task s.outcome))
    swap_done nine e =
        let n = (says pooled slots r.call).nine nine in
        let k = labels true p.slot p.label s.task s.outcome in
        let at14 : (record_at q t).place ≡ 14 = ap (λ (r : Record). r.call.place) (sym c.reads) ∙ n.place in
        let push : r.call.kind ≡ 0 = ap (λ (r : Record). r.call.kind) c.reads ∙ own.push14 tasks pooled slots q g t lt at14 in
        let is-drawn = settle14 pooled slots r nine push head (eqb-true _ _ e) in
        let holds : Holds s.task p.slot = record {
          place = ap (λ (r : Record). r.call.place) is-drawn;
          kind = ap (λ (r : Record). r.call.kind) is-drawn ∙ push;
          slot = ap (λ (r : Record). r.call.own) is-drawn ∙ sym n.slot;
        } in
        let room = own.mark-room tasks pooled slots q g p.slot (row_within (ap on_row nine)) in
        I.deciding now Step (record { tables = drawn; task = s.task; outcome = s.outcome }) (swap_is nine true e) k₀ c.owes c.tells c.writes
        (with_head T p.word) k (record {
          rest = ap (λ (X : Tables). with_head X p.word) f.rest;
          labels-long = f.labels-long ∙ sym (length-set G.labels p.slot p.label);
          marks-long = f.marks-long ∙ sym (length-set G.marks (p.slot / 64) _);
          labels = λ x never. C.no_label now k₀ c k x never ∙ sym
              (get_or-set_other G.labels p.slot x p.label 0 (λ z. I.own_owed now OwesLabel k x never z));
          marks = λ x never. C.no-mark now k₀ c k x never ∙ sym
              (marked_other G.marks p.slot 1 (omega arith) room x (λ z. I.own_owed now OwesMark k x never (refl, z)));
          wrote = one p.slot p.label refl holds;
          task = refl;
          extra = (
            lt,
            holds,
            ap (λ (r : Record). r.call.label) is-drawn ∙ sym n.label,
            λ _. own.pool14 tasks pooled slots q g t lt at14,
          );
          owes = refl;
        })

    -- 11: the label is read; nobody else owes it, since the pop owns the slot.
    reads-label : p.act ≡ 6 → Goal k₀ (quiet T (knows (get_or T.labels p.slot 0)))
    reads-label six =
        let n = (says pooled slots r.call).six six in
        let at11 : (record_at q t).place ≡ 11 = ap (λ (r : Record). r.call.place) (sym c.reads) ∙ n.place in
        let mine : h p.slot ≡ held t =
        subst (λ (x : ℕ). h x ≡ held t) (sym (n.slot ∙ ap (λ (r : Record). row r.call) c.reads)) (own.own11 tasks pooled slots q g t lt at11) in
        C.waits now k₀ c (knows (get_or T.labels p.slot 0)) refl refl (
          lt,
          six,
          f.labels p.slot (λ u o.
              let same : t ≡ u = own.held_same tasks pooled slots q g t u p.slot mine
              (R.owes_label tasks pooled slots m q f g u p.slot (m.hands u) (f.records u) (f.extra u) o) in
              c.labels p.slot (subst (λ (k : Hand). OwesLabel k p.slot) c.at (subst (λ (u : ℕ). OwesLabel (m.hands u) p.slot) (sym same) o))),
        )

    -- A push at 3.
    abbrev link_on : Tables → ℕ
    link_on X = get_or (links X p.side) p.slot 0

    abbrev put_on : Tables → ℕ → Tables
    put_on X w = linked X p.side p.slot (put_into p w)

    put_is : p.act ≡ 5 → (w : ℕ) → link_on T ≡ w → (b : Bool) → link_sound slots w ≡ b
        → act q t Step ≡ back q t (leaves (cond b (put_on G w) G) w)
    put_is five w at b e =
        let same-link : link_on G ≡ w = ap link_on (sym f.rest) ∙ at in
        step-at
        ∙ ap (λ (d : Touched). back q t (stepped d)) (perform5 G p five)
        ∙ (λ i. back q t (leaves (cond (link_sound (g.size i) (same-link i)) (put_on G (same-link i)) G) (same-link i)))
        ∙ ap (λ (b : Bool). back q t (leaves (cond b (put_on G w) G) w)) e

    -- Where the word has the slot already, or is unsound, the step leaves the tables as they are.
    stays_is : p.act ≡ 5 → is_to_put slots p (link_on T) ≡ false → act q t Step ≡ back q t (leaves G (link_on T))
    unfolding is_to_put
    stays_is five e =
        let w = link_on T in
        let same-link : link_on G ≡ w = ap link_on (sym f.rest) in
        split (link_sound slots w)
        (λ sound. split (eqb (put_into p w) w)
        (λ has. put_is five w refl true sound
        ∙ ap (λ (v : ℕ). back q t (leaves (linked G p.side p.slot v) w)) (eqb-true _ _ has ∙ sym same-link)
        ∙ ap (λ (X : Tables). back q t (leaves X w)) (linked-same G p.side p.slot))
        (λ other. absurd (not_both (rw (sound, other)) e)))
        (put_is five w refl false)

    loads_goal : p.act ≡ 5 → Goal k₀ (loads_own pooled slots T r)
    unfolding loads_own is_to_put
    loads_goal five =
        by_test (Goal k₀) (is_to_put slots p (link_on T))
        (λ e. C.waits now k₀ c (loaded (link_on T)) refl refl (λ _. (five, (and-true _ _ e).0)))
        (λ e. C.plain now k₀ c Step (settle pooled slots r (link_on T)).task (settle pooled slots r (link_on T)).outcome (stays_is five e))

    -- A pop at 16: a next that is the wanted one stays.
    next_goal : p.act ≡ 11 → Goal k₀ (reads_next pooled slots T r)
    unfolding reads_next
    next_goal eleven =
        let next_on : Tables → ℕ = λ (X : Tables). get_or X.next p.slot 0 in
        by_test (Goal k₀) (eqb (next_on T) p.word)
        (λ e. C.plain now k₀ c Step (settle pooled slots r 0).task (settle pooled slots r 0).outcome (step-at
        ∙ ap (λ (d : Touched). back q t (stepped d)) (perform11 G p eleven)
        ∙ ap (λ (v : ℕ). back q t (leaves (with_next G (set G.next p.slot v)) 0)) (sym (eqb-true _ _ e) ∙ ap next_on f.rest)
        ∙ ap (λ (l : List ℕ). back q t (leaves (with_next G l) 0)) (set-get_or G.next p.slot 0)))
        (λ _. C.waits now k₀ c (loaded (next_on T)) refl refl (λ e. absurd (not_both (ap (λ (n : ℕ). eqb n 11) eleven) e)))

    word_goal : eqb p.act 6 ≡ false → eqb p.act 9 ≡ false → Goal k₀ (one_word pooled slots T r)
    unfolding one_word
    word_goal no6 no9 = by_test (Goal k₀) (eqb p.act 11) (λ e. next_goal (eqb-true _ _ e)) (λ _. one_touch no6 no9)

    puts_goal : (w : ℕ) → p.act ≡ 5 → link_sound slots w ≡ true → Goal k₀ (puts_own pooled slots T r w)
    unfolding puts_own is_as_read
    puts_goal w five sound =
        let k = ends (settle pooled slots r w).task (settle pooled slots r w).outcome in
        by_test (Goal k₀) (is_as_read T p w)
        (λ e. I.deciding now Step (leaves (put_on G w) w)
        (put_is five w (eqb-true (link_on T) w e) true sound) k₀ c.owes c.tells c.writes (put_on T w) k (record {
          rest = ap (λ (X : Tables). put_on X w) f.rest;
          labels-long = f.labels-long;
          marks-long = f.marks-long;
          labels = C.no_label now k₀ c k;
          marks = C.no-mark now k₀ c k;
          wrote = none refl;
          task = refl;
          extra = tt;
          owes = refl;
        }))
        (λ e. loads_goal five)

    pub replaces_goal : (w : ℕ) → (eqb p.act 11 ≡ false → (p.act ≡ 5) × (link_sound slots w ≡ true)) → Goal k₀ (replaces pooled slots T r w)
    unfolding replaces
    replaces_goal w z =
        by_test (Goal k₀) (eqb p.act 11)
        (λ e. let at = eqb-true p.act 11 e in one_touch (ap (λ (n : ℕ). eqb n 6) at) (ap (λ (n : ℕ). eqb n 9) at))
        (λ e. puts_goal w (z e).0 (z e).1)

    pub step_goal : Goal k₀ (step_first pooled slots T r)
    unfolding step_first
    step_goal =
        by_test (Goal k₀) (eqb p.act 5) (λ e. loads_goal (eqb-true _ _ e))
        (λ no5. by_test (Goal k₀) (eqb p.act 6) (λ e. reads-label (eqb-true _ _ e))
        (λ no6. by_test (Goal k₀) (eqb p.act 9)
        (λ e. by_test (Goal k₀) (eqb head p.expected) (swap_done (eqb-true _ _ e)) (swap_failed (eqb-true _ _ e)))
        (λ no9. word_goal no6 no9)))

    -- The mark is cleared: that decides the pop's step.
    pub clears_goal : (l : ℕ) → p.act ≡ 6 → l ≡ get_or G.labels p.slot 0 → Goal k₀ (clears pooled slots T r l)
    unfolding clears
    clears_goal l six e =
        let done : ℕ → Acted = leaves (with_marks G (with_mark G.marks p.slot 0)) in
        let k = ends (settle pooled slots r l).task (settle pooled slots r l).outcome in
        I.deciding now Step (done l) (step-at ∙ ap (λ (d : Touched). back q t (stepped d)) (perform6 G p six) ∙ ap (λ (w : ℕ). back q t (done w)) (sym e))
        k₀ c.owes c.tells c.writes (with_marks T (with_mark T.marks p.slot 0)) k (record {
          rest = ap (λ (X : Tables). with_marks X (with_mark T.marks p.slot 0)) f.rest;
          labels-long = f.labels-long;
          marks-long = length-set T.marks (p.slot / 64) _ ∙ f.marks-long ∙ sym (length-set G.marks (p.slot / 64) _);
          labels = C.no_label now k₀ c k;
          marks = C.put-marks now k₀ c p.slot 0 (omega arith) (row_within (ap on_row six)) k;
          wrote = none refl;
          task = refl;
          extra = tt;
          owes = refl;
        })
