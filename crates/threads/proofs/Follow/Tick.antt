-- Every instruction: the stores that are owed are in the list already; the others are in Steps and Starts.
use mathlib.Core.{Path.{◌≡◌, refl, ap, sym, subst, ◌∙◌}, Bool.{Bool, true, false}, List.{[], ◌∷◌, ◌++◌}}
use Prim.Native.Nat.{ℕ, ◌<◌, ◌≤◌, ◌/◌}
use native.Mathlib.Omega.{arith}
use lib.{Dec.eqb, ListN.{length, get_or, set, length-set}, Seq.{get_or-set_same, get_or-set_other}}
use borrow.Author.Tests.{eqb-true, eqb-false}
use Rattle.model.specs.Outcomes.{Outcome}
use Rattle.model.specs.declared.{Record.Record, Op.TheVariants.{Push, Pop, PushPooled, Step}}
use Rattle.model.specs.Tables.{Tables, Queue, task_at, marked, with_mark, with_marks, started}
use Rattle.model.proofs.{Tests.Truth.{split, not_both}, Bridge.Marks.{marked-same, marked_other}}
use Rattle.model.proofs.Unsound.StartSafe.{Room}
use Rattle.threads_model.specs.Instructions.{Hand, free, begun, loaded, knows, claims, looks, labels, marks, ends, tick}
use Rattle.threads_model.specs.{Instructions.{Ticked, quiet, with_labels, written, told_at_end}, Crew.{Crew, owed}}
use Rattle.threads.specs.Promises.{record_of, OwesLabel, OwesMark}
use Rattle.threads.proofs.Follow.{LateStays.Late, Good.Good, Relation.{Extra, Holds, Moment, Sim}}
use Rattle.threads.proofs.Follow.Good as own
use Rattle.threads.proofs.Follow.Instruction as I
use Rattle.threads.proofs.Follow.Relation as R
use Rattle.threads.proofs.Follow.Steps as S
use Rattle.threads.proofs.Follow.Starts as B

module _ (now : Moment) where
  abbrev tasks : ℕ
  tasks = now.tasks

  abbrev pooled : ℕ
  pooled = now.pooled

  abbrev slots : ℕ
  slots = now.slots

  abbrev m : Crew
  m = now.crew

  abbrev q : Queue
  q = now.queue

  abbrev f : Sim now.tasks now.pooled now.slots now.crew now.queue
  f = now.sim

  abbrev g : Good now.tasks now.pooled now.slots now.queue
  g = now.good

  abbrev t : ℕ
  t = now.thread

  abbrev lt : now.thread < now.tasks
  lt = now.known

  abbrev T : Tables
  T = now.crew.queue.tables

  abbrev G : Tables
  G = now.queue.tables

  abbrev r : Record
  r = task_at now.crew.queue now.thread

  abbrev Goal : Hand → Ticked → Type 0
  Goal = I.Goal now

  as_listed : (k₀ : Hand) → m.hands t ≡ k₀ → record_of k₀ r ≡ task_at q t
  as_listed k₀ at = subst (λ (k : Hand). record_of k r ≡ task_at q t) at (f.records t)

  known_of : (k₀ : Hand) → m.hands t ≡ k₀ → Extra tasks pooled slots t r G.labels k₀
  known_of k₀ at = subst (λ (k : Hand). Extra tasks pooled slots t r G.labels k) at (f.extra t)

  module _ (slot : ℕ) (task : Record) (o : Outcome) (same : task ≡ task_at q t) (holds : Holds task slot) where
    held-here : Holds (task_at q t) slot
    held-here = subst (λ (x : Record). Holds x slot) same holds

    le : slot ≤ slots
    le = (own.within tasks pooled slots q g t lt slot (R.holds-held tasks pooled slots m q f g t lt slot held-here)).1

    label_there : get_or G.labels slot 0 ≡ task.call.label
    label_there =
        ap (λ (x : ℕ). get_or G.labels x 0) (sym held-here.slot)
        ∙ (own.own1 tasks pooled slots q g t lt held-here.place held-here.kind).1
        ∙ ap (λ (x : Record). x.call.label) (sym same)

    mark_there : marked G.marks slot ≡ true
    mark_there = ap (marked G.marks) (sym held-here.slot) ∙ own.marked1 tasks pooled slots q g t lt held-here.place held-here.kind

    store_label : (both : Bool) (label : ℕ) (k : Hand) → m.hands t ≡ labels both slot label task o → task.call.label ≡ label
        → owed k ≡ o ∷ [] → record_of k r ≡ task → Extra tasks pooled slots t r G.labels k →
        ((x : ℕ) → OwesMark (labels both slot label task o) x → OwesMark k x)
        → Goal (labels both slot label task o) (quiet (with_labels T (set T.labels slot label)) k)
    store_label both label k at is-label owes rec extra still =
        let room : slot < length T.labels = subst (λ (n : ℕ). slot < n) (sym f.labels-long) (own.label-room tasks pooled slots q g slot le) in
        I.quietly now (labels both slot label task o) (with_labels T (set T.labels slot label)) k (sym owes) (record {
          rest = ap (λ (X : Tables). with_labels X (set T.labels slot label)) f.rest;
          labels-long = length-set T.labels slot label ∙ f.labels-long;
          marks-long = f.marks-long;
          labels = λ x never. split (eqb x slot)
              (λ e. subst (λ (x : ℕ). get_or (set T.labels slot label) x 0 ≡ get_or G.labels x 0) (sym (eqb-true _ _ e))
              (get_or-set_same T.labels slot label 0 room ∙ sym is-label ∙ sym label_there))
              (λ e. get_or-set_other T.labels slot x label 0 (eqb-false _ _ e)
              ∙ f.labels x (I.before now OwesLabel k x (λ z. eqb-false _ _ e (subst (λ (k : Hand). OwesLabel k x) at z)) never));
          marks = λ x never. f.marks x
              (I.before now OwesMark k x (λ z. I.own_owed now OwesMark k x never (still x (subst (λ (k : Hand). OwesMark k x) at z))) never);
          long = f.long;
          task = rec ∙ same;
          extra = extra;
          others = λ u ne. refl;
          kept = I.stays now;
        })

    store_mark : m.hands t ≡ marks slot task o → Goal (marks slot task o) (quiet (with_marks T (with_mark T.marks slot 1)) (ends task o))
    store_mark at =
        let room : slot / 64 < length T.marks = subst (λ (n : ℕ). slot / 64 < n) (sym f.marks-long) (own.mark-room tasks pooled slots q g slot le) in
        let k = ends task o in
        I.quietly now (marks slot task o) (with_marks T (with_mark T.marks slot 1)) k refl (record {
          rest = ap (λ (X : Tables). with_marks X (with_mark T.marks slot 1)) f.rest;
          labels-long = f.labels-long;
          marks-long = length-set T.marks (slot / 64) _ ∙ f.marks-long;
          labels = λ x never. f.labels x (I.before now OwesLabel k x (λ z. subst (λ (k : Hand). OwesLabel k x) at z) never);
          marks = λ x never. split (eqb x slot)
              (λ e. subst (λ (x : ℕ). marked (with_mark T.marks slot 1) x ≡ marked G.marks x) (sym (eqb-true _ _ e))
              (marked-same T.marks slot 1 (omega arith) room ∙ sym mark_there))
              (λ e. marked_other T.marks slot 1 (omega arith) room x (eqb-false _ _ e)
              ∙ f.marks x (I.before now OwesMark k x (λ z. eqb-false _ _ e (subst (λ (k : Hand). OwesMark k x) at z)) never));
          long = f.long;
          task = same;
          extra = tt;
          others = λ u ne. refl;
          kept = I.stays now;
        })

  -- The tables stay, and nothing is owed of them.
  settles : (k₀ : Hand) → m.hands t ≡ k₀ → ((x : ℕ) → OwesLabel k₀ x → ⊥) → ((x : ℕ) → OwesMark k₀ x → ⊥) → owed k₀ ≡ told_at_end k₀ ++ []
      → written k₀ r ≡ task_at q t → Goal k₀ (quiet T free)
  settles k₀ at nl nm o w = I.quietly now k₀ T free o (record {
    rest = f.rest;
    labels-long = f.labels-long;
    marks-long = f.marks-long;
    labels = λ x never. f.labels x (I.before now OwesLabel free x (λ z. nl x (subst (λ (k : Hand). OwesLabel k x) at z)) never);
    marks = λ x never. f.marks x (I.before now OwesMark free x (λ z. nm x (subst (λ (k : Hand). OwesMark k x) at z)) never);
    long = f.long;
    task = w;
    extra = tt;
    others = λ u ne. refl;
    kept = I.stays now;
  })

  abbrev pub RoomFor : Hand → Type 0
  RoomFor free = Unit {0}
  RoomFor (begun op) = Unit {0}
  RoomFor (loaded w) = Unit {0}
  RoomFor (knows label) = Unit {0}
  RoomFor (claims side slot label) = Room q t (started 0 side slot label)
  RoomFor (looks side slot label) = Unit {0}
  RoomFor (labels both slot label task o) = Unit {0}
  RoomFor (marks slot task o) = Unit {0}
  RoomFor (ends task o) = Unit {0}

  pub tick_goal : (k₀ : Hand) → m.hands t ≡ k₀ → Late m k₀ → RoomFor k₀ → Goal k₀ (tick pooled slots T r k₀)
  tick_goal free at y w = settles free at (λ x z. z) (λ x z. z) refl (as_listed free at)
  tick_goal (begun (Push side slot label)) at y w = B.push_goal now (begun (Push side slot label))
      (record { at = at; owes = refl; tells = refl; writes = refl; reads = as_listed (begun (Push side slot label)) at; labels = λ x z. z; marks = λ x z. z })
      side slot label
  tick_goal (begun (Pop side)) at y w = B.pop_goal now (begun (Pop side))
      (record { at = at; owes = refl; tells = refl; writes = refl; reads = as_listed (begun (Pop side)) at; labels = λ x z. z; marks = λ x z. z }) side
  tick_goal (begun (PushPooled side label)) at y w = B.push_pooled_goal now (begun (PushPooled side label))
      (record { at = at; owes = refl; tells = refl; writes = refl; reads = as_listed (begun (PushPooled side label)) at; labels = λ x z. z; marks = λ x z. z })
      side label
  tick_goal (begun Step) at y w = S.step_goal now (begun Step)
      (record { at = at; owes = refl; tells = refl; writes = refl; reads = as_listed (begun Step) at; labels = λ x z. z; marks = λ x z. z })
  tick_goal (loaded w) at y _ = S.replaces_goal now (loaded w)
      (record { at = at; owes = refl; tells = refl; writes = refl; reads = as_listed (loaded w) at; labels = λ x z. z; marks = λ x z. z }) w
      (known_of (loaded w) at)
  tick_goal (knows l) at y w = let z = known_of (knows l) at in S.clears_goal now (knows l)
      (record { at = at; owes = refl; tells = refl; writes = refl; reads = as_listed (knows l) at; labels = λ x z. z; marks = λ x z. z }) l z.1 z.2
  tick_goal (claims side slot label) at y w = B.claims_goal now (claims side slot label)
      (record { at = at; owes = refl; tells = refl; writes = refl; reads = as_listed (claims side slot label) at; labels = λ x z. z; marks = λ x z. z })
      side slot label (known_of (claims side slot label) at) w
  tick_goal (looks side slot label) at y w = B.looks_goal now (looks side slot label)
      (record { at = at; owes = refl; tells = refl; writes = refl; reads = as_listed (looks side slot label) at; labels = λ x z. z; marks = λ x z. z })
      side slot label (known_of (looks side slot label) at) y
  tick_goal (labels true slot label task o) at y w =
      let k₀ = labels true slot label task o in
      let z = known_of k₀ at in
      store_label slot task o (as_listed k₀ at) z.1 true label (marks slot task o) at z.2 refl refl (lt, z.1, z.3 refl) (λ x o. o.1)
  tick_goal (labels false slot label task o) at y w =
      let k₀ = labels false slot label task o in
      let z = known_of k₀ at in
      store_label slot task o (as_listed k₀ at) z.1 false label (ends task o) at z.2 refl refl tt (λ x o. not_both o.0 refl)
  tick_goal (marks slot task o) at y w =
      let k₀ = marks slot task o in
      let z = known_of k₀ at in
      store_mark slot task o (as_listed k₀ at) z.1 at
  tick_goal (ends task o) at y w = settles (ends task o) at (λ x z. z) (λ x z. z) refl (as_listed (ends task o) at)
