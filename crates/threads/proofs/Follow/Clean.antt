-- A hand that owes nothing: it goes on (waits), or is decided and changes no shared word (plain).
use mathlib.Core.{Path.{◌≡◌, refl, ap, sym, subst, ◌∙◌}, List.{List, [], ◌++◌}}
use Prim.Native.Nat.{ℕ, ◌<◌, ◌≤◌, ◌/◌}
use lib.{Dec.eqb, ListN.{length, get_or}}
use borrow.Author.Tests.{eqb-true, eqb-false}
use Rattle.model.specs.Outcomes.{Outcome}
use Rattle.model.specs.{declared.{Record.Record, Op.Op}, Calls.{act, back}}
use Rattle.model.specs.Tables.{Tables, Queue, task_at, marked, with_mark}
use Rattle.model.proofs.{Tests.Truth.split, Bridge.Marks.{marked-same, marked_other}}
use Rattle.threads_model.specs.Instructions.{Hand, ends, Ticked, quiet, decided, written, told_at_end}
use Rattle.threads_model.specs.Crew.{Crew, with_hand, owed}
use Rattle.threads.specs.Promises.{record_of, OwesLabel, OwesMark}
use Rattle.threads.proofs.Follow.Good as own
use Rattle.threads.proofs.Follow.{Good.Good, Relation.{Extra, Moment, Sim, none}}
use Rattle.threads.proofs.Follow.Instruction as I

module _ (now : Moment) where
  abbrev tasks : ℕ
  tasks = now.tasks

  abbrev pooled : ℕ
  pooled = now.pooled

  abbrev slots : ℕ
  slots = now.slots

  abbrev m : Crew
  m = now.crew

  abbrev q : Queue
  q = now.queue

  abbrev f : Sim now.tasks now.pooled now.slots now.crew now.queue
  f = now.sim

  abbrev g : Good now.tasks now.pooled now.slots now.queue
  g = now.good

  abbrev t : ℕ
  t = now.thread

  abbrev T : Tables
  T = now.crew.queue.tables

  abbrev G : Tables
  G = now.queue.tables

  abbrev r : Record
  r = task_at now.crew.queue now.thread

  abbrev Goal : Hand → Ticked → Type 0
  Goal = I.Goal now

  -- A hand that owes nothing, and has nothing to tell or to write.
  pub record Clean (k₀ : Hand) : Type 0 where
    pub at : m.hands t ≡ k₀
    pub owes : owed k₀ ≡ []
    pub tells : told_at_end k₀ ≡ []
    pub writes : written k₀ r ≡ r
    pub reads : r ≡ task_at q t
    pub labels : (x : ℕ) → OwesLabel k₀ x → ⊥
    pub marks : (x : ℕ) → OwesMark k₀ x → ⊥

  module _ (k₀ : Hand) (c : Clean k₀) where
    pub no_label : (k : Hand) (x : ℕ) → ((u : ℕ) → OwesLabel (with_hand m.hands t k u) x → ⊥) → get_or T.labels x 0 ≡ get_or G.labels x 0
    no_label k x never = f.labels x (I.before now OwesLabel k x (λ o. c.labels x (subst (λ (k : Hand). OwesLabel k x) c.at o)) never)

    pub no-mark : (k : Hand) (x : ℕ) → ((u : ℕ) → OwesMark (with_hand m.hands t k u) x → ⊥) → marked T.marks x ≡ marked G.marks x
    no-mark k x never = f.marks x (I.before now OwesMark k x (λ o. c.marks x (subst (λ (k : Hand). OwesMark k x) c.at o)) never)

    -- It goes on, and decides nothing yet.
    pub waits : (k : Hand) → owed k ≡ [] → record_of k r ≡ r → Extra tasks pooled slots t r G.labels k → Goal k₀ (quiet T k)
    waits k o e z = I.quietly now k₀ T k (c.owes ∙ sym o ∙ ap (λ (l : List Outcome). l ++ owed k) (sym c.tells)) (record {
      rest = f.rest;
      labels-long = f.labels-long;
      marks-long = f.marks-long;
      labels = no_label k;
      marks = no-mark k;
      long = f.long;
      task = subst (λ (x : Record). record_of k x ≡ task_at q t) (sym c.writes) (e ∙ c.reads);
      extra = subst (λ (x : Record). Extra tasks pooled slots t x G.labels k) (sym c.writes) z;
      others = λ u ne. refl;
      kept = I.stays now;
    })

    -- It is decided, and no shared word is changed.
    pub plain : (op : Op) (task : Record) (o : Outcome) → act q t op ≡ back q t (record { tables = G; task = task; outcome = o })
        → Goal k₀ (decided op T (ends task o))
    plain op task o is =
        I.deciding now op (record { tables = G; task = task; outcome = o }) is k₀ c.owes c.tells c.writes T (ends task o) (record {
          rest = f.rest;
          labels-long = f.labels-long;
          marks-long = f.marks-long;
          labels = no_label (ends task o);
          marks = no-mark (ends task o);
          wrote = none refl;
          task = refl;
          extra = tt;
          owes = refl;
        })

    -- A mark put by both.
    pub put-marks : (slot b : ℕ) → b < 2 → slot ≤ slots → (k : Hand) (x : ℕ) → ((u : ℕ) → OwesMark (with_hand m.hands t k u) x → ⊥)
        → marked (with_mark T.marks slot b) x ≡ marked (with_mark G.marks slot b) x
    put-marks slot b two le k x never =
        let room = own.mark-room tasks pooled slots q g slot le in
        let room' : slot / 64 < length T.marks = subst (λ (n : ℕ). slot / 64 < n) (sym f.marks-long) room in
        split (eqb x slot)
        (λ e. subst (λ (x : ℕ). marked (with_mark T.marks slot b) x ≡ marked (with_mark G.marks slot b) x) (sym (eqb-true _ _ e))
        (marked-same T.marks slot b two room' ∙ sym (marked-same G.marks slot b two room)))
        (λ e. marked_other T.marks slot b two room' x (eqb-false _ _ e) ∙ no-mark k x never
        ∙ sym (marked_other G.marks slot b two room x (eqb-false _ _ e)))
