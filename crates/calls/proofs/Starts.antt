-- With tables of the lengths told, a start by these lengths is the document's.
use mathlib.Core.{Path.{◌≡◌, refl, ap, ◌∙◌}, Bool.{Bool, true, false, cond}, List.{List, []}}
use Prim.Native.Nat.{ℕ}
use lib.Dec.{eqb}
use Rattle.model.specs.declared.{Control.Control, Call.Call, Record.Record, Asked.Asked, Answer.TheVariants.Running}
use Rattle.model.specs.Outcomes.{Moved, Refused}
use Rattle.model.specs.{declared.Transition.Transition, Route.counted}
use Rattle.model.specs.{Calls.{decide, push_start, push_pooled_start, pop_start}, Sound.rows_fit}
use Rattle.model.specs.Tables.{Tables, is_pooled, tables_of, with_call, with_taken, started, asking}
use Rattle.model.specs.Refusals.{Lent, start_refusal, named_push, pooled_push, nothing_asked}
use Rattle.model.specs.Calls as calls
use Rattle.sound.{specs.{declared.Lengths.Lengths, Lengths.{Measures, among_many}}, proofs.Measured.measured}
use Rattle.table.specs.Lent.{with_tables}
use Rattle.calls.specs.Starting.{decided, refused_by, touching, push_refused_by, stored_unless}

module _ (c : Control) (lefts rights labels marks next : List ℕ) (task : Call) (r : Record) where
  abbrev q : Tables
  q = tables_of c lefts rights labels marks next

  -- The tables with the labels and marks of others.
  abbrev around : Tables → Tables
  around s = tables_of c lefts rights s.labels s.marks next

  abbrev done : Tables → calls.Acted
  done s = record { tables = around s; task = with_call r task; outcome = Moved (Running task.place) }

  abbrev lent : Transition → Tables → calls.Acted
  lent m s = with_tables m lefts rights s.labels s.marks next r.retries

  on-tables : (why : ℕ) (left stored : Tables) → left ≡ cond (eqb why 0) stored (touching c labels marks)
      → lent (decided c r.call why task) left ≡ decide why q r (done stored)
  unfolding counted
  on-tables why left stored = go (eqb why 0)
    where
      go : (b : Bool) → left ≡ cond b stored (touching c labels marks)
          → lent
          (cond b (record { control = c; task = task; outcome = Moved (Running task.place); failed = false })
          (record { control = c; task = r.call; outcome = Refused why; failed = false })) left
          ≡ cond b (done stored) (record { tables = q; task = r; outcome = Refused why })
      go true e = ap done e
      go false e = ap (λ (s : Tables). record { tables = around s; task = r; outcome = Refused why }) e

same : (b : Bool) (q : Tables) → q ≡ cond b q q
same true q = refl
same false q = refl

module _ (c : Control) (r : Call) (task side : ℕ) (t : Lengths) (lefts rights labels marks next : List ℕ) (m : Transition) where
  abbrev entry : Tables
  entry = tables_of c lefts rights labels marks next

  abbrev lent-to : Lent
  lent-to = among_many c t task

  by_tables : (a : Asked) → Measures t entry → refused_by t c task r side a ≡ start_refusal c (rows_fit (is_pooled c) c.slots entry) lent-to r side a
  by_tables a e = ap (λ (b : Bool). start_refusal c b lent-to r side a) (measured (is_pooled c) c.slots t entry e)

  pub push_begun : (slot label : ℕ) (labels' marks' : List ℕ) → Measures t entry
      → m ≡ decided c r (push_refused_by t c task r side slot marks) (started 0 side slot label)
      → touching c labels' marks' ≡ stored_unless (push_refused_by t c task r side slot marks) (touching c labels marks) slot label
      → (k : ℕ) → with_tables m lefts rights labels' marks' next k ≡ push_start entry lent-to (record { call = r; retries = k }) side slot label
  unfolding push_start
  push_begun slot label labels' marks' e em left k =
      ap (λ (m : Transition). with_tables m lefts rights labels' marks' next k) em
      ∙ on-tables c lefts rights labels marks next (started 0 side slot label) (record { call = r; retries = k })
      (push_refused_by t c task r side slot marks) (touching c labels' marks') (with_taken (touching c labels marks) slot label) left
      ∙ ap (λ (why : ℕ). decide why entry (record { call = r; retries = k })
      (record {
        tables = with_taken entry slot label;
        task = record { call = started 0 side slot label; retries = k };
        outcome = Moved (Running 1);
      })) (by_tables (named_push entry slot) e)

  -- A start that writes nothing but its record.
  module _ (a : Asked) (call : Call) (e : Measures t entry) (em : m ≡ decided c r (refused_by t c task r side a) call) (k : ℕ) where
    begun : with_tables m lefts rights labels marks next k
        ≡ decide (start_refusal c (rows_fit (is_pooled c) c.slots entry) lent-to r side a) entry (record { call = r; retries = k })
        (record { tables = entry; task = record { call = call; retries = k }; outcome = Moved (Running call.place) })
    begun =
        ap (λ (m : Transition). with_tables m lefts rights labels marks next k) em
        ∙ on-tables c lefts rights labels marks next call (record { call = r; retries = k }) (refused_by t c task r side a)
        (touching c labels marks) (touching c labels marks) (same (eqb (refused_by t c task r side a) 0) (touching c labels marks))
        ∙ ap (λ (why : ℕ). decide why entry (record { call = r; retries = k })
        (record { tables = entry; task = record { call = call; retries = k }; outcome = Moved (Running call.place) })) (by_tables a e)

  pub push_pooled_begun : (label : ℕ) → Measures t entry
      → m ≡ decided c r (refused_by t c task r side (pooled_push (touching c [] []))) (asking side label)
      → (k : ℕ) → with_tables m lefts rights labels marks next k ≡ push_pooled_start entry lent-to (record { call = r; retries = k }) side label
  unfolding push_pooled_start
  push_pooled_begun label = begun (pooled_push entry) (asking side label)

  pub pop_begun : Measures t entry → m ≡ decided c r (refused_by t c task r side nothing_asked) (started 1 side 0 0)
      → (k : ℕ) → with_tables m lefts rights labels marks next k ≡ pop_start entry lent-to (record { call = r; retries = k }) side
  unfolding pop_start
  pop_begun = begun nothing_asked (started 1 side 0 0)
