-- One push by task 0 alone: what it leaves of the queue, and its outcomes.
use mathlib.Core.{Path.{◌≡◌, refl, ◌∙◌}, Bool.{Bool, true, false, ◌||◌, not}, List.{[], ◌∷◌}}
use Prim.Native.Nat.{ℕ, suc, ◌+◌, ◌/◌, ◌<◌, ◌≤◌}
use native.Mathlib.Omega.{arith}
use lib.{Dec.{leb, ltb}, ListN.{length, replicate, length-set}}
use borrow.Author.Tests.{eq-eqb, le-leb, lt-ltb, leb-true, ltb-false}
use Rattle.word.{specs.Anchor.{anchor_of, pack_anchor}, proofs.Laws.unpack_pack}
use Rattle.model.specs.Outcomes.{Moved, Refused}
use Rattle.model.specs.declared.Answer.TheVariants.{Running, Pushed}
use Rattle.model.specs.{declared.Op.TheVariants.{Push, Step}, Refusals.{records_fit, start_refusal}, Lists.every}
use Rattle.model.specs.Tables.{Tables, Queue, is_pooled, idle, with_call, marked, record_at, task_at, with_anchor, with_taken}
use Rattle.model.specs.Sound.{anchor_sound, control_tests, control_sound, record_sound, rows_fit}
use Rattle.model.{specs.Calls.{push_start, act_on, act}, proofs.Unsound.Tests.anchor-sound}
use Rattle.model.proofs.{Laws.Lengths.{Lengths, lengths}, Tests.Rules.{◌and◌, tests, passes}}
use Rattle.join_model.specs.Join.{anchor_in}
use Rattle.join_model.proofs.{Alone.{Able, at, step1_empty, step2}, Ran.{Ran, ran-none, ran-more, stands, steps}}

-- Control with another sound Anchor.
pub control-kept : (t : Tables) (w : ℕ) → control_sound t.control ≡ true → anchor_sound t.control.slots (anchor_of w) ≡ true
    → control_sound (with_anchor t w).control ≡ true
unfolding control_sound
control-kept t w c s =
    let z = tests (control_tests t.control) c in
    passes (control_tests (with_anchor t w).control) (z.0 and z.1.0 and s and z.1.1.1.0 and tt)

-- A queue whose task 0 can start to push into slot suc k, k labels waiting; the tag has room.
pub record Ready (q : Queue) (k : ℕ) : Type 0 where
  pub control : control_sound q.tables.control ≡ true
  pub named : is_pooled q.tables.control ≡ false
  pub rows : rows_fit false q.tables.control.slots q.tables ≡ true
  pub records : records_fit q.tables.control.tasks q ≡ true
  pub rests : (record_at q 0).place ≡ 0
  pub status : (anchor_in q).status ≡ 0
  pub right : (anchor_in q).right ≡ k
  pub more : k < q.tables.control.slots
  pub slots : q.tables.control.slots ≤ 1023
  pub tasks : 0 < q.tables.control.tasks
  pub unmarked : marked q.tables.marks (suc k) ≡ false

-- Only the lengths count of what 12 asks.
abbrev pub fitting : ℕ → Lengths → Bool
fitting n l = every (ltb n l.lefts ∷ ltb n l.rights ∷ ltb n l.labels ∷ ltb (n / 64) l.marks ∷ (not false || ltb n l.next) ∷ [])

-- The count of task 0.
abbrev pub tries : Queue → ℕ
tries q = (task_at q 0).retries

-- A label in its slot.
abbrev pub labelled : Queue → ℕ → ℕ → Tables
labelled q own label = with_taken q.tables own label

module _ (q : Queue) (k label : ℕ) (r : Ready q k) where
  abbrev pub own : ℕ
  own = suc k

  abbrev pub first : Tables
  first = labelled q own label

  pub long : q.tables.control.tasks ≤ length q.records
  long = leb-true _ _ r.records

  pub low : leb 1 own ≡ true
  low = le-leb 1 own (omega arith)

  pub high : leb own q.tables.control.slots ≡ true
  high = le-leb own _ r.more

  -- The start, and where the tag has no room, its refusal.
  pub starts : ltb 4294967262 (anchor_in q).tag ≡ false
      → act q 0 (Push 1 own label) ≡ record { queue = stands first q.records (at (tries q) 1 own label 0 0 0); outcome = Moved (Running 1) }
  unfolding act act_on push_start start_refusal record_sound
  starts e = rw (r.control, r.named, r.rows, r.records, lt-ltb 0 _ r.tasks, low, high, eq-eqb _ _ r.rests, r.unmarked, e)

  pub turned_away : ltb 4294967262 (anchor_in q).tag ≡ true → (act q 0 (Push 1 own label)).outcome ≡ Refused 33
  unfolding act act_on push_start start_refusal record_sound
  turned_away e = rw (r.control, r.named, r.rows, r.records, lt-ltb 0 _ r.tasks, low, high, eq-eqb _ _ r.rests, r.unmarked, e)

  -- The tables that the push goes through: what its steps rely on is in each of them.
  pub sound : anchor_sound q.tables.control.slots (anchor_in q) ≡ true
  unfolding control_sound
  sound = (tests (control_tests q.tables.control) r.control).1.1.0

  pub still : (t : Tables) → lengths t ≡ lengths q.tables → rows_fit false q.tables.control.slots t ≡ true
  unfolding rows_fit
  still t e = (λ i. fitting q.tables.control.slots (e i)) ∙ r.rows

  pub room : ltb 4294967262 (anchor_in q).tag ≡ false → (n : ℕ) → n ≤ (anchor_in q).tag + 1 → ltb n 4294967295 ≡ true
  room e n h = lt-ltb n 4294967295 (omega (arith, ltb-false 4294967262 (anchor_in q).tag e))

  -- On the empty queue: two steps.
  module _ (none : k ≡ 0) (empty : (anchor_in q).left ≡ 0) (early : ltb 4294967262 (anchor_in q).tag ≡ false) where
    abbrev alone : ℕ
    alone = pack_anchor (record { tag = (anchor_in q).tag + 1; status = (anchor_in q).status; left = own; right = own })

    able : Able first own q.tables.control.anchor
    able = record { control = r.control; named = r.named; rows = still first (simp length-set); low = low; high = high; seen = sound }

    alone-reads : anchor_of alone ≡ record { tag = (anchor_in q).tag + 1; status = (anchor_in q).status; left = own; right = own }
    alone-reads = unpack_pack _ (record {
      tag = omega (arith, ltb-false 4294967262 (anchor_in q).tag early);
      status = omega (arith, r.status);
      left = omega (arith, r.more, r.slots);
      right = omega (arith, r.more, r.slots);
    })

    alone-sound : anchor_sound q.tables.control.slots (anchor_of alone) ≡ true
    alone-sound = rw alone-reads (anchor-sound _ _ (record {
      status = omega (arith, r.status);
      left = r.more;
      right = r.more;
      null = λ z. z;
      full = λ z. z;
      single = λ z. r.status;
    }))

    pub first_push : Ran q (record { task = 0; op = Push 1 own label } ∷ replicate 2 (record { task = 0; op = Step }))
        (stands (with_anchor first alone) q.records (with_call (task_at q 0) idle)) (Moved (Running 1) ∷ Moved (Running 2) ∷ Moved Pushed ∷ [])
    first_push =
        ran-more (starts early)
        (ran-more (steps first q.records (at (tries q) 1 own label 0 0 0) r.tasks long
        (step1_empty first (tries q) own label _ able refl (eq-eqb _ _ empty) (eq-eqb _ _ (r.right ∙ none))))
        (ran-more (steps first q.records (at (tries q) 2 own label q.tables.control.anchor 0 0) r.tasks long
        (step2 first (tries q) own label _ able refl alone refl alone-sound (room early (anchor_in q).tag (omega arith))))
        (ran-none _)))
