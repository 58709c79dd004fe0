-- What a call answers: a refusal, the schedule that the search found, or no more.
use mathlib.Core.{Path.{◌≡◌, refl, sym, ap, ◌∙◌}, Bool.{Bool, true, false, ◌&&◌, not, cond}, List.{List, [], ◌∷◌}}
use Prim.Native.Nat.{ℕ, ◌+◌, ◌≤◌}
use native.Mathlib.Omega.{arith}
use lib.{Dec.{eqb, leb}, ListN.{length, get_or, set}, Seq.sets}
use borrow.Author.Tests.{ne_eqb, leb-true}
use Rattle.std.specs.Prelude.{Option, Some, None}
use Rattle.model.specs.{declared.{Call.Call, Record.Record}, Tables.{Tables, Queue, is_pooled, unused}, Report.waiting}
use Rattle.model.specs.{Sound.{control_sound, rows_fit}, Walk.{Walk, entries, broken, contents, is_broken, met}}
use Rattle.model.{specs.Refusals.{Rule, rule, first, table_rules, records_fit}, proofs.Tests.Truth.and-true}
use Rattle.std.specs.Prelude.{Result}
use Rattle.sound.specs.{declared.Lengths.Lengths, Lengths.{lengths_of, lengths_fit, tables_fit}}
use Rattle.walk.specs.{declared.Unsound.Unsound, Counted.counted}
use Rattle.schedule_model.specs.{declared.ScheduleReply.ScheduleReply, Schedules.all_schedules}
use Rattle.schedule_model.specs.Next.{Next, given, no_more, memory_length, remembered, first_after, storing, two_at_work}
use Rattle.schedule_model.{specs.Next.{schedule_refusal, handing, next_schedule}, proofs.TwoRecords.two_records}
use Rattle.schedule_model.proofs.{Admitted.memory, AnyStep.seek_of, OnlyUnsound.{Ready, ready}, Searched.finds}
use Rattle.schedule_search.specs.{declared.Found.Found, Sought.{seeking, Sought, sought}}
use Rattle.schedule_search.proofs.{Seeking.handed, Stepping.sets_above, Unasked.unasked}
use Rattle.schedule.specs.Answered.{refusal_after, Begins, Answered, answered}

abbrev pub told : ScheduleReply → List ℕ → Tables → Answered
told r ws q = record { handed = record { reply = r; memory = ws }; tables = q }

-- Nothing was found, and all is as it was.
none_told : (ws ws' : List ℕ) (q q' : Queue) (m : Next) → handed None ws' q' ≡ sought 48 ws m q
    → told (record { code = 0; ending = 3; length = 0 }) ws' q'.tables ≡ record { handed = handing ws m; tables = q.tables }
unfolding sought
none_told ws ws' q q' (given s) e = absurd (let z : None ≡ Some _ = ap (λ (z : Sought). z.found) e in cc)
none_told ws ws' q q' no_more e = ap (λ (z : Sought). told (record { code = 0; ending = 3; length = 0 }) z.memory z.queue.tables) e

-- A schedule was found and stored; its length goes into word 0.
some_told : (f : Found) (ws ws' : List ℕ) (q q' : Queue) (m : Next) → handed (Some f) ws' q' ≡ sought 48 ws m q
    → told (record { code = 0; ending = f.ending; length = f.length }) (set ws' 0 f.length) q'.tables
    ≡ record { handed = handing ws m; tables = q.tables }
unfolding sought storing
some_told f ws ws' q q' no_more e = absurd (let z : Some f ≡ None = ap (λ (z : Sought). z.found) e in cc)
some_told f ws ws' q q' (given s) e =
    let found : Some f ≡ Some (record { length = 0 + length s.steps; ending = s.ending }) = ap (λ (z : Sought). z.found) e in
    let is : f ≡ record { length = 0 + length s.steps; ending = s.ending } = cc in
    let n : f.length ≡ length s.steps = ap (λ (z : Found). z.length) is ∙ omega arith in
    let stored : set ws' 0 f.length ≡ sets ws 0 (length s.steps ∷ s.steps) =
    ap (λ (z : Sought). set z.memory 0 f.length) e
    ∙ ap (λ (k : ℕ). set (sets ws 1 s.steps) 0 k) n
    ∙ sets_above ws s.steps 1 0 (length s.steps) (omega arith)
    in
    λ i.
    told (record { code = 0; ending = (is i).ending; length = n i }) (stored i) (e i).queue.tables

-- The search was bound by the whole list.
module _ (ws ws' : List ℕ) (len : ℕ) (q q' : Queue) (whole : len ≡ memory_length ws) where
  abbrev answer : Answered
  answer = record { handed = handing ws (seeking ws (memory_length ws) 48 false q); tables = q.tables }

  all : (f : Option Found) → handed f ws' q' ≡ sought 48 ws (seeking ws len 48 false q) q
      → handed f ws' q' ≡ sought 48 ws (seeking ws (memory_length ws) 48 false q) q
  all f found = found ∙ ap (λ (n : ℕ). sought 48 ws (seeking ws n 48 false q) q) whole

  pub no-more : handed None ws' q' ≡ sought 48 ws (seeking ws len 48 false q) q
      → told (record { code = 0; ending = 3; length = 0 }) ws' q'.tables ≡ answer
  no-more found = none_told ws ws' q q' (seeking ws (memory_length ws) 48 false q) (all None found)

  pub next-found : (f : Found) → handed (Some f) ws' q' ≡ sought 48 ws (seeking ws len 48 false q) q
      → (ws'' : List ℕ) → ws'' ≡ set ws' 0 f.length
      → told (record { code = 0; ending = f.ending; length = f.length }) ws'' q'.tables ≡ answer
  next-found f found ws'' e =
      ap (λ (l : List ℕ). told (record { code = 0; ending = f.ending; length = f.length }) l q'.tables) e
      ∙ some_told f ws ws' q q' (seeking ws (memory_length ws) 48 false q) (all (Some f) found)

-- Two records with the tables.
abbrev pub pair_of : Tables → Record → Record → Queue
pair_of q a b = record { tables = q; records = a ∷ b ∷ [] }

-- The records beyond the first two do not count.
same_search : (ws : List ℕ) (q : Tables) (rs : List Record) → 49 ≤ length ws → q.control.tasks ≡ 2 → q.control.tasks ≤ length rs
    → seek_of ws (memory_length ws) 48 false (pair_of q (get_or rs 0 unused) (get_or rs 1 unused))
    ≡ first_after (remembered ws) (all_schedules (record { tables = q; records = rs }))
same_search ws q [] m two few = absurd (omega (arith, two, few))
same_search ws q (x ∷ []) m two few = absurd (omega (arith, two, few))
same_search ws q (x ∷ y ∷ rest) m two few =
    finds ws (pair_of q x y) m ∙ ap (first_after (remembered ws)) (sym (two_records 48 q x y rest two))

-- The rules in two parts.
first_part : (c f : Bool) (l : List Rule)
    → let n = first (rule 34 (not c) ∷ rule 12 (not f) ∷ []) in first (rule 34 (not c) ∷ rule 12 (not f) ∷ l) ≡ cond (eqb n 0) (first l) n
first_part true true l = refl
first_part true false l = refl
first_part false f l = refl

last-part : (two : Bool) (w : Walk)
    → first (rule 34 (is_broken w) ∷ rule 42 (not (two && leb (length (met w)) 4)) ∷ []) ≡ refusal_after two (counted w)
unfolding refusal_after
last-part two broken = refl
last-part two (entries l) = go (two && leb (length l) 4)
  where
    go : (b : Bool) → ◌≡◌ {A = ℕ} (cond (not b) 42 0) (cond b 0 42)
    go true = refl
    go false = refl

module _ (q : Tables) (rs : List Record) (n : ℕ) (a b : Call) (ws : List ℕ) (these : Begins rs n a b) where
  abbrev Q : Queue
  Q = record { tables = q; records = rs }

  -- The tests that the code makes.
  abbrev fit : Bool
  fit = rows_fit (is_pooled q.control) q.control.slots q && leb q.control.tasks n && leb 49 (length ws)

  abbrev two : Bool
  two = eqb q.control.tasks 2 && not (eqb a.place 0) && not (eqb b.place 0)

  abbrev before : ℕ
  before = first (table_rules q.control fit)

  two_is : two_at_work Q ≡ two
  two_is = λ i. eqb q.control.tasks 2 && not (eqb (these.first i).place 0) && not (eqb (these.second i).place 0)

  fit_is : (rows_fit (is_pooled q.control) q.control.slots q && records_fit q.control.tasks Q && leb 49 (length ws)) ≡ fit
  fit_is = ap (λ (k : ℕ). rows_fit (is_pooled q.control) q.control.slots q && leb q.control.tasks k && leb 49 (length ws)) these.count

  rules : schedule_refusal Q ws ≡ cond (eqb before 0) (refusal_after two (counted (contents q))) before
  unfolding schedule_refusal waiting
  rules =
      rw (fit_is, two_is)
      (first_part (control_sound q.control) fit (rule 34 (is_broken (contents q)) ∷ rule 42 (not (two && leb (length (met (contents q))) 4)) ∷ [])
      ∙ ap (λ (k : ℕ). cond (eqb before 0) k before) (last-part two (contents q)))

  -- The number found by the lengths is that of the tables.
  pub found : (why : ℕ) (t : Lengths) → t ≡ lengths_of q n → why ≡ first (table_rules q.control (tables_fit q.control t && leb 49 (length ws))) → why ≡ before
  unfolding lengths_fit rows_fit
  found why t m e = e ∙ ap (λ (l : Lengths). first (table_rules q.control (tables_fit q.control l && leb 49 (length ws)))) m

  pub refused-before : (why : ℕ) → why ≡ before → (why ≡ 0 → ⊥) → why ≡ schedule_refusal Q ws
  refused-before why e n = sym (rules ∙ rw (sym e, ne_eqb why 0 n) refl)

  pub refused-after : (first last : ℕ) (walk : Result ℕ Unsound) → first ≡ before → first ≡ 0 → walk ≡ counted (contents q) → last ≡ refusal_after two walk
      → last ≡ schedule_refusal Q ws
  refused-after first last walk e z w l = sym (rules ∙ rw (sym e, z) (ap (refusal_after two) (sym w) ∙ sym l))

module _ (q : Tables) (rs : List Record) (ws : List ℕ) where
  abbrev whole : Queue
  whole = record { tables = q; records = rs }

  -- A refusal says its number and leaves all as it was.
  pub turned_away : (why : ℕ) (r : ScheduleReply) → why ≡ schedule_refusal whole ws → (why ≡ 0 → ⊥) → r ≡ record { code = why; ending = 0; length = 0 }
      → told r ws q ≡ answered q rs ws
  unfolding next_schedule
  turned_away why r e n h = rw (sym e, ne_eqb why 0 n) (ap (λ (z : ScheduleReply). told z ws q) h)

  -- None applies: the search is the definition.
  pub accepted : (a b : Record) → schedule_refusal whole ws ≡ 0 → a ≡ get_or rs 0 unused → b ≡ get_or rs 1 unused
      → record { handed = handing ws (seeking ws (memory_length ws) 48 false (pair_of q a b)); tables = q } ≡ answered q rs ws
  unfolding next_schedule
  accepted a b ok ea eb =
      let r = ready whole ws ok in
      let sizes = and-true (rows_fit (is_pooled q.control) q.control.slots q) _ r.enough in
      let few : q.control.tasks ≤ length rs = leb-true _ _ sizes.1 in
      let these : Ready (pair_of q a b) = record { sound = r.sound; enough = rw (sizes.0, r.tasks) refl; tasks = r.tasks } in
      let found = unasked ws (memory_length ws) 48 false (pair_of q a b) these
      ∙ (λ i. seek_of ws (memory_length ws) 48 false (pair_of q (ea i) (eb i)))
      ∙ same_search ws q rs (memory whole ws ok) r.tasks few
      in
      rw ok (ap (λ (s : Next). record { handed = handing ws s; tables = q }) found)
