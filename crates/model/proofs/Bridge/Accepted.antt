-- What an accepted start or step tells of the tables.
use mathlib.Core.{Bool.{◌&&◌, false, true}, Logic.◌≢◌, Path.{◌≡◌, refl}}
use Prim.Native.Nat.{◌<◌, ◌≤◌, ℕ}
use lib.ListN.{length}
use borrow.Author.Tests.{eqb-false, eqb-true, leb-true, ltb-true, not-false}
use Rattle.model.specs.{Places.word_found, Lists.All, declared.Asked.Asked, Refusals.{step_sound, step_tests}}
use Rattle.model.specs.Refusals.{Rule, among, fits, late, start_rules, start_refusal, named_push, pooled_push}
use Rattle.model.specs.Refusals.{nothing_asked, pop_refusal, push_refusal, push_pooled_refusal, step_refusal, step_rules}
use Rattle.model.specs.Tables.{Queue, is_pooled, marked, record_at}
use Rattle.model.proofs.Tests.{Rules.{cleared, tests}, Truth.and-true}
use Rattle.model.proofs.Bridge.{Decoded.RoomAt, Room.room_tested, View.place_of, Facts.rows_fine}
use Rattle.model.proofs.Bridge.Facts.{ControlFine, RecordFine, RowsFine, control_fine, from1_true, record_fine}

module _ (q : Queue) (t : ℕ) where
  -- The tables are long enough, and the task is known.
  pub record Lies : Type 0 where
    pub rows : RowsFine q.tables
    pub length : q.tables.control.tasks ≤ length q.records
    pub known : t < q.tables.control.tasks

  pub record Stepping : Type 0 where
    pub lies : Lies
    pub control : ControlFine q.tables.control
    pub fine : RecordFine (is_pooled q.tables.control) q.tables.control.slots (record_at q t)
    pub busy : (record_at q t).place ≢ 0
    pub room : RoomAt q.tables (record_at q t) (place_of (record_at q t).place)

  pub record Starting (d : ℕ) : Type 0 where
    pub lies : Lies
    pub side : d ≤ 1
    pub free : (record_at q t).place ≡ 0
    pub early : late q.tables.control ≡ false

  pub record Pushing (side slot : ℕ) : Type 0 where
    pub starting : Starting side
    pub real : 1 ≤ slot
    pub within : slot ≤ q.tables.control.slots
    pub unmarked : marked q.tables.marks slot ≡ false
    pub named : is_pooled q.tables.control ≡ false

  pub lies : fits q.tables && (among q t).enough ≡ true → (among q t).known ≡ true → Lies
  lies e k =
      let z = and-true (fits q.tables) (among q t).enough e in
      record { rows = rows_fine q.tables z.0; length = leb-true _ _ z.1; known = ltb-true _ _ k }

  -- No rule of a start applies.
  module _ (side : ℕ) (a : Asked) (e : start_refusal q.tables.control (fits q.tables) (among q t) (record_at q t) side a ≡ 0) where
    abbrev passed : All (λ (r : Rule). r.applies ≡ false) (start_rules q.tables.control (fits q.tables) (among q t) (record_at q t) side a)
    unfolding start_refusal
    passed = cleared (start_rules q.tables.control (fits q.tables) (among q t) (record_at q t) side a) refl e

    start-accepted : Starting side
    start-accepted =
        let asked = passed.1.1.1 in
        let rest = asked.1.1.1.1 in
        record {
          lies = lies (not-false _ passed.1.0) (not-false _ passed.1.1.0);
          side = leb-true _ _ (not-false _ asked.0);
          free = eqb-true _ _ (not-false _ rest.0);
          early = rest.1.1.0;
        }

    right_push : a.wrong ≡ false
    right_push = passed.1.1.1.1.0

    slot_inside : a.outside ≡ false
    slot_inside = passed.1.1.1.1.1.0

    slot_free : a.taken ≡ false
    slot_free = let rest = passed.1.1.1.1.1.1 in rest.1.1.0

  pub push_accepted : (side slot : ℕ) → push_refusal q.tables (among q t) (record_at q t) side slot ≡ 0 → Pushing side slot
  push_accepted side slot e =
      let a = named_push q.tables slot in
      let s = from1_true q.tables.control.slots slot (not-false _ (slot_inside side a e)) in
      record {
        starting = start-accepted side a e;
        real = s.0;
        within = s.1;
        unmarked = slot_free side a e;
        named = right_push side a e;
      }

  pub push_pooled_accepted : (side : ℕ) → push_pooled_refusal q.tables (among q t) (record_at q t) side ≡ 0
      → Starting side × (is_pooled q.tables.control ≡ true)
  push_pooled_accepted side e = let a = pooled_push q.tables in (start-accepted side a e, not-false _ (right_push side a e))

  pub pop_accepted : (side : ℕ) → pop_refusal q.tables (among q t) (record_at q t) side ≡ 0 → Starting side
  pop_accepted side e = start-accepted side nothing_asked e

  pub step-accepted : step_refusal q.tables (among q t) (record_at q t) ≡ 0 → Stepping
  unfolding step_refusal step_sound
  step-accepted e =
      let r = record_at q t in
      let w = word_found q.tables r in
      let z = cleared (step_rules q.tables (among q t) r) refl e in
      let b = eqb-false r.place 0 z.1.1.1.1.0 in
      let h = record_fine (is_pooled q.tables.control) q.tables.control.slots r (not-false _ z.1.1.1.0) b in
      let y = tests (step_tests q.tables.control r w) (not-false _ z.1.1.1.1.1.0) in
      record {
        lies = lies (not-false _ z.1.0) (not-false _ z.1.1.0);
        control = control_fine q.tables.control (not-false _ z.0);
        fine = h;
        busy = b;
        room = room_tested q.tables r b h.place y.1.1.1.0;
      }
