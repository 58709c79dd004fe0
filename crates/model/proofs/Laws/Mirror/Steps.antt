-- A step of the mirrored record: refused for the same reason, or carried out as the mirror of the step.
use mathlib.Core.{Path.{◌≡◌, refl, ap, ◌∙◌, sym}, Bool.{Bool, true, false, ◌&&◌, ◌||◌, not, cond}, List.{[], ◌∷◌}}
use Prim.Native.Nat.{ℕ}
use lib.{Dec.{eqb, leb, ltb}, ListN.get_or}
use borrow.Author.Tests.{eqb-true, not-false}
use Rattle.model.specs.Outcomes.{Moved, Refused}
use Rattle.model.specs.declared.{Control.Control, Call.Call, Record.Record}
use Rattle.model.specs.{Tables.{at_place, Tables, is_pooled, idle, with_call}, Places.{set_next, set_head, Move, move}}
use Rattle.model.specs.{Sound.{from1, link_sound, control_sound, record_sound, rows_fit}, Sides.opposite, Lists.every}
use Rattle.model.specs.Places.{side_of, row, word_found, Touch, nothing, set_anchor, set_link, clear_mark, take_slot}
use Rattle.model.specs.{Route.{route, onward, answer, goes, counted}, Calls.{Acted, decide, finish, step}}
use Rattle.model.specs.Refusals.{Lent, rule, first, needs_row, meets_link, meets_head, leaves_sound, has_room}
use Rattle.model.specs.Refusals.{step_sound, step_rules, step_refusal}
use Rattle.model.specs.Mirror.{mirror_task, mirror_control, mirror_tables, mirror_busy, mirror_record, mirror_acted}
use Rattle.model.proofs.{Laws.{SoundRecord.sound_record, Onward.leads_on}, Tests.Rules.cleared}
use Rattle.model.proofs.Laws.Mirror.Sides.{side_mirror, row_mirror, link_met_mirror}
use Rattle.model.proofs.Laws.Mirror.Sound.{word_sound_mirror, tag_mirror, control_sound_mirror, place_mirror}
use Rattle.model.proofs.Laws.Mirror.Sound.{record_sound_mirror, rows_fit_mirror}
use Rattle.model.proofs.Laws.Mirror.Moves.{mirror_touch, mirror_move, apply_mirror, move_mirror}

pub busy_record : (r : Call) → eqb r.place 0 ≡ false → mirror_record r ≡ mirror_busy r
unfolding mirror_record
busy_record r e = ap (λ (b : Bool). cond b r (mirror_busy r)) e

-- A busy, sound record steps on the opposite side.
turned : (pooled : Bool) (slots : ℕ) (r : Call) → record_sound pooled slots r ≡ true → eqb r.place 0 ≡ false
    → side_of (mirror_busy r) ≡ opposite (side_of r)
turned pooled slots r sound busy = let facts = sound_record pooled slots r sound busy in side_mirror r facts.side facts.status facts.unstable

leaves_mirror : (slots : ℕ) (t : Touch) → leaves_sound slots (mirror_touch t) ≡ leaves_sound slots t
leaves_mirror slots nothing = refl
leaves_mirror slots (set_anchor w) = word_sound_mirror slots w
leaves_mirror slots (set_link side x w) = refl
leaves_mirror slots (clear_mark x) = refl
leaves_mirror slots (take_slot w x l) = refl
leaves_mirror slots (set_next x v) = refl
leaves_mirror slots (set_head w) = refl

room_mirror : (r : Call) (t : Touch) → has_room (mirror_busy r) (mirror_touch t) ≡ has_room r t
room_mirror r nothing = refl
room_mirror r (set_anchor w) = ap (λ (n : ℕ). ltb n 4294967295) (tag_mirror r.seen)
room_mirror r (set_link side x w) = refl
room_mirror r (clear_mark x) = refl
room_mirror r (take_slot w x l) = refl
room_mirror r (set_next x v) = refl
room_mirror r (set_head w) = refl

step_sound_mirror : (c : Control) (r : Call) (w : ℕ) → side_of (mirror_busy r) ≡ opposite (side_of r)
    → step_sound (mirror_control c) (mirror_busy r) w ≡ step_sound c r w
unfolding step_sound
step_sound_mirror c r w side =
    let same = move_mirror c r w side in
    let leaves = ap (λ (m : Move). leaves_sound c.slots m.touch) same ∙ leaves_mirror c.slots (move c r w).touch in
    let room = ap (λ (m : Move). has_room (mirror_busy r) m.touch) same ∙ room_mirror r (move c r w).touch in
    λ i. every (
    (not (needs_row r) || from1 c.slots (row_mirror r side i))
    ∷ (not (meets_link r) || link_sound c.slots w)
    ∷ leaves i
    ∷ room i
    ∷ (not (meets_head r) || link_sound c.slots c.head)
    ∷ (not (eqb r.place 13) || leb w c.slots)
    ∷ []
    )

module _ (q : Tables) (r : Call) where
  -- The last rule is asked of busy, sound records alone.
  last-rule : record_sound (is_pooled q.control) q.control.slots r ≡ true → eqb r.place 0 ≡ false
      → step_sound (mirror_control q.control) (mirror_record r) (word_found (mirror_tables q) (mirror_record r)) ≡ step_sound q.control r (word_found q r)
  last-rule sound busy =
      let side = turned (is_pooled q.control) q.control.slots r sound busy in
      ap (λ (x : Call). step_sound (mirror_control q.control) x (word_found (mirror_tables q) x)) (busy_record r busy)
      ∙ ap (step_sound (mirror_control q.control) (mirror_busy r)) (link_met_mirror r side q)
      ∙ step_sound_mirror q.control r (word_found q r) side

  last_three : (sound idles x y : Bool) → (sound ≡ true → idles ≡ false → x ≡ y)
      → first (rule 34 (not sound) ∷ rule 31 idles ∷ rule 34 (not x) ∷ []) ≡ first (rule 34 (not sound) ∷ rule 31 idles ∷ rule 34 (not y) ∷ [])
  last_three false idles x y h = refl
  last_three true true x y h = refl
  last_three true false x y h = ap (λ (b : Bool). first (rule 34 (not b) ∷ [])) (h refl refl)

  step_refusal_mirror : (p : Lent) → step_refusal (mirror_tables q) p (mirror_record r) ≡ step_refusal q p r
  unfolding step_refusal
  step_refusal_mirror p =
      rw (
        control_sound_mirror q.control,
        rows_fit_mirror (is_pooled q.control) q.control.slots q,
        record_sound_mirror (is_pooled q.control) q.control.slots r,
        ap (λ (n : ℕ). eqb n 0) (place_mirror r),
      )
      (ap (λ (n : ℕ). first (rule 34 (not (control_sound q.control))
      ∷ rule 12 (not (rows_fit (is_pooled q.control) q.control.slots q && p.enough)) ∷ rule 13 (not p.known) ∷ rule n true ∷ []))
      (last_three (record_sound (is_pooled q.control) q.control.slots r) (eqb r.place 0) _ _ last-rule))

-- The record gone on.
goes_mirror : (r : Call) (n : ℕ) → eqb n 0 ≡ false → goes (mirror_busy r) n ≡ mirror_record (goes r n)
unfolding goes mirror_record
goes_mirror r n h = go (leb n 17)
  where
    go : (b : Bool) → cond b (mirror_busy (at_place r n)) idle ≡ mirror_record (cond b (at_place r n) idle)
    go true = sym (busy_record (at_place r n) h)
    go false = refl

finish_mirror : (q : Tables) (r : Record) (m : Move) → row (mirror_busy r.call) ≡ row r.call
    → eqb (onward (route r.call.place r.call.kind m.branch) m.task.finishing) 0 ≡ false
    → finish (mirror_tables q) (with_call r (mirror_busy r.call)) (mirror_move m) ≡ mirror_acted (finish q r m)
unfolding finish
finish_mirror q r m same on =
    let c = r.call in
    let n = onward (route c.place c.kind m.branch) m.task.finishing in
    λ i. record {
      tables = apply_mirror m.touch q i;
      task = record { call = goes_mirror m.task n on i; retries = counted r.retries m.failed };
      outcome = Moved (answer n (record { slot = same i; label = cond (eqb c.place 17) c.label (get_or q.labels (same i) 0) }));
    }

-- Refused, or carried out.
pub decide_mirror : (why : ℕ) (q : Tables) (r : Record) (done done' : Acted) → (why ≡ 0 → done' ≡ mirror_acted done)
    → decide why (mirror_tables q) (mirror_task r) done' ≡ mirror_acted (decide why q r done)
decide_mirror why q r done done' h = go (eqb why 0) refl
  where
    go : (b : Bool) → eqb why 0 ≡ b → cond b done' (record { tables = mirror_tables q; task = mirror_task r; outcome = Refused why })
        ≡ mirror_acted (cond b done (record { tables = q; task = r; outcome = Refused why }))
    go true e = h (eqb-true why 0 e)
    go false e = refl

abbrev carried : Tables → Record → Acted
carried q r = finish q r (move q.control r.call (word_found q r.call))

carried_mirror : (q : Tables) (r : Record) → record_sound (is_pooled q.control) q.control.slots r.call ≡ true
    → eqb r.call.place 0 ≡ false
    → carried (mirror_tables q) (mirror_task r) ≡ mirror_acted (carried q r)
carried_mirror q r sound busy =
    let c = r.call in
    let side = turned (is_pooled q.control) q.control.slots c sound busy in
    ap (λ (x : Call). carried (mirror_tables q) (with_call r x)) (busy_record c busy)
    ∙ ap (λ (w : ℕ). finish (mirror_tables q) (with_call r (mirror_busy c)) (move (mirror_control q.control) (mirror_busy c) w))
    (link_met_mirror c side q)
    ∙ ap (finish (mirror_tables q) (with_call r (mirror_busy c))) (move_mirror q.control c (word_found q c) side)
    ∙ finish_mirror q r (move q.control c (word_found q c)) (row_mirror c side)
    (leads_on (is_pooled q.control) q.control.slots q.control c (word_found q c) sound busy)

pub step_mirror : (q : Tables) (p : Lent) (r : Record) → step (mirror_tables q) p (mirror_task r) ≡ mirror_acted (step q p r)
unfolding step step_refusal
step_mirror q p r =
    ap (λ (why : ℕ). decide why (mirror_tables q) (mirror_task r) (carried (mirror_tables q) (mirror_task r))) (step_refusal_mirror q r.call p)
    ∙ decide_mirror (step_refusal q p r.call) q r (carried q r) (carried (mirror_tables q) (mirror_task r)) go
  where
    go : step_refusal q p r.call ≡ 0 → carried (mirror_tables q) (mirror_task r) ≡ mirror_acted (carried q r)
    go e = let passed = cleared (step_rules q p r.call) refl e in carried_mirror q r (not-false _ passed.1.1.1.0) passed.1.1.1.1.0
