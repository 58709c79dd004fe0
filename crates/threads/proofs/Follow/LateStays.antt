-- A late Anchor stays late: whatever the records hold, no instruction lowers Anchor's tag.
use mathlib.Core.{Path.{◌≡◌, refl, ap, sym, subst}, Bool.{Bool, true, false, not}, List.List}
use Prim.Native.Nat.{ℕ, ◌<◌, ◌≤◌}
use native.Mathlib.Omega.{arith}
use lib.{Dec.eqb, ListN.get_or}
use borrow.Author.Tests.{eqb-true, ltb-true, lt-ltb}
use Rattle.word.specs.Anchor.{anchor_of}
use Rattle.model.specs.Outcomes.{Outcome}
use Rattle.model.specs.{declared.{Call.Call, Record.Record}, Sides.links, Sound.link_sound}
use Rattle.model.specs.{declared.Op.{Op, TheVariants.{Push, Pop, PushPooled, Step}}, Refusals.late}
use Rattle.model.specs.Tables.{Tables, task_at, marked, with_anchor, started, asking}
use Rattle.model.proofs.Tests.Truth.{either, by_test, not_both}
use Rattle.threads_model.specs.{declared.PlannedTouch.PlannedTouch, Split.{Touched, perform, plan}, Starts.own_refusal}
use Rattle.threads_model.specs.Instructions.{Hand, free, begun, loaded, knows, claims, looks, labels, marks, ends, tick}
use Rattle.threads_model.specs.Instructions.{Ticked, is_to_put, is_as_read, loads_own, puts_own, reads_next, at_once, one_word}
use Rattle.threads_model.specs.Instructions.{replaces, step_first, clears}
use Rattle.threads_model.specs.Crew.{Crew, Act, calls, next, takes_up, ticked, go}
use Rattle.threads.proofs.Follow.{Plans.{Two, says}, Starting.first_push_pooled}
use Rattle.threads.proofs.Follow.Starting.{claims-is, looks-is, plain_start, named_own, first_pop, first_push}

-- A push that has passed 33, and had no turn yet.
abbrev pub is_claims : Hand → Bool
is_claims free = false
is_claims (begun op) = false
is_claims (loaded w) = false
is_claims (knows label) = false
is_claims (claims side slot label) = true
is_claims (looks side slot label) = false
is_claims (labels both slot label task o) = false
is_claims (marks slot task o) = false
is_claims (ends task o) = false

-- A thread that found Anchor late finds it late still.
abbrev pub HandLate : Tables → Hand → Type 0
HandLate q free = Unit {0}
HandLate q (begun op) = Unit {0}
HandLate q (loaded w) = Unit {0}
HandLate q (knows label) = Unit {0}
HandLate q (claims side slot label) = Unit {0}
HandLate q (looks side slot label) = late q.control ≡ true
HandLate q (labels both slot label task o) = Unit {0}
HandLate q (marks slot task o) = Unit {0}
HandLate q (ends task o) = Unit {0}

abbrev pub Late : Crew → Hand → Type 0
Late m k = HandLate m.queue.tables k

abbrev IsLate : Tables → Type 0
IsLate q = late q.control ≡ true

module _ (q : Tables) (l : IsLate q) where
  raised : (w e : ℕ) → eqb q.control.anchor e ≡ true → (anchor_of e).tag ≤ (anchor_of w).tag → IsLate (with_anchor q w)
  raised w e is le =
      let z = ltb-true _ _ l in
      let same : (anchor_of q.control.anchor).tag ≡ (anchor_of e).tag = ap (λ (x : ℕ). (anchor_of x).tag) (eqb-true _ _ is) in
      lt-ltb 4294967262 (anchor_of w).tag (above (anchor_of q.control.anchor).tag (anchor_of e).tag (anchor_of w).tag z same le)
    where
      above : (a b c : ℕ) → 4294967262 < a → a ≡ b → b ≤ c → 4294967262 < c
      above a b c x y z = omega arith

  abbrev Leaves : Touched → Type 0
  Leaves d = IsLate d.tables

  performs : (p : PlannedTouch) → (p.act ≡ 2 → Two p) → Leaves (perform q p)
  unfolding perform
  performs p two =
      let anchor = q.control.anchor in
      let head = q.control.head in
      let link = get_or (links q p.side) p.slot 0 in
      either Leaves (eqb p.act 1) l
      (by_test Leaves (eqb p.act 2)
      (λ e. by_test IsLate (eqb anchor p.expected) (λ z. raised p.word p.expected z (two (eqb-true _ _ e))) (λ _. l))
      (λ _. either Leaves (eqb p.act 3) l
      (either Leaves (eqb p.act 4) (either IsLate (eqb link p.expected) l l)
      (either Leaves (eqb p.act 5) (either IsLate (link_sound q.control.slots link) l l)
      (either Leaves (eqb p.act 6) l
      (either Leaves (eqb p.act 7) l
      (either Leaves (eqb p.act 8) (either IsLate (eqb head p.expected) l l)
      (either Leaves (eqb p.act 9) (either IsLate (eqb head p.expected) l l)
      (either Leaves (eqb p.act 10) l
      (either Leaves (eqb p.act 11) l l))))))))))

  module _ (pooled slots : ℕ) (r : Record) where
    abbrev Ticks : Ticked → Type 0
    Ticks k = IsLate k.tables

    abbrev p : PlannedTouch
    p = plan pooled slots r.call

    loads_own_lem : Ticks (loads_own pooled slots q r)
    unfolding loads_own
    loads_own_lem = either Ticks (is_to_put slots p (get_or (links q p.side) p.slot 0)) l l

    puts_own_lem : (w : ℕ) → Ticks (puts_own pooled slots q r w)
    unfolding puts_own
    puts_own_lem w = either Ticks (is_as_read q p w) l loads_own_lem

    reads-next : Ticks (reads_next pooled slots q r)
    unfolding reads_next
    reads-next = either Ticks (eqb (get_or q.next p.slot 0) p.word) l l

    at-once : Ticks (at_once pooled slots q r)
    unfolding at_once
    at-once = performs p (says pooled slots r.call).two

    one_word_lem : Ticks (one_word pooled slots q r)
    unfolding one_word
    one_word_lem = either Ticks (eqb p.act 11) reads-next at-once

    replacing : (w : ℕ) → Ticks (replaces pooled slots q r w)
    unfolding replaces
    replacing w = either Ticks (eqb p.act 11) at-once (puts_own_lem w)

    steps : Ticks (step_first pooled slots q r)
    unfolding step_first
    steps =
        either Ticks (eqb p.act 5) loads_own_lem
        (either Ticks (eqb p.act 6) l
        (either Ticks (eqb p.act 9) (either Ticks (eqb q.control.head p.expected) l l) one_word_lem))

    ticks : (k : Hand) → Ticks (tick pooled slots q r k)
    unfolding clears
    ticks free = l
    ticks (begun (Push side slot label)) =
        subst Ticks (sym (first_push q r pooled slots side slot label))
        (either Ticks (eqb (named_own pooled slots r.call side slot) 0) (either Ticks (late q.control) l l) l)
    ticks (begun (Pop side)) =
        subst Ticks (sym (first_pop q r pooled slots side))
        (either Ticks (eqb (own_refusal pooled slots r.call side false false) 0) (either Ticks (late q.control) l l) l)
    ticks (begun (PushPooled side label)) =
        subst Ticks (sym (first_push_pooled q r pooled slots side label))
        (either Ticks (eqb (own_refusal pooled slots r.call side (not (eqb pooled 1)) false) 0) (either Ticks (late q.control) l l) l)
    ticks (begun Step) = steps
    ticks (loaded w) = replacing w
    ticks (knows label) = l
    ticks (claims side slot label) = subst Ticks (sym (claims-is q r side slot label)) (either Ticks (marked q.marks slot) l l)
    ticks (looks side slot label) = subst Ticks (sym (looks-is q r side slot label)) l
    ticks (labels both slot label task o) = l
    ticks (marks slot task o) = l
    ticks (ends task o) = l

-- Acts and lists of acts.
module _ (pooled slots : ℕ) where
  abbrev LateIn : Crew → Type 0
  LateIn m = IsLate m.queue.tables

  pub go-late : (m : Crew) (a : Act) → LateIn m → LateIn (go pooled slots m a)
  unfolding go
  go-late m (calls o) l = l
  go-late m (next t) l = ticks m.queue.tables l pooled slots (task_at m.queue t) (m.hands t)

  -- Each thread that has found Anchor late.
  abbrev pub AllLate : Crew → Type 0
  AllLate m = (u : ℕ) → Late m (m.hands u)

  keeps : (m m' : Crew) (k : Hand) → (LateIn m → LateIn m') → Late m k → Late m' k
  keeps m m' free f h = tt
  keeps m m' (begun op) f h = tt
  keeps m m' (loaded w) f h = tt
  keeps m m' (knows label) f h = tt
  keeps m m' (claims side slot label) f h = tt
  keeps m m' (looks side slot label) f h = f h
  keeps m m' (labels both slot label task o) f h = tt
  keeps m m' (marks slot task o) f h = tt
  keeps m m' (ends task o) f h = tt

  up_late : (m : Crew) (k : Hand) (op : Op) → Late m k → Late m (takes_up k op)
  up_late m free op h = tt
  up_late m (begun o) op h = tt
  up_late m (loaded w) op h = tt
  up_late m (knows label) op h = tt
  up_late m (claims side slot label) op h = tt
  up_late m (looks side slot label) op h = h
  up_late m (labels both slot label task o) op h = tt
  up_late m (marks slot task o) op h = tt
  up_late m (ends task o) op h = tt

  -- What an instruction of a hand k₀ leaves: a hand that looks has found Anchor late, one that claims a slot early; only one that claims passes 33.
  pub record LateAfter (k₀ : Hand) (k : Ticked) : Type 0 where
    pub hand : HandLate k.tables k.hand
    pub claim : is_claims k.hand ≡ true → late k.tables.control ≡ false
    pub early : is_claims k₀ ≡ false → k.early ≡ false

  module _ (q : Tables) (r : Record) where
    abbrev planned : PlannedTouch
    planned = plan pooled slots r.call

    ending : (k₀ : Hand) (q : Tables) (task : Record) (o : Outcome) (ds : List Op) → LateAfter k₀
        (record { tables = q; hand = ends task o; decides = ds; early = false })
    ending k₀ q task o ds = record { hand = tt; claim = λ e. absurd (not_both e refl); early = λ _. refl }

    loads-left : (k₀ : Hand) → LateAfter k₀ (loads_own pooled slots q r)
    unfolding loads_own
    loads-left k₀ =
        either (LateAfter k₀) (is_to_put slots planned (get_or (links q planned.side) planned.slot 0))
        (record { hand = tt; claim = λ e. absurd (not_both e refl); early = λ _. refl })
        (ending k₀ _ _ _ _)

    puts-left : (k₀ : Hand) (w : ℕ) → LateAfter k₀ (puts_own pooled slots q r w)
    unfolding puts_own
    puts-left k₀ w = either (LateAfter k₀) (is_as_read q planned w) (ending k₀ _ _ _ _) (loads-left k₀)

    next-left : (k₀ : Hand) → LateAfter k₀ (reads_next pooled slots q r)
    unfolding reads_next
    next-left k₀ =
        either (LateAfter k₀) (eqb (get_or q.next planned.slot 0) planned.word) (ending k₀ _ _ _ _)
        (record { hand = tt; claim = λ e. absurd (not_both e refl); early = λ _. refl })

    once-left : (k₀ : Hand) → LateAfter k₀ (at_once pooled slots q r)
    unfolding at_once
    once-left k₀ = ending k₀ _ _ _ _

    word-left : (k₀ : Hand) → LateAfter k₀ (one_word pooled slots q r)
    unfolding one_word
    word-left k₀ = either (LateAfter k₀) (eqb planned.act 11) (next-left k₀) (once-left k₀)

    replaced_left : (k₀ : Hand) (w : ℕ) → LateAfter k₀ (replaces pooled slots q r w)
    unfolding replaces
    replaced_left k₀ w = either (LateAfter k₀) (eqb planned.act 11) (once-left k₀) (puts-left k₀ w)

    step_left : (k₀ : Hand) → LateAfter k₀ (step_first pooled slots q r)
    unfolding step_first
    step_left k₀ =
        either (LateAfter k₀) (eqb planned.act 5) (loads-left k₀)
        (either (LateAfter k₀) (eqb planned.act 6) (record { hand = tt; claim = λ e. absurd (not_both e refl); early = λ _. refl })
        (either (LateAfter k₀) (eqb planned.act 9)
        (either (LateAfter k₀) (eqb q.control.head planned.expected)
        (record { hand = tt; claim = λ e. absurd (not_both e refl); early = λ _. refl }) (ending k₀ _ _ _ _))
        (word-left k₀)))

    plain-left : (k₀ : Hand) (op : Op) (why : ℕ) (call : Call) (place : ℕ) → LateAfter k₀ (plain_start q r op why call place)
    plain-left k₀ op why call place =
        either (LateAfter k₀) (eqb why 0) (either (LateAfter k₀) (late q.control) (ending k₀ _ _ _ _) (ending k₀ _ _ _ _)) (ending k₀ _ _ _ _)

    pub tick-left : (k : Hand) → LateAfter k (tick pooled slots q r k)
    unfolding clears
    tick-left free = record { hand = tt; claim = λ e. absurd (not_both e refl); early = λ _. refl }
    tick-left (begun (Push side slot label)) =
        let k₀ = begun (Push side slot label) in
        subst (LateAfter k₀) (sym (first_push q r pooled slots side slot label))
        (either (LateAfter k₀) (eqb (named_own pooled slots r.call side slot) 0)
        (by_test (LateAfter k₀) (late q.control) (λ e. record { hand = e; claim = λ e. absurd (not_both e refl); early = λ _. refl })
        (λ e. record { hand = tt; claim = λ _. e; early = λ _. refl }))
        (ending k₀ _ _ _ _))
    tick-left (begun (Pop side)) = subst (LateAfter (begun (Pop side))) (sym (first_pop q r pooled slots side))
        (plain-left (begun (Pop side)) (Pop side) (own_refusal pooled slots r.call side false false) (started 1 side 0 0) 1)
    tick-left (begun (PushPooled side label)) =
        subst (LateAfter (begun (PushPooled side label))) (sym (first_push_pooled q r pooled slots side label))
        (plain-left (begun (PushPooled side label)) (PushPooled side label) (own_refusal pooled slots r.call side (not (eqb pooled 1)) false)
        (asking side label) 12)
    tick-left (begun Step) = step_left (begun Step)
    tick-left (loaded w) = replaced_left (loaded w) w
    tick-left (knows label) = ending (knows label) _ _ _ _
    tick-left (claims side slot label) =
        let k₀ = claims side slot label in
        subst (LateAfter k₀) (sym (claims-is q r side slot label))
        (either (LateAfter k₀) (marked q.marks slot)
        (record { hand = tt; claim = λ e. absurd (not_both e refl); early = λ e. absurd (not_both refl e) })
        (record { hand = tt; claim = λ e. absurd (not_both e refl); early = λ e. absurd (not_both refl e) }))
    tick-left (looks side slot label) = subst (LateAfter (looks side slot label)) (sym (looks-is q r side slot label)) (ending (looks side slot label) q _ _ _)
    tick-left (labels true slot label task o) = record { hand = tt; claim = λ e. absurd (not_both e refl); early = λ _. refl }
    tick-left (labels false slot label task o) = record { hand = tt; claim = λ e. absurd (not_both e refl); early = λ _. refl }
    tick-left (marks slot task o) = record { hand = tt; claim = λ e. absurd (not_both e refl); early = λ _. refl }
    tick-left (ends task o) = record { hand = tt; claim = λ e. absurd (not_both e refl); early = λ _. refl }

  pub go_all_late : (m : Crew) (a : Act) → AllLate m → AllLate (go pooled slots m a)
  unfolding go
  go_all_late m (calls o) h u =
      by_test (Late m) (eqb u o.task) (λ e. up_late m (m.hands o.task) o.op (h o.task)) (λ e. h u)
  go_all_late m (next t) h u =
      let k = ticked pooled slots m t in
      by_test (HandLate k.tables) (eqb u t) (λ e. (tick-left m.queue.tables (task_at m.queue t) (m.hands t)).hand)
      (λ e. keeps m (go pooled slots m (next t)) (m.hands u) (go-late m (next t)) (h u))
