-- The instructions of a start.
use mathlib.Core.{Path.{◌≡◌, refl, ap, sym, subst, ◌∙◌}, Bool.{Bool, true, false, not, cond}}
use Prim.Native.Nat.{ℕ, ◌<◌, ◌/◌}
use native.Mathlib.Omega.{arith}
use lib.{Dec.eqb, ListN.length-set, Seq.get_or-set_other}
use borrow.Author.Tests.{eqb-true, eq-eqb, not-false}
use Rattle.model.specs.declared.{Call.Call, Record.Record, Op.{Op, TheVariants.{Push, Pop, PushPooled}}, Asked.Asked}
use Rattle.model.specs.Outcomes.{Moved, Refused}
use Rattle.model.specs.{declared.Answer.TheVariants.Running, Tables.with_taken}
use Rattle.model.specs.Tables.{Tables, Queue, task_at, record_at, marked, with_mark, with_marks, with_call, started, asking}
use Rattle.model.specs.{Sound.from1, Refusals.{among, late, named_push, pooled_push, nothing_asked, push_refusal}}
use Rattle.model.specs.Calls.{Acted, act, act_on, back, decide, push_start, pop_start, push_pooled_start}
use Rattle.model.proofs.{Tests.{Rules.cleared, Truth.{split, by_test, not_both}}, Bridge.Facts.from1_true}
use Rattle.model.proofs.Unsound.StartSafe.{Room}
use Rattle.threads_model.specs.{Turns.{act_early, take_early}, Starts.{own_rules, own_refusal, names, pops, puts}}
use Rattle.threads_model.specs.Instructions.{Hand, claims, looks, labels, ends, Ticked, start_first, claims_mark}
use Rattle.threads_model.specs.{Instructions.looks_mark, Crew.Crew}
use Rattle.threads.specs.Promises.{OwesLabel}
use Rattle.threads.proofs.Follow.Starting.{plain_start, named_own, first_pop, first_push_pooled, first_push}
use Rattle.threads.proofs.Follow.{Starting.{claims-is, looks-is}, Good.Good}
use Rattle.threads.proofs.Follow.Relation.{Holds, Moment, Sim, none, one}
use Rattle.threads.proofs.Follow.Good as own
use Rattle.threads.proofs.Follow.Instruction as I
use Rattle.threads.proofs.Follow.Clean as C
use Rattle.threads.proofs.Follow.Relation as R

-- Refusals in their order.
module _ (own : ℕ) (q : Tables) (r : Record) (done : Acted) where
  abbrev refused_by : ℕ → Acted
  refused_by why = record { tables = q; task = r; outcome = Refused why }

  decide_own : (x : ℕ) → eqb own 0 ≡ false → decide (cond (eqb own 0) x own) q r done ≡ refused_by own
  decide_own x e = rw (e, e)

  decide-next : (x : ℕ) → eqb own 0 ≡ true → decide (cond (eqb own 0) x own) q r done ≡ decide x q r done
  decide-next x e = rw e

  decide_taken : (with_taken late : Bool) → with_taken ≡ true → decide (cond with_taken 32 (cond late 33 0)) q r done ≡ refused_by 32
  decide_taken with_taken late e = rw e

  decide-late : (with_taken late : Bool) → late ≡ true → decide (cond with_taken 32 (cond late 33 0)) q r done ≡ refused_by (cond with_taken 32 33)
  decide-late true late e = refl
  decide-late false late e = rw e

  decide-done : (with_taken late : Bool) → with_taken ≡ false → late ≡ false → decide (cond with_taken 32 (cond late 33 0)) q r done ≡ done
  decide-done with_taken late e l = rw (e, l)

module _ (now : Moment) where
  abbrev tasks : ℕ
  tasks = now.tasks

  abbrev pooled : ℕ
  pooled = now.pooled

  abbrev slots : ℕ
  slots = now.slots

  abbrev m : Crew
  m = now.crew

  abbrev q : Queue
  q = now.queue

  abbrev f : Sim now.tasks now.pooled now.slots now.crew now.queue
  f = now.sim

  abbrev g : Good now.tasks now.pooled now.slots now.queue
  g = now.good

  abbrev t : ℕ
  t = now.thread

  abbrev lt : now.thread < now.tasks
  lt = now.known

  abbrev T : Tables
  T = now.crew.queue.tables

  abbrev G : Tables
  G = now.queue.tables

  abbrev r : Record
  r = task_at now.crew.queue now.thread

  abbrev Goal : Hand → Ticked → Type 0
  Goal = I.Goal now

  module _ (k₀ : Hand) (c : C.Clean now k₀) where
    late_is : late T.control ≡ late G.control
    late_is = ap late (R.control tasks pooled slots m q f g)

    start_is : (side : ℕ) (a : Asked) (n : ℕ)
        → own_refusal pooled slots (record_at q t) side a.wrong a.outside ≡ n
        → (done : Record → Acted) (op : Op)
        → act q t op ≡ back q t (decide (own.refusal tasks pooled slots q g t lt side a) G (task_at q t) (done (task_at q t)))
        → act q t op ≡ back q t (decide (cond (eqb n 0) (cond a.taken 32 (cond (late G.control) 33 0)) n) G r (done r))
    start_is side a n e done op is =
        is
        ∙ ap (λ (w : ℕ). back q t (decide w G (task_at q t) (done (task_at q t)))) (own.start_why tasks pooled slots q g t lt side a)
        ∙ ap (λ (n : ℕ). back q t (decide (cond (eqb n 0) (cond a.taken 32 (cond (late G.control) 33 0)) n) G (task_at q t) (done (task_at q t)))) e
        ∙ ap (λ (x : Record). back q t (decide (cond (eqb n 0) (cond a.taken 32 (cond (late G.control) 33 0)) n) G x (done x))) (sym c.reads)

    -- A pop, or a push that names no slot.
    plain_goal : (op : Op) (n : ℕ) (call : Call) (place : ℕ)
        → act q t op ≡ back q t (decide (cond (eqb n 0) (cond false 32 (cond (late G.control) 33 0)) n) G r
        (record { tables = G; task = with_call r call; outcome = Moved (Running place) }))
        → Goal k₀ (plain_start T r op n call place)
    plain_goal op n call place is =
        let done : Acted = record { tables = G; task = with_call r call; outcome = Moved (Running place) } in
        let x : ℕ = cond false 32 (cond (late G.control) 33 0) in
        by_test (Goal k₀) (eqb n 0)
        (λ e. by_test (Goal k₀) (late T.control)
        (λ l. C.plain now k₀ c op r (Refused 33)
        (is ∙ ap (back q t) (decide-next n G r done x e ∙ decide-late n G r done false (late G.control) (sym late_is ∙ l))))
        (λ l. C.plain now k₀ c op (with_call r call) (Moved (Running place))
        (is ∙ ap (back q t) (decide-next n G r done x e ∙ decide-done n G r done false (late G.control) refl (sym late_is ∙ l)))))
        (λ e. C.plain now k₀ c op r (Refused n) (is ∙ ap (back q t) (decide_own n G r done x e)))

    pub pop_goal : (side : ℕ) → Goal k₀ (start_first pooled slots T r (Pop side) (pops side))
    unfolding act act_on pop_start
    pop_goal side =
        subst (Goal k₀) (sym (first_pop T r pooled slots side))
        (plain_goal (Pop side) (own_refusal pooled slots r.call side false false) (started 1 side 0 0) 1
        (start_is side nothing_asked (own_refusal pooled slots r.call side false false)
        (ap (λ (x : Record). own_refusal pooled slots x.call side false false) (sym c.reads))
        (λ (x : Record). record { tables = G; task = with_call x (started 1 side 0 0); outcome = Moved (Running 1) }) (Pop side) refl))

    pub push_pooled_goal : (side label : ℕ) → Goal k₀ (start_first pooled slots T r (PushPooled side label) (puts side label))
    unfolding act act_on push_pooled_start
    push_pooled_goal side label =
        subst (Goal k₀) (sym (first_push_pooled T r pooled slots side label))
        (plain_goal (PushPooled side label) (own_refusal pooled slots r.call side (not (eqb pooled 1)) false) (asking side label) 12
        (start_is side (pooled_push G) (own_refusal pooled slots r.call side (not (eqb pooled 1)) false)
        (λ i. own_refusal pooled slots (sym c.reads i).call side (not (eqb (g.pool i) 1)) false)
        (λ (x : Record). record { tables = G; task = with_call x (asking side label); outcome = Moved (Running 12) }) (PushPooled side label) refl))

    -- A push that names a slot.
    module _ (side slot label : ℕ) where
      abbrev op : Op
      op = Push side slot label

      abbrev n : ℕ
      n = named_own pooled slots r.call side slot

      abbrev pushed : Record → Acted
      pushed x = record { tables = with_taken G slot label; task = with_call x (started 0 side slot label); outcome = Moved (Running 1) }

      abbrev x : ℕ
      x = cond (marked G.marks slot) 32 (cond (late G.control) 33 0)

      own_is : own_refusal pooled slots (record_at q t) side (named_push G slot).wrong (named_push G slot).outside ≡ n
      own_is = λ i. own_refusal pooled slots (sym c.reads i).call side (eqb (g.pool i) 1) (not (from1 (g.size i) slot))

      push_is : act q t op ≡ back q t (decide (cond (eqb n 0) x n) G r (pushed r))
      unfolding act act_on push_start
      push_is = start_is side (named_push G slot) n own_is pushed op refl

      pub push_goal : Goal k₀ (start_first pooled slots T r op (names side slot label))
      push_goal =
          subst (Goal k₀) (sym (first_push T r pooled slots side slot label))
          (by_test (Goal k₀) (eqb n 0)
          (λ e. by_test (Goal k₀) (late T.control)
          (λ _. C.waits now k₀ c (looks side slot label) refl refl (eqb-true _ _ e))
          (λ _. C.waits now k₀ c (claims side slot label) refl refl (eqb-true _ _ e)))
          (λ e. C.plain now k₀ c op r (Refused n) (push_is ∙ ap (back q t) (decide_own n G r (pushed r) x e))))

      module _ (e : n ≡ 0) where
        passed : (eqb pooled 1 ≡ false) × (from1 slots slot ≡ true)
        unfolding own_refusal
        passed = let z = cleared (own_rules pooled slots r.call side (eqb pooled 1) (not (from1 slots slot))) refl e in (z.1.0, not-false _ z.1.1.0)

        same-mark : marked T.marks slot ≡ marked G.marks slot
        same-mark = R.named-mark tasks pooled slots m q f g passed.0 slot

        to-next : act q t op ≡ back q t (decide x G r (pushed r))
        to-next = push_is ∙ ap (back q t) (decide-next n G r (pushed r) x (eq-eqb n 0 e))

        pub looks_goal : late T.control ≡ true → Goal k₀ (looks_mark T r side slot label)
        looks_goal l =
            subst (Goal k₀) (sym (looks-is T r side slot label))
            (C.plain now k₀ c op r (Refused (cond (marked T.marks slot) 32 33))
            (to-next ∙ ap (back q t) (decide-late n G r (pushed r) (marked G.marks slot) (late G.control) (sym late_is ∙ l))
            ∙ ap (λ (b : Bool). back q t (record { tables = G; task = r; outcome = Refused (cond b 32 33) })) (sym same-mark)))

        -- Its I.turn now: 32, or it is carried out, whatever Anchor is now.
        why_is : push_refusal G (among q t) (record_at q t) side slot ≡ x
        why_is =
            own.start_why tasks pooled slots q g t lt side (named_push G slot)
            ∙ ap (λ (n : ℕ). cond (eqb n 0) x n) own_is
            ∙ ap (λ (b : Bool). cond b x n) (eq-eqb n 0 e)

        turn_taken : marked G.marks slot ≡ true → take_early q (I.turn now op true) ≡ back q t (record { tables = G; task = r; outcome = Refused 32 })
        unfolding take_early act_early
        turn_taken b =
            let why : push_refusal G (among q t) (record_at q t) side slot ≡ 32 = why_is ∙ ap (λ (b : Bool). cond b 32 (cond (late G.control) 33 0)) b in
            ap (λ (w : ℕ). cond (eqb w 33) (back q t (pushed (task_at q t))) (act q t op)) why
            ∙ to-next ∙ ap (back q t) (decide_taken n G r (pushed r) (marked G.marks slot) (late G.control) b)

        turn_done : marked G.marks slot ≡ false → take_early q (I.turn now op true) ≡ back q t (pushed r)
        unfolding take_early act_early
        turn_done b = split (late G.control)
            (λ l. let why : push_refusal G (among q t) (record_at q t) side slot ≡ 33 = why_is ∙ (λ i. cond (b i) 32 (cond (l i) 33 0)) in
            ap (λ (w : ℕ). cond (eqb w 33) (back q t (pushed (task_at q t))) (act q t op)) why
            ∙ ap (λ (y : Record). back q t (pushed y)) (sym c.reads))
            (λ l. let why : push_refusal G (among q t) (record_at q t) side slot ≡ 0 = why_is ∙ (λ i. cond (b i) 32 (cond (l i) 33 0)) in
            ap (λ (w : ℕ). cond (eqb w 33) (back q t (pushed (task_at q t))) (act q t op)) why
            ∙ to-next ∙ ap (back q t) (decide-done n G r (pushed r) (marked G.marks slot) (late G.control) b l))

        pub claims_goal : Room q t (started 0 side slot label) → Goal k₀ (claims_mark T r side slot label)
        claims_goal room =
            let k = labels false slot label (with_call r (started 0 side slot label)) (Moved (Running 1)) in
            let le = (from1_true slots slot passed.1).1 in
            let good = own.good_early tasks pooled slots q t side slot label g room in
            let never = own.early-never tasks pooled slots q t side slot label g in
            let holds : Holds (with_call r (started 0 side slot label)) slot = record { place = refl; kind = refl; slot = refl } in
            subst (Goal k₀) (sym (claims-is T r side slot label))
            (by_test (Goal k₀) (marked T.marks slot)
            (λ b. I.turning now op true (record { tables = G; task = r; outcome = Refused 32 }) (turn_taken (sym same-mark ∙ b)) good never
            k₀ c.owes c.tells c.writes T (ends r (Refused 32)) (record {
              rest = f.rest;
              labels-long = f.labels-long;
              marks-long = f.marks-long;
              labels = C.no_label now k₀ c (ends r (Refused 32));
              marks = C.no-mark now k₀ c (ends r (Refused 32));
              wrote = none refl;
              task = refl;
              extra = tt;
              owes = refl;
            }))
            (λ b. I.turning now op true (pushed r) (turn_done (sym same-mark ∙ b)) good never
            k₀ c.owes c.tells c.writes (with_marks T (with_mark T.marks slot 1)) k (record {
              rest = ap (λ (X : Tables). with_marks X (with_mark T.marks slot 1)) f.rest;
              labels-long = f.labels-long ∙ sym (length-set G.labels slot label);
              marks-long = length-set T.marks (slot / 64) _ ∙ f.marks-long ∙ sym (length-set G.marks (slot / 64) _);
              labels = λ y never. C.no_label now k₀ c k y never ∙ sym (get_or-set_other G.labels slot y label 0 (λ z. I.own_owed now OwesLabel k y never z));
              marks = C.put-marks now k₀ c slot 1 (omega arith) le k;
              wrote = one slot label refl holds;
              task = refl;
              extra = (lt, holds, refl, λ z. absurd (not_both z refl));
              owes = refl;
            })))
