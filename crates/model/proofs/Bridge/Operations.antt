-- Accepted starts and steps of the tables are those of the decoded machine, so they keep the invariant.
use mathlib.Core.{Bool.{cond, false, true}, Logic.◌≢◌, Path.{◌∙◌, ◌≡◌, ap, refl, subst, sym}}
use Prim.Native.Nat.{◌<◌, ◌≤◌, ℕ}
use native.Mathlib.Omega.{arith}
use lib.{Dec.{eqb, ltb}, ListN.{get_or, set}}
use borrow.Author.Tests.{lt-ltb}
use Rattle.model.specs.{Calls.{entry_of, finish}, Places.{set_next, take_slot}, Route.{answer, counted, goes}}
use Rattle.model.specs.Places.{Move, Touch, clear_mark, word_found, move, nothing, set_anchor, set_head, set_link}
use Rattle.model.specs.Tables.{Queue, Tables, asking, is_pooled, marked, record_at, started, task_at, unused}
use Rattle.model.specs.{Tables.{with_call, with_taken}, declared.{Call.Call, Record.Record}}
use Rattle.model.specs.declared.Answer as answered
use Rattle.model.proofs.{Tests.{ByPlace.by_place, Truth.not_both}, Invariant.{Invariant.Inv, Tasks.Task}}
use Rattle.model.proofs.{Machine.{Answers.{Ends, act-ends}, Machine.upd}, Places.Step.{step_inv, step-stands}}
use Rattle.model.proofs.Places.{NoFreeSlot.{Lacks, act_lacks}, Start.{ask_inv, pop_inv, push_inv}, Shown.Stands}
use Rattle.model.proofs.Bridge.{Accepted.{Lies, Stepping}, Decoded.{next, seen_move}, EveryPlace.step_seen}
use Rattle.model.proofs.Bridge.{Facts.LinksFine, Touches.move_fine, Stores.{view_taken, view_touched}}
use Rattle.model.proofs.Bridge.Stores.{TouchFine, links_touched, task_set, touched_pooled, touched_tasks}
use Rattle.model.proofs.Bridge.View.{answer_seen, place_of, rec_of, state_of, touch_seen, view}
use Rattle.model.proofs.Machine.Book as B
use Rattle.model.proofs.Machine.Machine as M

pub not_idle : (p : ℕ) → p ≢ 0 → p ≤ 17 → M.is_idle (place_of p) ≡ false
not_idle p n h = by_place (λ p. M.is_idle (place_of p)
    ≡ false) refl refl refl refl refl refl refl refl refl refl refl refl refl refl refl refl refl p n h

pub task_of : (q : Queue) (t : ℕ) → t < q.tables.control.tasks → (state_of q).task t ≡ rec_of (record_at q t)
unfolding state_of
task_of q t lt = rw (lt-ltb t q.tables.control.tasks lt)

-- A record put back is a record of the machine replaced.
pub put_back : (q : Queue) (t : ℕ) → Lies q t → (r : Record)
    → (λ (u : ℕ). (state_of (record { tables = q.tables; records = set q.records t r })).task u) ≡ upd (state_of q).task t (rec_of r.call)
unfolding state_of
put_back q t z r = task_set q.tables.control.tasks q.records t r (omega (arith, z.length, z.known)) z.known

module _ (q : Queue) (b : B.Book) (i : Inv (record { state = state_of q; book = b })) (k : LinksFine q.tables) (t : ℕ) where
  abbrev g : Tables
  g = q.tables

  abbrev r : Call
  r = record_at q t

  -- The task's record with another call.
  abbrev put : Call → Record
  put c = with_call (task_at q t) c

  -- An accepted step.
  module _ (s : Stepping q t) where
    abbrev m : Move
    m = move g.control r (word_found g r)

    abbrev seen_after : M.Move → Type 0
    seen_after m = Inv (record {
      state = record { shared = M.apply (view g) m.touch; task = upd (state_of q).task t m.rec };
      book = B.stepped b t (B.noted (B.granted m.touch (b.calls t)) b.queue (view g).anchor (M.apply (view g) m.touch).anchor
          m.answer) m.answer;
    })

    seen : M.act (place_of r.place) (view g) (rec_of r) ≡ seen_move g r
    seen = step_seen g s.control k r s.fine s.busy s.room

    pub step_seen_keeps : seen_after (seen_move g r)
    unfolding state_of rec_of
    step_seen_keeps =
        let e : M.is_idle ((state_of q).task t).place ≡ false = ap (λ (x : M.Rec). M.is_idle x.place) (task_of q t s.lies.known)
        ∙ not_idle r.place s.busy s.fine.place in
        subst seen_after (ap (λ (x : M.Rec). M.act x.place (view g) x) (task_of q t s.lies.known) ∙ seen) (step_inv (record {
          state =
              state_of q;
          book = b;
        }) i t e)

    abbrev pub stepped : Queue
    stepped = record { tables = (finish g (task_at q t) m).tables; records = set q.records t (finish g (task_at q t) m).task }

    abbrev pub reply : answered.Answer
    reply = answer (next r m) (entry_of g r)

    pub state_is : state_of stepped ≡ record { shared = M.apply (view g) (seen_move g r).touch; task = upd (state_of q).task t (seen_move g r).rec }
    unfolding state_of finish
    state_is =
        let r' : Record = record { call = goes m.task (next r m); retries = counted (task_at q t).retries m.failed } in
        (λ j. record {
          shared = view (finish g (task_at q t) m).tables;
          task = λ u. cond (ltb u (touched_tasks m.touch g j)) (rec_of (get_or (set q.records t r') u unused).call) M.blank;
        })
        ∙ (λ j. record {
          shared = view_touched g s.lies.rows m.touch
              (move_fine (is_pooled g.control) g.control.slots r s.fine s.control.slots g.control (word_found g r)) j;
          task = task_set g.control.tasks q.records t r' (omega (arith, s.lies.length, s.lies.known)) s.lies.known j;
        })

    pub step-task : (u : ℕ) → (state_of stepped).task u ≡ upd (state_of q).task t (seen_move g r).rec u
    step-task u = ap (λ (s : M.State). s.task u) state_is

    pub step-ends : Ends (seen_move g r)
    unfolding rec_of
    step-ends = subst Ends seen (act-ends (place_of r.place) (view g) (rec_of r) (not_idle r.place s.busy s.fine.place))

    pub step_keeps : Inv (record {
      state = state_of stepped;
      book = B.stepped b t (B.noted (B.granted (touch_seen m.touch) (b.calls t)) b.queue (view g).anchor (view stepped.tables).anchor
          (answer_seen reply)) (answer_seen reply);
    })
    unfolding state_of
    step_keeps =
        let After : M.State → Type 0 =
        λ s. Inv (record {
          state = s;
          book = B.stepped b t (B.noted (B.granted (touch_seen m.touch) (b.calls t)) b.queue (view g).anchor s.shared.anchor
              (answer_seen reply)) (answer_seen reply);
        }) in
        subst After (sym state_is) step_seen_keeps

    touch_fine : TouchFine (is_pooled g.control) g.control.slots m.touch
    touch_fine = move_fine (is_pooled g.control) g.control.slots r s.fine s.control.slots g.control (word_found g r)

    -- In a named queue no slot is drawn.
    pub step_grants : (c : B.BookCall) → is_pooled g.control ≡ false → B.granted (touch_seen m.touch) c ≡ c
    step_grants c e = go m.touch touch_fine
      where
        go : (w : Touch) → TouchFine (is_pooled g.control) g.control.slots w → B.granted (touch_seen w) c ≡ c
        go nothing f = refl
        go (set_anchor a) f = refl
        go (set_link side x v) f = refl
        go (clear_mark x) f = refl
        go (take_slot v x l) f = absurd (not_both f.0 e)
        go (set_next x v) f = refl
        go (set_head v) f = refl

    pub step-pooled : is_pooled stepped.tables.control ≡ is_pooled g.control
    unfolding finish
    step-pooled = ap (λ (n : ℕ). eqb n 1) (touched_pooled m.touch g)

    -- Who answers *no slot* is a push in a pooled queue whose head names none.
    pub step_lacks : B.is_no_free_slot (answer_seen reply) ≡ true → ((view g).pooled ≡ true) × ((view g).head.slot ≡ 0) × ((b.calls t).kind ≡ M.push)
    unfolding state_of rec_of
    step_lacks =
        let w = subst (λ (x : M.Rec). Task x.place (view g) i.owner t x (b.calls t)) (task_of q t s.lies.known) (i.tasks t) in
        (subst (Lacks (view g) (b.calls t)) seen (act_lacks (view g) (rec_of r) (b.calls t) i.owner t (place_of r.place) w)).lacks

    -- A push that has its effect stands at the end of its side.
    pub step-told : let k = B.granted (touch_seen m.touch) (b.calls t) in
        B.effect (view g).anchor (view stepped.tables).anchor (answer_seen reply) ≡ true → B.is_no_free_slot (answer_seen reply) ≡ false
        → k.kind ≡ M.push
        → M.tip (view stepped.tables).anchor k.side ≡ k.slot
    unfolding state_of rec_of
    step-told e n k =
        let busy : M.is_idle ((state_of q).task t).place ≡ false = ap (λ (x : M.Rec). M.is_idle x.place) (task_of q t s.lies.known)
        ∙ not_idle r.place s.busy s.fine.place in
        let stands : Stands (view g) (b.calls t) (seen_move g r) =
        subst (Stands (view g) (b.calls t)) (ap (λ (x : M.Rec). M.act x.place (view g) x) (task_of q t s.lies.known) ∙ seen) (step-stands (record {
          state =
              state_of q;
          book = b;
        }) i t busy) in
        let is = ap (λ (z : M.State). z.shared.anchor) state_is in
        go m.touch (subst (λ (a : M.Anchor). B.effect (view g).anchor a (answer_seen reply) ≡ true → B.is_no_free_slot (answer_seen reply) ≡ false
        → (b.calls t).kind ≡ M.push
        → M.tip a (b.calls t).side ≡ (B.granted (touch_seen m.touch) (b.calls t)).slot) (sym is) stands) e n k
      where
        go : (w : Touch) → (B.effect (view g).anchor (view stepped.tables).anchor (answer_seen reply) ≡ true
            → B.is_no_free_slot (answer_seen reply) ≡ false → (b.calls t).kind ≡ M.push
            → M.tip (view stepped.tables).anchor (b.calls t).side ≡ (B.granted (touch_seen w) (b.calls t)).slot)
            → let k = B.granted (touch_seen w) (b.calls t) in B.effect (view g).anchor (view stepped.tables).anchor (answer_seen reply) ≡ true
            → B.is_no_free_slot (answer_seen reply) ≡ false → k.kind ≡ M.push
            → M.tip (view stepped.tables).anchor k.side ≡ k.slot
        go nothing f = f
        go (set_anchor a) f = f
        go (set_link side x v) f = f
        go (clear_mark x) f = f
        go (take_slot v x l) f = f
        go (set_next x v) f = f
        go (set_head v) f = f

    pub step-links : LinksFine stepped.tables
    unfolding finish
    step-links = links_touched g s.lies.rows k m.touch
        (move_fine (is_pooled g.control) g.control.slots r s.fine s.control.slots g.control (word_found g r))

  -- Accepted starts.
  module _ (z : Lies q t) (free : (record_at q t).place ≡ 0) where
    ready : ((state_of q).task t).place ≡ M.idle
    unfolding rec_of
    ready = ap (λ (x : M.Rec). x.place) (task_of q t z.known) ∙ ap place_of free

    rec_started : (kind side x l : ℕ) → rec_of (started kind side x l) ≡ M.started (cond (eqb kind 0) M.push M.pop) (eqb side 1) x l
    unfolding rec_of
    rec_started kind side x l = refl

    tasks_are : (kind side x l : ℕ)
        → (λ (u : ℕ). (state_of (record { tables = g; records = set q.records t (put (started kind side x l)) })).task u)
        ≡ upd (state_of q).task t (M.started (cond (eqb kind 0) M.push M.pop) (eqb side 1) x l)
    tasks_are kind side x l = put_back q t z (put (started kind side x l)) ∙ ap (λ (v : M.Rec). upd (state_of q).task t v) (rec_started kind side x l)

    pub pop_keeps : (side : ℕ) → Inv (record {
      state = state_of (record { tables = g; records = set q.records t (put (started 1 side 0 0)) });
      book = B.begun b t (B.booked_call M.pop (eqb side 1) 0 0);
    })
    unfolding state_of
    pop_keeps side = subst (λ (s : M.State). Inv (record { state = s; book = B.begun b t (B.booked_call M.pop (eqb side 1) 0 0) }))
        (sym (λ j. record { shared = view g; task = tasks_are 1 side 0 0 j }))
        (pop_inv (record { state = state_of q; book = b }) i t (eqb side 1) ready)

    pub put_keeps : (side l : ℕ) → is_pooled g.control ≡ true → Inv (record {
      state = state_of (record { tables = g; records = set q.records t (put (asking side l)) });
      book = B.begun b t (B.booked_call M.push (eqb side 1) 0 l);
    })
    unfolding state_of rec_of view
    put_keeps side l pooled = subst (λ (s : M.State). Inv (record { state = s; book = B.begun b t (B.booked_call M.push (eqb side 1) 0 l) }))
        (sym (λ j. record { shared = view g; task = put_back q t z (put (asking side l)) j }))
        (ask_inv (record { state = state_of q; book = b }) i t (eqb side 1) l ready pooled)

    pub push_keeps : (side x l : ℕ) → 1 ≤ x → x ≤ g.control.slots → is_pooled g.control ≡ false → marked g.marks x ≡ false → Inv (record {
      state = state_of (record { tables = with_taken g x l; records = set q.records t (put (started 0 side x l)) });
      book = B.begun b t (B.booked_call M.push (eqb side 1) x l);
    })
    unfolding state_of view
    push_keeps side x l real low named clear = subst
        (λ (s : M.State). Inv (record { state = s; book = B.begun b t (B.booked_call M.push (eqb side 1) x l) }))
        (sym (λ j. record { shared = view_taken g z.rows x l low j; task = tasks_are 0 side x l j }))
        (push_inv (record { state = state_of q; book = b }) i t (eqb side 1) x l ready (λ e. omega arith) low named clear)
