-- Every operation keeps the ledger matched: a refused one, a start, a step.
use mathlib.Core.{Bool.{Bool, ◌&&◌, cond, false, true}, List.{List, [], ◌∷◌}, Logic.{◌≢◌, ◌⊎◌, inl, inr}}
use mathlib.Core.Path.{◌∙◌, ◌≡◌, ap, refl, subst, sym}
use Prim.Native.Nat.{◌≤◌, suc, ℕ}
use native.Mathlib.Omega.{arith}
use lib.{Dec.eqb, ListN.set}
use borrow.Author.Tests.{eq-eqb, eqb-true, ne_eqb}
use Rattle.word.specs.Anchor.{anchor_of}
use Rattle.model.specs.Calls.{Acted, Done, act, act_on, back, finish, pop_start, push_start, push_pooled_start, step}
use Rattle.model.specs.{Deque.says_no_free_slot, Lists.All, History.{ledger_from, over, run, told_entry}}
use Rattle.model.specs.History.{LedgerCall, Event, Ledger, Request, accept, attend, begins, final, is_effect, note}
use Rattle.model.specs.{Places.{word_found, move}, Tables.with_taken}
use Rattle.model.specs.Refusals.{among, pop_refusal, push_refusal, push_pooled_refusal, step_refusal}
use Rattle.model.specs.Tables.{Queue, asking, is_pooled, marked, record_at, started, task_at, unused, with_call}
use Rattle.model.specs.declared.Answer.{TheVariants.{Empty, NoFreeSlot, Popped, Pushed, Running}, Answer}
use Rattle.model.specs.declared.{Entry.Entry, Op.{Op, TheVariants.{Pop, Push, PushPooled, Step}}, Call.Call}
use Rattle.model.specs.Outcomes.{Moved, Refused}
use Rattle.model.specs.declared.{Record.Record}
use Rattle.model.proofs.{Tests.Truth.{by_test, decide_eq, not_both}, Lists.Store.set_back}
use Rattle.model.proofs.Machine.{Answers.EndsAt, Machine.upd, Laws.{upd_other, upd_same}}
use Rattle.model.proofs.{Invariant.Invariant.Inv, Bridge.Operations.{step-pooled, step-told, task_of}}
use Rattle.model.proofs.Bridge.Accepted.{Lies, Stepping, pop_accepted, push_accepted, push_pooled_accepted}
use Rattle.model.proofs.Bridge.{Accepted.step-accepted, Decoded.seen_move, Facts.LinksFine}
use Rattle.model.proofs.Bridge.Operations.{not_idle, pop_keeps, push_keeps, put_back, put_keeps, reply, stepped}
use Rattle.model.proofs.Bridge.Operations.{step-ends, step_grants, step_lacks, step_keeps, step-links, step-task}
use Rattle.model.proofs.Bridge.View.{anchor_seen, answer_seen, kind_of, place_of, rec_of, state_of, touch_seen, view}
use Rattle.model.proofs.Ledger.{Attended.{Attended, attend-keeps, book_after, going_on}, Matched.{Matched, busy_no}}
use Rattle.model.proofs.Ledger.Matches.{Final, Matches, Names, Tracks, matches_granted, opens, rest-keeps}
use Rattle.model.proofs.Ledger.{Matches.tracks_mono, Served.{Told, effect_is, no_free_slot-is}}
use Rattle.model.proofs.Unsound.Suits.{kind_push}
use Rattle.model.proofs.Machine.Book as B
use Rattle.model.proofs.Machine.Machine as M

goes_on : (a : Answer) (b : Bool) → EndsAt (answer_seen a) b → going_on a ≡ busy_no b
goes_on (Running p) b e = rw e
goes_on Pushed b e = rw e
goes_on Empty b e = rw e
goes_on (Popped x) b e = rw e
goes_on NoFreeSlot b e = rw e

kept-head : (b : B.Book) (t : ℕ) (w : B.Noted) (a : Answer) → All B.Honoured (B.stepped b t w (answer_seen a)).closed → Final a → B.Honoured (record {
  call =
      w.call;
  answer = answer_seen a;
})
kept-head b t w (Running p) h f = absurd f
kept-head b t w Pushed h f = h.0
kept-head b t w Empty h f = h.0
kept-head b t w (Popped e) h f = h.0
kept-head b t w NoFreeSlot h f = h.0

-- The end that an effect sets at a push's side is the slot that the ledger tells: the one named, if one was.
told_end : (c : LedgerCall) (k : B.BookCall) (ev : Event) (a : Answer) (p : Bool) → k.side ≡ eqb c.side 1
    → Names p c.named k.slot c.entry.slot
    → (B.effect (anchor_seen ev.before) (anchor_seen ev.after) (answer_seen a) ≡ true → B.is_no_free_slot (answer_seen a) ≡ false → k.kind ≡ M.push
    → M.tip (anchor_seen ev.after) k.side ≡ k.slot)
    → is_effect ev a ≡ true → says_no_free_slot a ≡ false → k.kind ≡ M.push → k.slot ≡ (told_entry c ev).slot
told_end c k ev a p side names f e z y = by_test (λ x. k.slot ≡ x) c.named
    (λ w. named p w names)
    (λ _. sym (f (effect_is ev a ∙ e) (no_free_slot-is a ∙ z) y) ∙ ap (λ (d : Bool). M.tip (anchor_seen ev.after) d) side ∙ end (eqb c.side 1))
  where
    end : (d : Bool) → M.tip (anchor_seen ev.after) d ≡ cond d (anchor_of ev.after).right (anchor_of ev.after).left
    end false = refl
    end true = refl

    named : (p : Bool) → c.named ≡ true → Names p c.named k.slot c.entry.slot → k.slot ≡ c.entry.slot
    named false w n = n
    named true w n = absurd (not_both w n)

-- In a pooled queue no start names a slot.
unnamed_call : (c : LedgerCall) (k : B.BookCall) (p : Bool) → p ≡ true → Names p c.named k.slot c.entry.slot → c.named ≡ false
unnamed_call c k false e n = absurd (not_both e refl)
unnamed_call c k true e n = n

module _ (n : ℕ) (q : Queue) (l : Ledger) (g : Matched n q l) (t : ℕ) where
  abbrev r : Call
  r = record_at q t

  -- The task's record with another call.
  abbrev put : Call → Record
  put c = with_call (task_at q t) c

  abbrev After : Op → Done → Type 0
  After o d = Matched (suc n) d.queue
      (note n (record {
        task = t;
        op = o;
        outcome = d.outcome;
        before = q.tables.control.anchor;
        after = d.queue.tables.control.anchor;
      }) d.outcome l)

  abbrev Puts : Op → Acted → Type 0
  Puts o a = After o (back q t a)

  -- A refused operation puts the record back as it was.
  refused : (o : Op) (why : ℕ) → Puts o (record { tables = q.tables; task = task_at q t; outcome = Refused why })
  unfolding note
  refused o why = subst (λ (x : List Record). Matched (suc n) (record { tables = q.tables; records = x }) l)
      (sym (set_back q.records t unused))
      (record {
        book = g.book;
        inv = g.inv;
        links = g.links;
        deque = g.deque;
        tracks = tracks_mono (is_pooled q.tables.control) n g.book.calls l.calls g.tracks;
        busy = g.busy;
      })

  module _ (s : Stepping q t) where
    abbrev q' : Queue
    q' = stepped q g.book g.inv g.links t s

    abbrev a : Answer
    a = reply q g.book g.inv g.links t s

    abbrev ev : Event
    ev = record { task = t; op = Step; outcome = Moved a; before = q.tables.control.anchor; after = q'.tables.control.anchor }

    abbrev b : B.Book
    b = g.book

    -- The call, with its slot if that is drawn now.
    abbrev k : B.BookCall
    k = B.granted (touch_seen (move q.tables.control r (word_found q.tables r)).touch) (b.calls t)

    kept : Inv (record { state = state_of q'; book = book_after b t k ev a })
    unfolding view
    kept = step_keeps q b g.inv g.links t s

    was_busy : M.is_idle ((state_of q).task t).place ≡ false
    unfolding rec_of
    was_busy = ap (λ (x : M.Rec). M.is_idle x.place) (task_of q t s.lies.known) ∙ not_idle r.place s.busy s.fine.place

    -- In a named queue no slot is drawn, and a push that has its effect stands at the end of its side.
    ready : (c : LedgerCall) → Matches (is_pooled q.tables.control) n c (b.calls t) → Matches (is_pooled q.tables.control) n c k × Told c k ev a
    unfolding view
    ready c m =
        let m' = matches_granted (is_pooled q.tables.control) n c (b.calls t)
        (touch_seen (move q.tables.control r (word_found q.tables r)).touch) (step_grants q b g.inv g.links t s (b.calls t)) m in (
          m',
          record {
            slot = told_end c k ev a (is_pooled q.tables.control) m'.side m'.slot (step-told q b g.inv g.links t s);
            lacks = λ z.
                let y = step_lacks q b g.inv g.links t s (no_free_slot-is a ∙ z) in
                (eq-eqb _ _ (kind_push c.kind (sym m.kind ∙ y.2)), unnamed_call c (b.calls t) (is_pooled q.tables.control) y.0 m.slot);
          },
        )

    attended : Attended (is_pooled q.tables.control) n b t k ev a l.calls (attend n ev a l.deque l.calls)
    attended = subst (λ d. Attended (is_pooled q.tables.control) n b t k ev a l.calls (attend n ev a d l.calls)) g.deque
        (attend-keeps (is_pooled q.tables.control) n b k ev a ready (kept-head b t _ a kept.kept) l.calls
        (g.busy t ∙ ap busy_no was_busy) g.tracks)

    step_good : Puts Step (finish q.tables (task_at q t) (move q.tables.control r (word_found q.tables r)))
    unfolding note accept finish
    step_good = record {
      book = book_after b t k ev a;
      inv = kept;
      links = step-links q b g.inv g.links t s;
      deque = attended.deque;
      tracks = subst (λ p. Tracks p (suc n) (book_after b t k ev a).calls (attend n ev a l.deque l.calls).calls)
          (sym (step-pooled q b g.inv g.links t s)) attended.tracks;
      busy = λ u. go u (decide_eq u t);
    }
      where
        is : (u : ℕ) → (state_of q').task u ≡ upd (state_of q).task t (seen_move q.tables r).rec u
        is u = step-task q b g.inv g.links t s u

        idle-is : (u : ℕ) (x : M.Rec) → upd (state_of q).task t (seen_move q.tables r).rec u ≡ x
            → busy_no (M.is_idle x.place) ≡ busy_no (M.is_idle ((state_of q').task u).place)
        idle-is u x e = ap (λ (x : M.Rec). busy_no (M.is_idle x.place)) (sym (is u ∙ e))

        go : (u : ℕ) → (u ≡ t) ⊎ (u ≢ t) → opens u (attend n ev a l.deque l.calls).calls ≡ busy_no (M.is_idle ((state_of q').task u).place)
        go u (inl z) = subst (λ u. opens u (attend n ev a l.deque l.calls).calls ≡ busy_no (M.is_idle ((state_of q').task u).place)) (sym z)
            (attended.own ∙ goes_on a _ (step-ends q b g.inv g.links t s).ends ∙ idle-is t _ (upd_same _ t _))
        go u (inr z) = attended.others u z ∙ g.busy u ∙ idle-is u _ (upd_other _ t _ u z)

  module _ (z : Lies q t) (free : r.place ≡ 0) where
    was_idle : opens t l.calls ≡ 0
    unfolding rec_of
    was_idle = g.busy t ∙ ap (λ (x : M.Rec). busy_no (M.is_idle x.place)) (task_of q t z.known)
        ∙ ap (λ (p : ℕ). busy_no (M.is_idle (place_of p))) free

    begun : (q' : Queue) (new : Call) (kind side : ℕ) (named : Bool) (e : Entry) → M.is_idle (rec_of new).place ≡ false
        → is_pooled q'.tables.control ≡ is_pooled q.tables.control
        → ((u : ℕ) → (state_of q').task u ≡ upd (state_of q).task t (rec_of new) u) → Names (is_pooled q.tables.control) named e.slot e.slot
        → Inv (record { state = state_of q'; book = B.begun g.book t (B.booked_call (kind_of kind) (eqb side 1) e.slot e.label) })
        → LinksFine q'.tables
        → Matched (suc n) q' (over (begins n t kind side named e) l)
    unfolding rec_of
    begun q' new kind side named e up p is names i k =
        let c = B.booked_call (kind_of kind) (eqb side 1) e.slot e.label in
        let w = is_pooled q.tables.control in
        record {
          book = B.begun g.book t c;
          inv = i;
          links = k;
          deque = g.deque;
          tracks = subst (λ p. Tracks p (suc n) (upd g.book.calls t c) (begins n t kind side named e ∷ l.calls)) (sym p) (
            subst (Matches w (suc n) (begins n t kind side named e)) (sym (upd_same g.book.calls t c))
                (record { kind = refl; side = refl; slot = names; label = refl; begun = omega arith; count = refl; last = tt }),
            rest-keeps w n g.book.calls (upd g.book.calls t c) t (λ u z. upd_other g.book.calls t c u z) l.calls was_idle g.tracks,
          );
          busy = λ u. go u (decide_eq u t);
        }
      where
        go : (u : ℕ) → (u ≡ t) ⊎ (u ≢ t)
            → cond (eqb t u && true) (suc (opens u l.calls)) (opens u l.calls) ≡ busy_no (M.is_idle ((state_of q').task u).place)
        go u (inl z) = subst (λ u. cond (eqb t u && true) (suc (opens u l.calls)) (opens u l.calls)
            ≡ busy_no (M.is_idle ((state_of q').task u).place)) (sym z)
            (ap (λ (b : Bool). cond (b && true) (suc (opens t l.calls)) (opens t l.calls)) (eq-eqb t t refl) ∙ ap suc was_idle
            ∙ ap busy_no (sym up)
            ∙ ap (λ (x : M.Rec). busy_no (M.is_idle x.place)) (sym (is t ∙ upd_same (state_of q).task t (rec_of new))))
        go u (inr z) = ap (λ (b : Bool). cond (b && true) (suc (opens u l.calls)) (opens u l.calls)) (ne_eqb t u (λ w. z (sym w))) ∙ g.busy u
            ∙ ap (λ (x : M.Rec). busy_no (M.is_idle x.place)) (sym (is u ∙ upd_other (state_of q).task t (rec_of new) u z))

    -- A start that names no slot, or takes none.
    unnamed : (p : Bool) → Names p false 0 0
    unnamed false = refl
    unnamed true = refl

    replaced : (x : Call) (u : ℕ) → (state_of (record { tables = q.tables; records = set q.records t (put x) })).task u
        ≡ upd (state_of q).task t (rec_of x) u
    replaced x u = ap (λ (f : ℕ → M.Rec). f u) (put_back q t z (put x))

    pop_good : (side : ℕ) → Puts (Pop side) (record { tables = q.tables; task = put (started 1 side 0 0); outcome = Moved (Running 1) })
    unfolding note accept rec_of
    pop_good side = begun (record { tables = q.tables; records = set q.records t (put (started 1 side 0 0)) }) (started 1 side 0 0) 1 side false
        (record { slot = 0; label = 0 }) refl refl
        (replaced (started 1 side 0 0)) (unnamed (is_pooled q.tables.control)) (pop_keeps q g.book g.inv g.links t z free side) g.links

    push_pooled_good : (side y : ℕ) → is_pooled q.tables.control ≡ true → Puts (PushPooled side y) (record {
      tables = q.tables;
      task = put (asking side y);
      outcome = Moved (Running 12);
    })
    unfolding note accept rec_of
    push_pooled_good side y p = begun (record { tables = q.tables; records = set q.records t (put (asking side y)) }) (asking side y) 0 side false
        (record { slot = 0; label = y }) refl refl
        (replaced (asking side y)) (unnamed (is_pooled q.tables.control)) (put_keeps q g.book g.inv g.links t z free side y p) g.links

    -- No tag is looked at: it is the other tests of a push that keep the ledger matched.
    pub push_good : (side x y : ℕ) → 1 ≤ x → x ≤ q.tables.control.slots → is_pooled q.tables.control ≡ false → marked q.tables.marks x ≡ false
        → Puts (Push side x y) (record { tables = with_taken q.tables x y; task = put (started 0 side x y); outcome = Moved (Running 1) })
    unfolding note accept state_of rec_of
    push_good side x y real within named unmarked = begun (record {
      tables = with_taken q.tables x y;
      records = set q.records t (put
          (started 0 side x y));
    })
        (started 0 side x y) 0 side true (record { slot = x; label = y }) refl refl
        (replaced (started 0 side x y)) (subst (λ b. Names b true x x) (sym named) refl)
        (push_keeps q g.book g.inv g.links t z free side x y real within named unmarked)
        (record { spare = g.links.spare; tag = g.links.tag; slot = g.links.slot; next = g.links.next; head = g.links.head })

  pub act_good : (o : Op) → After o (act q t o)
  unfolding act act_on push_start push_pooled_start pop_start step
  act_good (Push side x y) = by_test (Puts (Push side x y)) (eqb (push_refusal q.tables (among q t) r side x) 0)
      (λ e. let p = push_accepted q t side x (eqb-true _ _ e) in
      push_good p.starting.lies p.starting.free side x y p.real p.within p.named p.unmarked)
      (λ e. refused (Push side x y) (push_refusal q.tables (among q t) r side x))
  act_good (Pop side) = by_test (Puts (Pop side)) (eqb (pop_refusal q.tables (among q t) r side) 0)
      (λ e. let p = pop_accepted q t side (eqb-true _ _ e) in pop_good p.lies p.free side)
      (λ e. refused (Pop side) (pop_refusal q.tables (among q t) r side))
  act_good (PushPooled side y) = by_test (Puts (PushPooled side y)) (eqb (push_pooled_refusal q.tables (among q t) r side) 0)
      (λ e. let p = push_pooled_accepted q t side (eqb-true _ _ e) in push_pooled_good p.0.lies p.0.free side y p.1)
      (λ e. refused (PushPooled side y) (push_pooled_refusal q.tables (among q t) r side))
  act_good Step = by_test (Puts Step) (eqb (step_refusal q.tables (among q t) r) 0)
      (λ e. step_good (step-accepted q t (eqb-true _ _ e))) (λ e. refused Step (step_refusal q.tables (among q t) r))

pub run_good : (os : List Request) (n : ℕ) (q : Queue) (l : Ledger) → Matched n q l → (m : ℕ) × Matched m (final q os) (ledger_from n l (run q os))
unfolding run final ledger_from
run_good [] n q l g = (n, g)
run_good (o ∷ os) n q l g = run_good os (suc n) (act q o.task o.op).queue _ (act_good n q l g o.task o.op)
