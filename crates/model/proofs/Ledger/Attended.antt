-- A step in the ledger goes to the open call of its task, and the book follows.
use mathlib.Core.{Bool.{Bool, ◌&&◌, cond, true}, List.{List, [], ◌∷◌}, Logic.◌≢◌, Path.{◌∙◌, ◌≡◌, ap, refl, subst, sym}}
use Prim.Native.Nat.{suc, ℕ}
use native.Mathlib.Omega.{arith}
use lib.{Dec.eqb, ListN.length}
use borrow.Author.Tests.{eq-eqb, eqb-true, ne_eqb}
use Rattle.model.specs.History.{LedgerCall, Effect, Ending, Event, Ledger, Once, answered, attend, ended, is_open}
use Rattle.model.specs.{History.{over, pending, step_of}, declared.Entry.Entry}
use Rattle.model.specs.declared.Answer.{TheVariants.{Empty, NoFreeSlot, Popped, Pushed, Running}, Answer}
use Rattle.model.proofs.{Tests.Truth.{and-true, by_test, not_both}, Bridge.View.{anchor_seen, answer_seen}}
use Rattle.model.proofs.Machine.{Laws.{upd_other, upd_same}, Machine.upd}
use Rattle.model.proofs.Ledger.Matches.{Final, Last, Matches, Tracked, Tracks, apart, opens, rest-keeps}
use Rattle.model.proofs.Ledger.{Matches.same_answer, Served.{Told, step_call}}
use Rattle.model.proofs.Machine.Book as B
use Rattle.model.proofs.Machine.Machine as M

-- What the book holds after a step of task t, whose call is k, with its slot if that was drawn now.
abbrev pub book_after : B.Book → ℕ → B.BookCall → Event → Answer → B.Book
book_after b t k ev a = B.stepped b t (B.noted k b.queue (anchor_seen ev.before) (anchor_seen ev.after) (answer_seen a)) (answer_seen a)

abbrev KeptHead : ℕ → B.Book → B.BookCall → Answer → Type 0
KeptHead n b k a = Final a → B.Honoured (record { call = k; answer = answer_seen a })

abbrev pub going_on : Answer → ℕ
going_on (Running p) = 1
going_on Pushed = 0
going_on Empty = 0
going_on (Popped e) = 0
going_on NoFreeSlot = 0

-- A call that its one effect closes.
once : (p : Bool) (n : ℕ) (c : LedgerCall) (k : B.BookCall) (a : Answer) → Matches p (suc n) c k → B.Honoured (record {
  call = k;
  answer = answer_seen a;
}) → Once c n a
once p n c k a m o = go c.effects refl m.count m.last
  where
    go : (l : List Effect) → c.effects ≡ l → k.effects ≡ length l → Last (suc n) c k l → Once c n a
    go [] e g h = absurd (omega (arith, o.once))
    go (x ∷ []) e g h = record {
      effect = x;
      only = e;
      begun = h.begun;
      within = omega (arith, h.past);
      agrees = same_answer x.reply a h.final (o.agrees ∙ h.told);
    }
    go (x ∷ y ∷ l) e g h = absurd (omega (arith, o.once))

-- The call of a step, in the book after it.
closes : (p : Bool) (n : ℕ) (b : B.Book) (t : ℕ) (k : B.BookCall) (ev : Event) (a : Answer) (c : LedgerCall) (e : Ending) → c.task ≡ t → e ≡ ended n a
    → let w = B.noted k b.queue (anchor_seen ev.before) (anchor_seen ev.after) (answer_seen a) in
    Matches p (suc n) c w.call → KeptHead n b w.call a → Tracked p (suc n) (book_after b t k ev a).calls c e
closes p n b t k ev a c e z g m o = subst (Tracked p (suc n) (book_after b t k ev a).calls c) (sym g) (go a m o)
  where
    go : (a : Answer) → let w = B.noted k b.queue (anchor_seen ev.before) (anchor_seen ev.after) (answer_seen a) in
        Matches p (suc n) c w.call → KeptHead n b w.call a → Tracked p (suc n) (book_after b t k ev a).calls c (ended n a)
    go (Running next) m o =
        let v = (B.noted k b.queue (anchor_seen ev.before) (anchor_seen ev.after) M.running).call in
        subst (Matches p (suc n) c) (sym (ap (λ (u : ℕ). upd b.calls t v u) z ∙ upd_same b.calls t v)) m
    go Pushed m o = once p n c _ Pushed m (o tt)
    go Empty m o = once p n c _ Empty m (o tt)
    go (Popped x) m o = once p n c _ (Popped x) m (o tt)
    go NoFreeSlot m o = once p n c _ NoFreeSlot m (o tt)

book_other : (b : B.Book) (t : ℕ) (k : B.BookCall) (ev : Event) (a : Answer) (u : ℕ) → u ≢ t → (book_after b t k ev a).calls u ≡ b.calls u
book_other b t k ev (Running p) u n = upd_other b.calls t _ u n
book_other b t k ev Pushed u n = upd_other b.calls t _ u n
book_other b t k ev Empty u n = upd_other b.calls t _ u n
book_other b t k ev (Popped e) u n = upd_other b.calls t _ u n
book_other b t k ev NoFreeSlot u n = upd_other b.calls t _ u n

book_queue : (b : B.Book) (t : ℕ) (k : B.BookCall) (ev : Event) (a : Answer)
    → (book_after b t k ev a).queue ≡ (B.noted k b.queue (anchor_seen ev.before) (anchor_seen ev.after) (answer_seen a)).queue
book_queue b t k ev (Running p) = refl
book_queue b t k ev Pushed = refl
book_queue b t k ev Empty = refl
book_queue b t k ev (Popped e) = refl
book_queue b t k ev NoFreeSlot = refl

ended_open : (n : ℕ) (a : Answer) → cond (is_open (ended n a)) 1 0 ≡ going_on a
ended_open n (Running p) = refl
ended_open n Pushed = refl
ended_open n Empty = refl
ended_open n (Popped e) = refl
ended_open n NoFreeSlot = refl

opens_skip : (u : ℕ) (c : LedgerCall) (cs : List LedgerCall) → c.task ≢ u → opens u (c ∷ cs) ≡ opens u cs
opens_skip u c cs n = ap (λ (b : Bool). cond (b && is_open c.ending) (suc (opens u cs)) (opens u cs)) (ne_eqb c.task u n)

is_open_lem : (e : Ending) → is_open e ≡ true → e ≡ pending
is_open_lem pending z = refl
is_open_lem (answered n a) z = absurd (not_both z refl)

pub record Attended (p : Bool) (n : ℕ) (b : B.Book) (t : ℕ) (k : B.BookCall) (ev : Event) (a : Answer) (cs : List LedgerCall) (l : Ledger) : Type 0 where
  pub deque : (book_after b t k ev a).queue ≡ l.deque
  pub tracks : Tracks p (suc n) (book_after b t k ev a).calls l.calls
  pub own : opens t l.calls ≡ going_on a
  pub others : (u : ℕ) → u ≢ t → opens u l.calls ≡ opens u cs

module _ (p : Bool) (n : ℕ) (b : B.Book) (k : B.BookCall) (ev : Event) (a : Answer)
    (ready : (c : LedgerCall) → Matches p n c (b.calls ev.task) → Matches p n c k × Told c k ev a)
    (o : KeptHead n b (B.noted k b.queue (anchor_seen ev.before) (anchor_seen ev.after) (answer_seen a)).call a) where
  abbrev t : ℕ
  t = ev.task

  -- The open call of the task comes first.
  here : (c : LedgerCall) (cs : List LedgerCall) → c.task ≡ t → c.ending ≡ pending → opens t cs ≡ 0 → Matches p n c (b.calls c.task)
      → Tracks p n b.calls cs
      → Attended p n b t k ev a (c ∷ cs) (step_of n ev a b.queue c cs)
  here c cs z g f m r =
      let y = ready c (subst (λ u. Matches p n c (b.calls u)) z m) in
      let st = step_call p n ev a b.queue c k y.0 cs y.1 in
      record {
        deque = book_queue b t k ev a ∙ st.deque;
        tracks = subst (Tracks p (suc n) (book_after b t k ev a).calls) (sym st.calls) (
          closes p n b t k ev a st.call st.call.ending (st.task ∙ z) st.ending st.matches o,
          rest-keeps p n b.calls (book_after b t k ev a).calls t (book_other b t k ev a) cs f r,
        );
        own = ap (opens t) st.calls
            ∙ ap (λ (b : Bool). cond (b && is_open st.call.ending) (suc (opens t cs)) (opens t cs)) (eq-eqb _ _ (st.task ∙ z))
            ∙ ap (λ (e : Ending). cond (is_open e) (suc (opens t cs)) (opens t cs)) st.ending
            ∙ ap (λ (k : ℕ). cond (is_open (ended n a)) (suc k) k) f ∙ ended_open n a;
        others = λ u d. ap (opens u) st.calls ∙ opens_skip u st.call cs (λ w. d (sym w ∙ st.task ∙ z))
            ∙ sym (opens_skip u c cs (λ w. d (sym w ∙ z)));
      }

  -- No other call takes part.
  attend-none : (d : List Entry) (cs : List LedgerCall) → opens t cs ≡ 0 → attend n ev a d cs ≡ record { deque = d; calls = cs }
  unfolding attend
  attend-none d [] e = refl
  attend-none d (c ∷ cs) e = by_test (λ (l : Ledger). l ≡ record { deque = d; calls = c ∷ cs }) (eqb c.task t && is_open c.ending)
      (λ z. absurd (let f = ap (λ (b : Bool). cond b (suc (opens t cs)) (opens t cs)) (sym z) ∙ e in omega arith))
      (λ z. ap (over c) (attend-none d cs (ap (λ (b : Bool). cond b (suc (opens t cs)) (opens t cs)) (sym z) ∙ e)))

  pub attend-keeps : (cs : List LedgerCall) → opens t cs ≡ 1 → Tracks p n b.calls cs → Attended p n b t k ev a cs (attend n ev a b.queue cs)
  unfolding attend
  attend-keeps [] e h = absurd (omega arith)
  attend-keeps (c ∷ cs) e h = by_test (Attended p n b t k ev a (c ∷ cs)) (eqb c.task t && is_open c.ending)
      (λ z. let y = and-true (eqb c.task t) (is_open c.ending) z in
      let g = is_open_lem c.ending y.1 in
      let f : opens t cs ≡ 0 = let s = ap (λ (b : Bool). cond b (suc (opens t cs)) (opens t cs)) (sym z) ∙ e in omega arith in
      subst (λ (l : Ledger). Attended p n b t k ev a (c ∷ cs) (step_of n ev a l.deque c l.calls)) (sym (attend-none b.queue cs f))
      (here c cs (eqb-true _ _ y.0) g f (subst (Tracked p n b.calls c) g h.0) h.1))
      (λ z. let f = ap (λ (b : Bool). cond b (suc (opens t cs)) (opens t cs)) (sym z) ∙ e in
      let ih = attend-keeps cs f h.1 in
      let l = attend n ev a b.queue cs in
      record {
        deque = ih.deque;
        tracks = (apart p n b.calls (book_after b t k ev a).calls t (book_other b t k ev a) c c.ending z h.0, ih.tracks);
        own = ap (λ (b : Bool). cond b (suc (opens t l.calls)) (opens t l.calls)) z ∙ ih.own;
        others = λ u d. ap (λ (k : ℕ). cond (eqb c.task u && is_open c.ending) (suc k) k) (ih.others u d);
      })
