-- After an opening: no two of the positions where calls started or were answered are equal, and each side is left or right.
use mathlib.Core.{Bool.{Bool, true, false, ◌&&◌, cond}, List.{List, [], ◌∷◌}, Logic.◌≢◌}
use mathlib.Core.Path.{◌≡◌, refl, sym, ap, ◌∙◌, subst}
use Prim.Native.Nat.{ℕ, suc, ◌<◌, ◌≤◌}
use native.Mathlib.Omega.{arith}
use lib.Dec.{eqb}
use borrow.Author.Tests.{eqb-true}
use Rattle.model.specs.{declared.Answer.{Answer, TheVariants.{Running, Pushed, Empty, Popped, NoFreeSlot}}, Lists.All}
use Rattle.model.specs.declared.{Entry.Entry, Op.{Op, TheVariants.{Push, Pop, PushPooled, Step}}}
use Rattle.model.specs.Calls.{Acted, Done, act, act_on, back, finish, pop_start, push_start, push_pooled_start, step}
use Rattle.model.specs.Refusals.{among, pop_refusal, push_refusal, push_pooled_refusal, step_refusal}
use Rattle.model.{specs.Tables.{Queue, record_at}, proofs.Tests.Truth.by_test}
use Rattle.model.specs.History.{LedgerCall, Effect, Ending, Event, Ledger, Request, answered, pending, accept, attend}
use Rattle.model.specs.History.{begins, continued, ended, is_effect, is_open, ledger_from, note, over, run, step_of}
use Rattle.model.proofs.Bridge.{Accepted.{pop_accepted, push_accepted, push_pooled_accepted}, View.state_of}
use Rattle.model.proofs.Ledger.{EveryOperation.act_good, Matches.opens, Matched.{Matched, busy_no}}
use Rattle.model.proofs.Machine.Machine as M
use Rattle.audit_model.proofs.{Lists.{Pairs, all_map, all_both}, Replayed.attend-all}

-- Answered before position n, if answered; not answered at n.
abbrev pub EndsBefore : ℕ → Ending → Type 0
EndsBefore n pending = Unit {0}
EndsBefore n (answered m a) = m < n

abbrev pub NotAt : ℕ → Ending → Type 0
NotAt n pending = Unit {0}
NotAt n (answered m a) = n ≢ m

abbrev pub NotTogether : Ending → Ending → Type 0
NotTogether pending e = Unit {0}
NotTogether (answered m a) e = NotAt m e

-- A call before position n.
pub record Past (n : ℕ) (c : LedgerCall) : Type 0 where
  pub kind : c.kind ≤ 1
  pub side : c.side ≤ 1
  pub begun : c.start < n
  pub done : EndsBefore n c.ending

pub record Apart (c d : LedgerCall) : Type 0 where
  pub starts : c.start ≢ d.start
  pub later : NotAt c.start d.ending
  pub earlier : NotAt d.start c.ending
  pub ends : NotTogether c.ending d.ending

pub record Tidy (n : ℕ) (cs : List LedgerCall) : Type 0 where
  pub past : All (Past n) cs
  pub apart : Pairs Apart cs

ends-later : (n : ℕ) (e : Ending) → EndsBefore n e → EndsBefore (suc n) e
ends-later n pending h = tt
ends-later n (answered m a) h = omega arith

past-later : (n : ℕ) (c : LedgerCall) → Past n c → Past (suc n) c
past-later n c h = record { kind = h.kind; side = h.side; begun = omega (arith, h.begun); done = ends-later n c.ending h.done }

-- Position n is none of those before.
not_now : (n : ℕ) (e : Ending) → EndsBefore n e → NotAt n e
not_now n pending h = tt
not_now n (answered m a) h = λ z. omega arith

not_ended : (n m : ℕ) (a : Answer) → m < n → NotAt m (ended n a)
not_ended n m (Running p) h = tt
not_ended n m Pushed h = λ z. omega arith
not_ended n m Empty h = λ z. omega arith
not_ended n m (Popped e) h = λ z. omega arith
not_ended n m NoFreeSlot h = λ z. omega arith

ended-later : (n : ℕ) (a : Answer) → EndsBefore (suc n) (ended n a)
ended-later n (Running p) = tt
ended-later n Pushed = omega arith
ended-later n Empty = omega arith
ended-later n (Popped e) = omega arith
ended-later n NoFreeSlot = omega arith

together_first : (n : ℕ) (a : Answer) (e : Ending) → EndsBefore n e → NotTogether (ended n a) e
together_first n (Running p) e h = tt
together_first n Pushed e h = not_now n e h
together_first n Empty e h = not_now n e h
together_first n (Popped x) e h = not_now n e h
together_first n NoFreeSlot e h = not_now n e h

together_second : (n : ℕ) (a : Answer) (e : Ending) → EndsBefore n e → NotTogether e (ended n a)
together_second n a pending h = tt
together_second n a (answered m b) h = not_ended n m a h

module _ (n : ℕ) (ev : Event) (a : Answer) where
  abbrev Gone : LedgerCall → List Effect → LedgerCall
  Gone c es = continued c es (ended n a)

  past-gone : (c : LedgerCall) (es : List Effect) → Past n c → Past (suc n) (Gone c es)
  past-gone c es h = record { kind = h.kind; side = h.side; begun = omega (arith, h.begun); done = ended-later n a }

  -- The first or the second of two calls goes on.
  apart-first : (c d : LedgerCall) (es : List Effect) → Past n c → Past n d → Apart c d → Apart (Gone c es) d
  apart-first c d es p q h = record {
    starts = h.starts;
    later = h.later;
    earlier = not_ended n d.start a q.begun;
    ends = together_first n a d.ending q.done;
  }

  apart-second : (c d : LedgerCall) (es : List Effect) → Past n c → Apart c d → Apart c (Gone d es)
  apart-second c d es p h = record {
    starts = h.starts;
    later = not_ended n c.start a p.begun;
    earlier = h.earlier;
    ends = together_second n a c.ending p.done;
  }

  attend-none : (d : List Entry) (cs : List LedgerCall) → opens ev.task cs ≡ 0 → attend n ev a d cs ≡ record { deque = d; calls = cs }
  unfolding attend
  attend-none d [] e = refl
  attend-none d (c ∷ cs) e = by_test (λ (l : Ledger). l ≡ record { deque = d; calls = c ∷ cs }) (eqb c.task ev.task && is_open c.ending)
      (λ z. absurd (let f = ap (λ (b : Bool). cond b (suc (opens ev.task cs)) (opens ev.task cs)) (sym z) ∙ e in omega arith))
      (λ z. ap (over c) (attend-none d cs (ap (λ (b : Bool). cond b (suc (opens ev.task cs)) (opens ev.task cs)) (sym z) ∙ e)))

  -- At most one call goes on, so at most one is answered here.
  attend-apart : (d : List Entry) (cs : List LedgerCall) → opens ev.task cs ≤ 1 → All (Past n) cs → Pairs Apart cs
      → Pairs Apart (attend n ev a d cs).calls
  unfolding attend step_of
  attend-apart d [] o p h = tt
  attend-apart d (c ∷ cs) o p h = by_test (λ (l : Ledger). Pairs Apart l.calls) (eqb c.task ev.task && is_open c.ending)
      (λ z. let f : opens ev.task cs ≡ 0 = let s = ap (λ (b : Bool). cond b (suc (opens ev.task cs)) (opens ev.task cs)) z in omega arith in
      let e = ap (λ (l : Ledger). l.calls) (attend-none d cs f) in
      let first : (es : List Effect) → Pairs Apart (Gone c es ∷ (attend n ev a d cs).calls) =
      λ es. subst (λ (l : List LedgerCall). Pairs Apart (Gone c es ∷ l)) (sym e)
      (all_both (λ (x : LedgerCall) q r. apart-first c x es p.0 q r) cs p.1 h.0, h.1) in
      by_test (λ (l : Ledger). Pairs Apart l.calls) (is_effect ev a) (λ _. first _) (λ _. first _))
      (λ z. let f : opens ev.task cs ≤ 1 = let s = ap (λ (b : Bool). cond b (suc (opens ev.task cs)) (opens ev.task cs)) z in omega arith in (
        attend-all n ev a (Apart c) (Apart c) (λ x r. r) (λ x r. apart-second c x x.effects p.0 r) (λ x y r. apart-second c x _ p.0 r) d cs h.0,
        attend-apart d cs f p.1 h.1,
      ))

  attend_tidy : (d : List Entry) (cs : List LedgerCall) → opens ev.task cs ≤ 1 → Tidy n cs → Tidy (suc n) (attend n ev a d cs).calls
  attend_tidy d cs o h = record {
    past = attend-all n ev a (Past n) (Past (suc n)) (past-later n) (λ c p. past-gone c c.effects p) (λ c r p. past-gone c _ p) d cs h.past;
    apart = attend-apart d cs o h.past h.apart;
  }

begin_tidy : (n t kind side : ℕ) (named : Bool) (e : Entry) (cs : List LedgerCall) → kind ≤ 1 → side ≤ 1 → Tidy n cs
    → Tidy (suc n) (begins n t kind side named e ∷ cs)
begin_tidy n t kind side named e cs k s h = record {
  past = (record { kind = k; side = s; begun = omega arith; done = tt }, all_map (past-later n) cs h.past);
  apart = (all_map fresh cs h.past, h.apart);
}
  where
    fresh : (d : LedgerCall) → Past n d → Apart (begins n t kind side named e) d
    fresh d p = record { starts = λ z. omega (arith, p.begun); later = not_now n d.ending p.done; earlier = tt; ends = tt }

module _ (n : ℕ) (q : Queue) (l : Ledger) (g : Matched n q l) (h : Tidy n l.calls) (t : ℕ) where
  abbrev After : Op → Done → Type 0
  After o d =
      let here = q.tables.control.anchor in
      let then = d.queue.tables.control.anchor in
      Tidy (suc n) (note n (record { task = t; op = o; outcome = d.outcome; before = here; after = then }) d.outcome l).calls

  abbrev Back : Op → Acted → Type 0
  Back o a = After o (back q t a)

  one_open : opens t l.calls ≤ 1
  one_open = go (M.is_idle ((state_of q).task t).place) (g.busy t)
    where
      go : (b : Bool) → opens t l.calls ≡ busy_no b → opens t l.calls ≤ 1
      go true e = omega arith
      go false e = omega arith

  unchanged : Tidy (suc n) l.calls
  unchanged = record { past = all_map (past-later n) l.calls h.past; apart = h.apart }

  pub act_tidy : (o : Op) → After o (act q t o)
  unfolding act act_on push_start push_pooled_start pop_start step finish note accept
  act_tidy (Push side x y) = by_test (Back (Push side x y)) (eqb (push_refusal q.tables (among q t) (record_at q t) side x) 0)
      (λ e. begin_tidy n t 0 side true _ l.calls (omega arith) (push_accepted q t side x (eqb-true _ _ e)).starting.side h) (λ e. unchanged)
  act_tidy (Pop side) = by_test (Back (Pop side)) (eqb (pop_refusal q.tables (among q t) (record_at q t) side) 0)
      (λ e. begin_tidy n t 1 side false _ l.calls (omega arith) (pop_accepted q t side (eqb-true _ _ e)).side h) (λ e. unchanged)
  act_tidy (PushPooled side y) = by_test (Back (PushPooled side y)) (eqb (push_pooled_refusal q.tables (among q t) (record_at q t) side) 0)
      (λ e. begin_tidy n t 0 side false _ l.calls (omega arith) (push_pooled_accepted q t side (eqb-true _ _ e)).0.side h) (λ e. unchanged)
  act_tidy Step = by_test (Back Step) (eqb (step_refusal q.tables (among q t) (record_at q t)) 0)
      (λ e. attend_tidy n _ _ l.deque l.calls one_open h) (λ e. unchanged)

pub run_tidy : (os : List Request) (n : ℕ) (q : Queue) (l : Ledger) → Matched n q l → Tidy n l.calls
    → (m : ℕ) × Tidy m (ledger_from n l (run q os)).calls
unfolding run ledger_from
run_tidy [] n q l g h = (n, h)
run_tidy (o ∷ os) n q l g h =
    run_tidy os (suc n) (act q o.task o.op).queue _ (act_good n q l g o.task o.op) (act_tidy n q l g h o.task o.op)
