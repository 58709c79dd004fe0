-- The sequential deque of the ledger serves a call as that of the book does.
use mathlib.Core.{Bool.{Bool, cond, false, true}, List.{List, [], ◌∷◌}, Path.{◌∙◌, ◌≡◌, ap, refl, subst, sym}}
use Prim.Native.Nat.{suc, ℕ}
use native.Mathlib.Omega.{arith}
use lib.Dec.{eqb}
use Rattle.model.specs.Deque.{Served, says_no_free_slot, serve, serve_for, serve_pop, serve_push, take_first}
use Rattle.model.specs.History.{LedgerCall, Effect, Ending, Event, Ledger, continued, ended, is_effect, lacks_slot}
use Rattle.model.specs.{History.{step_of, told_entry}, declared.Entry.Entry}
use Rattle.model.specs.declared.Answer.{TheVariants.{Empty, NoFreeSlot, Popped, Pushed, Running}, Answer}
use Rattle.model.proofs.{Tests.Truth.split, Lists.{Deque.{put, rest, seen, took}, Ends.seen_nil}}
use Rattle.model.proofs.Bridge.View.{anchor_seen, answer_seen}
use Rattle.model.proofs.Ledger.Matches.{Final, Last, Matches, matches_mono}
use Rattle.model.proofs.Machine.Book as B
use Rattle.model.proofs.Machine.Machine as M

pub effect_is : (ev : Event) (a : Answer) → B.effect (anchor_seen ev.before) (anchor_seen ev.after) (answer_seen a) ≡ is_effect ev a
unfolding is_effect
effect_is ev (Running p) = refl
effect_is ev Pushed = refl
effect_is ev Empty = refl
effect_is ev (Popped e) = refl
effect_is ev NoFreeSlot = refl

pub no_free_slot-is : (a : Answer) → B.is_no_free_slot (answer_seen a) ≡ says_no_free_slot a
no_free_slot-is (Running p) = refl
no_free_slot-is Pushed = refl
no_free_slot-is Empty = refl
no_free_slot-is (Popped e) = refl
no_free_slot-is NoFreeSlot = refl

pub record Agrees (c : LedgerCall) (k : B.BookCall) (d : List Entry) (s : Served) (w : B.Noted) : Type 0 where
  pub deque : w.queue ≡ s.deque
  pub told : w.call.told ≡ answer_seen s.reply
  pub final : Final s.reply
  pub call : w.call ≡ B.told k w.call.told

-- A pop is served the same, whether the deque is empty or not.
serve_pop_lem : (c : LedgerCall) (k : B.BookCall) (d : List Entry) (side : ℕ) (m : List Entry) → seen (eqb side 1) d ≡ m
    → Agrees c k d (take_first side m) (record { call = B.told k (B.given m); queue = took (eqb side 1) d })
unfolding took
serve_pop_lem c k d side [] e = record
    { deque = ap (λ (l : List Entry). seen (eqb side 1) (rest l)) e ∙ seen_nil (eqb side 1); told = refl; final = tt; call = refl }
serve_pop_lem c k d side (x ∷ m) e = record { deque = ap (λ (l : List Entry). seen (eqb side 1) (rest l)) e; told = refl; final = tt; call = refl }

serve_is : (c : LedgerCall) (k : B.BookCall) (e : Entry) → k.side ≡ eqb c.side 1 → k.label ≡ e.label → (d : List Entry) (b : Bool)
    → (b ≡ true → k.slot ≡ e.slot)
    → Agrees c k d (cond b (serve_push c.side e d) (serve_pop c.side d)) (B.served (cond b M.push M.pop) k d)
unfolding serve_push serve_pop put
serve_is c k e side label d true slot = record
    { deque = λ i. put (side i) (record { slot = slot refl i; label = label i }) d; told = refl; final = tt; call = refl }
serve_is c k e side label d false slot =
    subst (λ (b : Bool). Agrees c k d (serve_pop c.side d) (record { call = B.told k (B.given (seen b d)); queue = took b d })) (sym side)
    (serve_pop_lem c k d c.side (seen (eqb c.side 1) d) refl)

-- The call after the step.
pub record Stepped (p : Bool) (n : ℕ) (a : Answer) (c : LedgerCall) (cs : List LedgerCall) (w : B.Noted) (l : Ledger) : Type 0 where
  pub call : LedgerCall
  pub calls : l.calls ≡ call ∷ cs
  pub task : call.task ≡ c.task
  pub ending : call.ending ≡ ended n a
  pub deque : w.queue ≡ l.deque
  pub matches : Matches p (suc n) call w.call

last_other : (n : ℕ) (c : LedgerCall) (k : B.BookCall) (l : List Effect) (e : Ending) (m : List Effect) → Last n c k l → Last n (continued c m e) k l
last_other n c k [] e m h = tt
last_other n c k (x ∷ l) e m h = record { told = h.told; final = h.final; begun = h.begun; past = h.past }

-- A push that the deque serves has the slot that the ledger tells, and who is answered *no slot* is a push that named none.
pub record Told (c : LedgerCall) (k : B.BookCall) (ev : Event) (a : Answer) : Type 0 where
  pub slot : is_effect ev a ≡ true → says_no_free_slot a ≡ false → k.kind ≡ M.push → k.slot ≡ (told_entry c ev).slot
  pub lacks : says_no_free_slot a ≡ true → (eqb c.kind 0 ≡ true) × (c.named ≡ false)

module _ (p : Bool) (n : ℕ) (ev : Event) (a : Answer) (d : List Entry) (c : LedgerCall) (k : B.BookCall) (h : Matches p n c k) (cs : List LedgerCall)
    (t : Told c k ev a) where
  abbrev s : Served
  s = serve_for (lacks_slot c a) c.kind c.side (told_entry c ev) d

  abbrev w : B.Noted
  w = cond (says_no_free_slot a) (record { call = B.told k M.no_free_slot; queue = d }) (B.served k.kind k d)

  kind-is : (b : Bool) → b ≡ true → cond b M.push M.pop ≡ M.push
  kind-is b e = ap (λ (b : Bool). cond b M.push M.pop) e

  agrees : is_effect ev a ≡ true → Agrees c k d s w
  unfolding serve serve_for
  agrees e = split (says_no_free_slot a)
      (λ z. rw (z, (t.lacks z).0, (t.lacks z).1) (record { deque = refl; told = refl; final = tt; call = refl }))
      (λ z. rw z (subst (λ y. Agrees c k d (serve c.kind c.side (told_entry c ev) d) (B.served y k d)) (sym h.kind)
      (serve_is c k (told_entry c ev) h.side h.label d (eqb c.kind 0) (λ y. t.slot e z (h.kind ∙ kind-is (eqb c.kind 0) y)))))

  with_effect : is_effect ev a ≡ true → Stepped p n a c cs w (record {
    deque = s.deque;
    calls = continued c (record { at = n; reply = s.reply } ∷ c.effects) (ended n a) ∷ cs;
  })
  with_effect e = let g = agrees e in record {
    call = continued c (record { at = n; reply = s.reply } ∷ c.effects) (ended n a);
    calls = refl;
    task = refl;
    ending = refl;
    deque = g.deque;
    matches = subst (Matches p (suc n) (continued c (record { at = n; reply = s.reply } ∷ c.effects) (ended n a))) (sym g.call)
        (record {
          kind = h.kind;
          side = h.side;
          slot = h.slot;
          label = h.label;
          begun = omega (arith, h.begun);
          count = ap suc h.count;
          last = record { told = g.told; final = g.final; begun = h.begun; past = omega arith };
        });
  }

  without : Stepped p n a c cs (record { call = k; queue = d }) (record { deque = d; calls = continued c c.effects (ended n a) ∷ cs })
  without = let m = matches_mono p n c k h in record {
    call = continued c c.effects (ended n a);
    calls = refl;
    task = refl;
    ending = refl;
    deque = refl;
    matches = record {
      kind = m.kind;
      side = m.side;
      slot = m.slot;
      label = m.label;
      begun = m.begun;
      count = m.count;
      last = last_other (suc n) c k c.effects (ended n a) c.effects m.last;
    };
  }

  pub step_call : Stepped p n a c cs (B.noted k d (anchor_seen ev.before) (anchor_seen ev.after) (answer_seen a)) (step_of n ev a d c cs)
  unfolding step_of B.noted
  step_call = split (is_effect ev a) (λ e. rw (effect_is ev a, e, no_free_slot-is a) (with_effect e)) (λ e. rw (effect_is ev a, e) without)
