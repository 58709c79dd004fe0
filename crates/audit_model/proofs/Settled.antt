-- A call that took effect once, and how it is written down.
use mathlib.Core.{Bool.true, Logic.◌≢◌, List.{[], ◌∷◌}, Path.{◌≡◌, refl, sym, subst, ◌∙◌}}
use Prim.Native.Nat.{ℕ, ◌<◌, ◌≤◌}
use native.Mathlib.Omega.{arith}
use borrow.Author.Tests.{le-leb, lt-ltb, ne_eqb}
use Rattle.model.specs.declared.Answer.{Answer, TheVariants.{Running, Pushed, Empty, Popped, NoFreeSlot}}
use Rattle.model.specs.Outcomes.{Moved}
use Rattle.model.specs.{Calls.reply_of}
use Rattle.model.specs.History.{LedgerCall, Effect, Ending, Lawful, answered, pending}
use Rattle.audit_model.specs.{declared.Finished.Finished, Audit.{apart, well_formed}}
use Rattle.audit_model.specs.Written.{IsAnswered, IsTold, written}
use Rattle.audit_model.proofs.OrderedEffects.{OrderedEffect, ordered_effect}
use Rattle.audit_model.proofs.Events.{Apart, NotAt, NotTogether, Past}

-- What is written of a reply to a push of label x, or to a pop: its number, and the label pushed or popped.
abbrev pub SuitsReply : Finished → ℕ → Answer → Type 0
SuitsReply f x (Running p) = ⊥
SuitsReply f x Pushed = (f.answer ≡ 2) × (f.label ≡ x)
SuitsReply f x Empty = f.answer ≡ 3
SuitsReply f x (Popped e) = (f.answer ≡ 4) × (f.label ≡ e.label)
SuitsReply f x NoFreeSlot = ⊥

-- A written call and its effect.
pub record Suits (f : Finished) (t : OrderedEffect) : Type 0 where
  pub kind : f.kind ≡ t.kind
  pub side : f.side ≡ t.side
  pub begun : f.start < t.at
  pub within : t.at ≤ f.end
  pub reply : SuitsReply f t.entry.label t.reply

pub record Settled (c : LedgerCall) (f : Finished) : Type 0 where
  pub effect : Effect
  pub only : c.effects ≡ effect ∷ []
  pub suits : (k : ℕ) → Suits f (ordered_effect k c.kind c.side c.entry effect)

suits_reply : (c : LedgerCall) (n : ℕ) (a : Answer) → IsTold a → SuitsReply (written c (answered n a)) c.entry.label a
suits_reply c n (Running p) i = absurd i
suits_reply c n Pushed i = (refl, refl)
suits_reply c n Empty i = refl
suits_reply c n (Popped x) i = (refl, refl)
suits_reply c n NoFreeSlot i = absurd i

known : (a : Answer) → IsTold a → (2 ≤ (reply_of (Moved a)).code) × ((reply_of (Moved a)).code ≤ 4)
known (Running p) i = absurd i
known Pushed i = (omega arith, omega arith)
known Empty i = (omega arith, omega arith)
known (Popped x) i = (omega arith, omega arith)
known NoFreeSlot i = absurd i

module _ (c : LedgerCall) where
  pub settled : (e : Ending) → IsAnswered e → Lawful c e → Settled c (written c e)
  settled pending i o = absurd i
  settled (answered n a) i o = record {
    effect = o.effect;
    only = o.only;
    suits = λ k. record {
      kind = refl;
      side = refl;
      begun = o.begun;
      within = o.within;
      reply = subst (SuitsReply (written c (answered n a)) c.entry.label) (sym o.agrees) (suits_reply c n a i);
    };
  }

  pub formed : (k : ℕ) (e : Ending) → IsAnswered e → Past k c → Lawful c e → well_formed (written c e) ≡ true
  unfolding well_formed
  formed k pending i p o = absurd i
  formed k (answered n a) i p o =
      let z : c.start < n = omega (arith, o.begun, o.within) in
      let code = (reply_of (Moved a)).code in
      rw (le-leb c.kind 1 p.kind, le-leb c.side 1 p.side)
      (rw (le-leb 2 code (known a i).0, le-leb code 4 (known a i).1, lt-ltb c.start n z))

  start_is : (e : Ending) → IsAnswered e → (written c e).start ≡ c.start
  start_is pending i = absurd i
  start_is (answered n a) i = refl

  not_end : (n : ℕ) (e : Ending) → IsAnswered e → NotAt n e → n ≢ (written c e).end
  not_end n pending i h = absurd i
  not_end n (answered m a) i h = h

not_ends : (c d : LedgerCall) (e f : Ending) → IsAnswered e → IsAnswered f → NotTogether e f → (written c e).end ≢ (written d f).end
not_ends c d pending f i j h = absurd i
not_ends c d (answered n a) f i j h = not_end d n f j h

apart_as : (x y : Finished) → x.start ≢ y.start → x.start ≢ y.end → y.start ≢ x.end → x.end ≢ y.end → apart x y ≡ true
unfolding apart
apart_as x y p q r s =
    rw (ne_eqb x.start y.start p, ne_eqb x.start y.end q)
    (rw (ne_eqb x.end y.start (λ z. r (sym z)), ne_eqb x.end y.end s))

-- The later call is the first of the pair in the ledger, and the second in the history.
pub apart-written : (c d : LedgerCall) → IsAnswered c.ending → IsAnswered d.ending → Apart c d
    → apart (written d d.ending) (written c c.ending) ≡ true
apart-written c d i j h =
    apart_as (written d d.ending) (written c c.ending)
    (λ z. h.starts (sym (start_is c c.ending i) ∙ sym z ∙ start_is d d.ending j))
    (λ z. not_end c d.start c.ending i h.earlier (sym (start_is d d.ending j) ∙ z))
    (λ z. not_end d c.start d.ending j h.later (sym (start_is c c.ending i) ∙ z))
    (λ z. not_ends c d c.ending d.ending i j h.ends (sym z))
