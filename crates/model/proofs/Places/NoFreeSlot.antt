-- *No slot* is true: where the head names none, every slot is in the queue, or a push's before its effect, or a pop's after it.
-- (Line 15. A program that loses slots, or answers *no slot* at will, is linearizable all the same.)
use mathlib.Core.{Bool.{Bool, false, true}, Logic.{◌≢◌, ◌⊎◌, inl, inr}, Path.{◌∙◌, ◌≡◌, refl, subst, sym}}
use Prim.Native.Nat.{◌≤◌, ℕ}
use Rattle.model.proofs.{Tests.Truth.not_both, Lists.{In.In, Slots.slots}, Invariant.Tasks.{Own, Stage, Task}}
use Rattle.model.proofs.Machine.{Book.{Both, BookCall, is_no_free_slot}, ByStep.by_step, Laws.exhausted_true}
use Rattle.model.proofs.Machine.Machine.{Kind, Move, Phase, Place, Rec, Shared, act, at1, at10, at11, at2, at3}
use Rattle.model.proofs.Machine.Machine.{at4, at5, at6, at7, at8, at9, draw, fetching, give, idle, inside, phase}
use Rattle.model.proofs.{Machine.Machine.{leaving, outside, pop, push, returning, tip}, Places.Stack.none_free}
use Rattle.model.proofs.Invariant.{Invariant.Inv, Owners.{Owner, Pool, Spare, free, held, queued}}

-- A push at 1 to 10 that is not finishing.
abbrev pub Pushes : Rec → ℕ → Type 0
Pushes r x = (r.kind ≡ push) × (r.finishing ≡ false) × (r.own ≡ x)

-- The record holds slot x.
abbrev Holding : Phase → Rec → ℕ → Type 0
Holding outside r x = ⊥
Holding inside r x = Pushes r x
Holding leaving r x = tip r.read r.side ≡ x
Holding fetching r x = ⊥
Holding returning r x = r.own ≡ x

abbrev pub Holds : Place → Rec → ℕ → Type 0
Holds p r x = Holding (phase p) r x

module _ (s : Shared) (h : ℕ → Owner) (t : ℕ) (r : Rec) (c : BookCall) (x : ℕ) (e : h x ≡ held t) where
  trying : (k : Kind) → r.kind ≡ k → r.finishing ≡ false → Own k s.label h t r.own r.label → Pushes r x
  trying push k f o = (k, f, sym (o.3 x e))
  trying pop k f o = absurd (o x e)

  helping : (f : Bool) → r.finishing ≡ f → Stage f s.label h t r.kind r.side r.own r.label c → Pushes r x
  helping false f w = trying r.kind refl f w.own
  helping true f w = absurd (w.1 x e)

  -- What a task has, its record holds.
  holds : (p : Place) → Task p s h t r c → Holds p r x
  holds idle w = w.1 x e
  holds at1 w = trying r.kind refl w.0 w.1.own
  holds at2 w = trying r.kind refl w.0.unfinished w.0.before.own
  holds at3 w = trying r.kind refl w.0.unfinished w.0.before.own
  holds at4 w = trying r.kind refl w.0.unfinished w.0.before.own
  holds at5 w = helping r.finishing refl w.stage
  holds at6 w = helping r.finishing refl w.0.stage
  holds at7 w = helping r.finishing refl w.0.stage
  holds at8 w = helping r.finishing refl w.0.stage
  holds at9 w = helping r.finishing refl w.0.stage
  holds at10 w = helping r.finishing refl w.0.stage
  holds at11 w = sym (w.sole x e)
  holds (draw p) w = w.1.bare x e
  holds (give p) w = sym (w.1.sole x e)

-- A slot that somebody has is in the queue, or a task's record holds it.
abbrev pub Used : Both → ℕ → Type 0
Used p x = In x (slots p.book.queue) ⊎ ((t : ℕ) × Holds (p.state.task t).place (p.state.task t) x)

pub used : (p : Both) (i : Inv p) (x : ℕ) → i.owner x ≢ free → Used p x
used p i x n = go (i.owner x) refl
  where
    go : (o : Owner) → i.owner x ≡ o → Used p x
    go free g = absurd (n g)
    go queued g = inl (i.whole.listed x g)
    go (held t) g = inr (t, holds p.state.shared i.owner t (p.state.task t) (p.book.calls t) x g (p.state.task t).place (i.tasks t))

pub no_free_slot_lem : (p : Both) → Inv p → p.state.shared.pooled ≡ true → p.state.shared.head.slot ≡ 0 → (x : ℕ) → x ≢ 0 → x ≤ p.state.shared.slots
    → Used p x
no_free_slot_lem p i e z x nz le = used p i x (λ g. none_free pool z x nz le g)
  where
    s : Shared
    s = p.state.shared

    pool : Pool s.slots s.next s.head.slot i.owner
    pool = subst (λ b. Spare b s.slots s.next s.head.slot i.owner) e i.whole.spare

-- Who answers *no slot* is a push, and has just read a head that names none.
abbrev Lacking : Shared → BookCall → Type 0
Lacking s c = (s.pooled ≡ true) × (s.head.slot ≡ 0) × (c.kind ≡ push)

pub record Lacks (s : Shared) (c : BookCall) (m : Move) : Type 0 where
  pub lacks : is_no_free_slot m.answer ≡ true → Lacking s c

pub act_lacks : (s : Shared) (r : Rec) (c : BookCall) (h : ℕ → Owner) (t : ℕ) (p : Place) → Task p s h t r c → Lacks s c (act p s r)
act_lacks s r c h t p w = record {
  lacks = by_step s r (λ p. Task p s h t r c) (λ m. is_no_free_slot m.answer ≡ true → Lacking s c) (record {
    still = λ _. other refl;
    quiet = λ _ _ _ _ _ _ _ _ _. other refl;
    empty = λ _ _ _ _. other refl;
    helped = λ _ _ _ _. other refl;
    two_push = λ _ _ _. other refl;
    two_pop = λ _ _ _. other refl;
    three = λ _ _. other refl;
    four_push = λ _ _ _. other refl;
    four_pop = λ _ _ _. other refl;
    nine = λ _ _. other refl;
    ten = λ _ _ _. other refl;
    ten_last = λ _ _ _. other refl;
    eleven = λ _. other refl;
    keeps = λ _. other refl;
    lacks = λ w e _. (w.0, exhausted_true s.head e, w.1.agrees.kind ∙ w.1.kind);
    draws = λ _ _. other refl;
    links = λ _. other refl;
    gives = λ _ _. other refl;
  }) p w;
}
  where
    other : {b : Bool} → b ≡ false → b ≡ true → Lacking s c
    other e z = absurd (not_both z e)
