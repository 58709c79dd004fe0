-- *No slot* is true: when a step answers so, every slot is in the queue or a task's. (Request #104.)
use mathlib.Core.{Bool.{Bool, cond, false, true}, List.{List, [], ◌∷◌}, Logic.{◌≢◌, ◌⊎◌, inl, inr}}
use mathlib.Core.Path.{◌∙◌, ◌≡◌, ap, refl, subst, sym}
use Prim.Native.Nat.{◌<◌, ◌≤◌, ℕ}
use native.Mathlib.{Decide.dec_lt, Omega.arith}
use lib.{Dec.{eqb, leb, ltb}, ListN.get_or-eq_default}
use borrow.Author.Tests.{eq-eqb, eqb-false, eqb-true, ltb-true}
use Rattle.word.specs.Anchor.{anchor_of}
use Rattle.model.specs.{Calls.{Acted, act, act_on, finish, opened, step}, Refusals.{among, step_refusal}}
use Rattle.model.specs.History.{AfterOpening, InUse, NoFreeSlotRight, NoFreeSlotTrue, Waits, final, here, later}
use Rattle.model.specs.History.{is_taken, a_pop_gives, a_pop_holds, pop_gives, pop_holds, a_push_holds, push_holds, waits}
use Rattle.model.specs.{Walk.entries, Tables.{at_place, Queue, Tables, record_at}}
use Rattle.model.specs.declared.{Answer.{TheVariants.NoFreeSlot, Answer}, Entry.Entry, Call.Call}
use Rattle.model.specs.Outcomes.{Moved}
use Rattle.model.specs.declared.{Op.TheVariants.Step}
use Rattle.model.proofs.Tests.{ByPlace.by_place, Rules.{◌and◌, passes}, Truth.{and_of, by_test, decide_eq}}
use Rattle.model.proofs.{Lists.{In.In, Slots.slots}, Places.NoFreeSlot.{Holds, Used, no_free_slot_lem}}
use Rattle.model.proofs.{Bridge.{Accepted.{Stepping, step-accepted}, Facts.RecordFine}, Ledger.Matched.Matched}
use Rattle.model.proofs.{Bridge.Operations.{reply, step_lacks}, Unsound.{Safe.Safe, Suits.kind_push}}
use Rattle.model.proofs.Bridge.View.{anchor_seen, answer_seen, kind_of, place_list, place_of, rec_of, state_of, view}
use Rattle.model.proofs.{Progress.Reached.{final_reached, open_reached}, Openings.after-opening}
use Rattle.model.proofs.Machine.Book as B
use Rattle.model.proofs.Machine.Machine as M
use Rattle.model.proofs.Ledger.Waiting as waiting

-- A slot of the sequential deque waits.
in_waits : (l : List Entry) (x : ℕ) → In x (slots l) → Waits x (entries l)
in_waits [] x i = absurd i
in_waits (e ∷ l) x (inl z) = here e l z
in_waits (e ∷ l) x (inr i) = later e l (in_waits l x i)

-- A record holds slot x, as a push or as a pop.
abbrev pub Held : Call → ℕ → Type 0
Held r x = (push_holds r x ≡ true) ⊎ ((pop_holds r x ≡ true) ⊎ (pop_gives r x ≡ true))

-- What a decoded record holds, the record holds.
module _ (r : Call) (x : ℕ) where
  abbrev at : ℕ → Call
  at p = at_place r p

  abbrev Here : ℕ → Type 0
  Here p = (p ≡ 11 → r.kind ≡ 1) → (15 ≤ p → r.kind ≡ 1) → r.finishing ≤ 1 → Holds (place_of p) (rec_of r) x → Held (at p) x

  pushing-at : (p : ℕ) → leb 1 p ≡ true → leb p 10 ≡ true → r.finishing ≤ 1
      → (kind_of r.kind ≡ M.push) × (eqb r.finishing 1 ≡ false) × (r.own ≡ x) → Held (at p) x
  unfolding push_holds
  pushing-at p s l f w =
      let none : r.finishing ≡ 0 = omega (arith, eqb-false r.finishing 1 w.1) in
      inl (passes (leb 1 p ∷ leb p 10 ∷ eqb r.kind 0 ∷ eqb r.finishing 0 ∷ eqb r.own x ∷ [])
      (s and l and eq-eqb _ _ (kind_push r.kind w.0) and eq-eqb _ _ none and eq-eqb _ _ w.2 and tt))

  pub tip_near : (d : Bool) → M.tip (anchor_seen r.seen) d ≡ cond d (anchor_of r.seen).right (anchor_of r.seen).left
  tip_near false = refl
  tip_near true = refl

  holds-place : (p : ℕ) → p ≢ 0 → p ≤ 17 → Here p
  unfolding rec_of pop_holds pop_gives
  holds-place = by_place Here
      (λ f g b w. pushing-at 1 refl refl b w)
      (λ f g b w. pushing-at 2 refl refl b w)
      (λ f g b w. pushing-at 3 refl refl b w)
      (λ f g b w. pushing-at 4 refl refl b w)
      (λ f g b w. pushing-at 5 refl refl b w)
      (λ f g b w. pushing-at 6 refl refl b w)
      (λ f g b w. pushing-at 7 refl refl b w)
      (λ f g b w. pushing-at 8 refl refl b w)
      (λ f g b w. pushing-at 9 refl refl b w)
      (λ f g b w. pushing-at 10 refl refl b w)
      (λ f g b w. inr (inl (and_of (eq-eqb _ _ (f refl)) (eq-eqb _ _ (sym (tip_near (eqb r.side 1)) ∙ w)))))
      (λ f g b w. absurd w)
      (λ f g b w. absurd w)
      (λ f g b w. absurd w)
      (λ f g b w. inr (inr (and_of (eq-eqb _ _ (g (omega arith))) (eq-eqb _ _ w))))
      (λ f g b w. inr (inr (and_of (eq-eqb _ _ (g (omega arith))) (eq-eqb _ _ w))))
      (λ f g b w. inr (inr (and_of (eq-eqb _ _ (g (omega arith))) (eq-eqb _ _ w))))

  pub holds-is : {pooled : Bool} {slots : ℕ} → (r.place ≢ 0 → RecordFine pooled slots r) → Holds (rec_of r).place (rec_of r) x → Held r x
  unfolding rec_of
  holds-is f w = go (decide_eq r.place 0) (dec_lt 17 r.place)
    where
      go : (r.place ≡ 0) ⊎ (r.place ≢ 0) → Dec (17 < r.place) → Held r x
      go (inl z) d = absurd (subst (λ p. Holds (place_of p) (rec_of r) x) z w)
      go (inr z) (yes l) = absurd (subst (λ (p : M.Place). Holds p (rec_of r) x)
          (get_or-eq_default place_list M.idle {n = r.place} (omega arith)) w)
      go (inr z) (no l) = holds-place r.place z (omega arith) (f z).last (f z).gives (f z).finishing w

-- What a task's record holds is in use.
held_used : (q : Queue) (t x : ℕ) → t < q.tables.control.tasks → Held (record_at q t) x → InUse q x
held_used q t x lt (inl e) = is_taken (a_push_holds t lt e)
held_used q t x lt (inr (inl e)) = is_taken (a_pop_holds t lt e)
held_used q t x lt (inr (inr e)) = a_pop_gives t lt e

-- What is used in the decoded state is in use in the tables.
pub used_is : (n : ℕ) (q : Queue) (l : _) (g : Matched n q l) → Safe q → (x : ℕ) → Used (record { state = state_of q; book = g.book }) x → InUse q x
unfolding state_of view
used_is n q l g f x = go
  where
    held : (u : ℕ) (b : Bool) → ltb u q.tables.control.tasks ≡ b → (let y = cond b (rec_of (record_at q u)) M.blank in
        Holds y.place y x) → InUse q x
    held u true z w = held_used q u x (ltb-true _ _ z) (holds-is (record_at q u) x (f.fine u (ltb-true _ _ z)) w)
    held u false z w = absurd w

    go : Used (record { state = state_of q; book = g.book }) x → InUse q x
    go (inl i) = is_taken (waits (subst (Waits x) (sym (waiting.waits q.tables g.links g.inv.owner g.book.queue g.inv.whole))
        (in_waits g.book.queue x i)))
    go (inr w) = held w.0 (ltb w.0 q.tables.control.tasks) refl w.1

module _ (n : ℕ) (q : Queue) (l : _) (g : Matched n q l) (f : Safe q) (t : ℕ) where
  abbrev G : Tables
  G = q.tables

  abbrev r : Call
  r = record_at q t

  -- The step that answers so has read an empty head.
  module _ (s : Stepping q t) (e : reply q g.book g.inv g.links t s ≡ NoFreeSlot) where
    all_used : (x : ℕ) → 1 ≤ x → x ≤ G.control.slots → InUse q x
    unfolding state_of view
    all_used x some low =
        let z = step_lacks q g.book g.inv g.links t s (ap (λ (a : Answer). B.is_no_free_slot (answer_seen a)) e) in
        used_is n q l g f x (no_free_slot_lem (record { state = state_of q; book = g.book }) g.inv z.0 z.1 x (λ z. omega arith) low)

  pub told_truly : (act q t Step).outcome ≡ Moved NoFreeSlot → (x : ℕ) → 1 ≤ x → x ≤ G.control.slots → InUse q x
  unfolding act act_on step finish
  told_truly = by_test (λ (a : Acted). a.outcome ≡ Moved NoFreeSlot → (x : ℕ) → 1 ≤ x → x ≤ G.control.slots → InUse q x)
      (eqb (step_refusal G (among q t) r) 0)
      (λ z e. all_used (step-accepted q t (eqb-true _ _ z)) cc)
      (λ z e. absurd (let w : ◌≡◌ {A = ℕ} 0 1 = cc in omega arith))

-- After either opening; in a named queue nobody is told so.
pub no_free_slot_either : AfterOpening NoFreeSlotTrue
no_free_slot_either pooled = after-opening pooled NoFreeSlotTrue (λ q tasks slots tag e os t.
    let o = opened pooled q tasks slots tag in
    let z = final_reached pooled tasks os o (open_reached pooled tasks q slots tag e) in
    told_truly z.position (final o os) z.ledger z.matched z.safe t)

pub no_free_slot-right : NoFreeSlotRight
no_free_slot-right = no_free_slot_either true
