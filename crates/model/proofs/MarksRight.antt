-- A slot is marked exactly while it waits in the queue, or a record holds it that is not giving it back. (Line 21.)
use mathlib.Core.{Bool.{Bool, cond, false, not, true}, List.{List, [], ◌∷◌}, Logic.{◌≢◌, ◌⊎◌, inl, inr}}
use mathlib.Core.Path.{◌∙◌, ◌≡◌, ap, refl, subst, sym}
use Prim.Native.Nat.{◌<◌, ◌≤◌, ℕ}
use native.Mathlib.Omega.{arith}
use lib.Dec.{eqb, leb}
use borrow.Author.Tests.{eqb-true, leb-true, lt-leb}
use Rattle.word.specs.Anchor.{anchor_of}
use Rattle.model.specs.{Calls.opened, Walk.entries, Lists.All, Sides.near, History.waits}
use Rattle.model.specs.History.{InUse, Ledger, MarkedWhile, MarksNamed, MarksRight, Taken, Waits, final, here}
use Rattle.model.specs.History.{is_taken, later, a_pop_gives, a_pop_holds, pop_gives, pop_holds, a_push_holds, push_holds}
use Rattle.model.specs.Tables.{at_place, Queue, Tables, is_pooled, marked, record_at}
use Rattle.model.specs.{declared.{Entry.Entry, Call.Call}, Kinds.{giving, is_pop, is_push}}
use Rattle.model.proofs.Tests.{ByPlace.by_place, Rules.tests, Truth.{and-true, decide_eq, not_both}}
use Rattle.model.proofs.{Lists.{In.In, Slots.slots}, Machine.Book.BookCall, Ledger.Matched.Matched}
use Rattle.model.proofs.Invariant.{Owners.{Owner, held, queued, shows}, Tasks.{Own, Stage, Task}}
use Rattle.model.proofs.Places.{NoFreeSlot.{Holds, Pushes, used}, Marking.none-giving, Owned.push_pop}
use Rattle.model.proofs.Bridge.{Operations.task_of, View.{kind_of, place_of, rec_of, state_of, view}}
use Rattle.model.proofs.{Unsound.Safe.Safe, Progress.Reached.{final_reached, open_reached}}
use Rattle.model.proofs.{NoFreeSlot.{Held, tip_near, used_is}, Openings.after-opening}
use Rattle.model.proofs.Machine.Machine as M
use Rattle.model.proofs.Ledger.Waiting as waiting

-- What waits is in the sequential deque.
waits_in : (l : List Entry) (x : ℕ) → Waits x (entries l) → In x (slots l)
waits_in [] x x3 = elim x3 [ ]
waits_in (e ∷ l) x (here _ _ z) = inl z
waits_in (e ∷ l) x (later _ _ w) = inr (waits_in l x w)

all_in : (P : ℕ → Type 0) (l : List ℕ) (x : ℕ) → All P l → In x l → P x
all_in P [] x a i = absurd i
all_in P (y ∷ l) x a (inl z) = subst P (sym z) a.0
all_in P (y ∷ l) x a (inr i) = all_in P l x a.1 i

-- What a task's record holds, the task has.
module _ (s : M.Shared) (h : ℕ → Owner) (t : ℕ) (r : M.Rec) (c : BookCall) (x : ℕ) where
  tries : (k : M.Kind) → k ≡ M.push → r.own ≡ x → Own k s.label h t r.own r.label → h x ≡ held t
  tries M.push k e o = subst (λ y. h y ≡ held t) e o.1
  tries M.pop k e o = absurd (push_pop (sym k))

  helps : (f : Bool) → r.finishing ≡ f → Pushes r x → Stage f s.label h t r.kind r.side r.own r.label c → h x ≡ held t
  helps false f w z = tries r.kind w.0 w.2 z.own
  helps true f w z = absurd (not_both f w.1)

  has : (p : M.Place) → Task p s h t r c → Holds p r x → h x ≡ held t
  has M.idle w k = absurd k
  has M.at1 w k = tries r.kind k.0 k.2 w.1.own
  has M.at2 w k = tries r.kind k.0 k.2 w.0.before.own
  has M.at3 w k = tries r.kind k.0 k.2 w.0.before.own
  has M.at4 w k = tries r.kind k.0 k.2 w.0.before.own
  has M.at5 w k = helps r.finishing refl k w.stage
  has M.at6 w k = helps r.finishing refl k w.0.stage
  has M.at7 w k = helps r.finishing refl k w.0.stage
  has M.at8 w k = helps r.finishing refl k w.0.stage
  has M.at9 w k = helps r.finishing refl k w.0.stage
  has M.at10 w k = helps r.finishing refl k w.0.stage
  has M.at11 w k = subst (λ y. h y ≡ held t) k w.holds
  has (M.draw p) w k = absurd k
  has (M.give p) w k = subst (λ y. h y ≡ held t) k w.1.holds

-- What a record holds, the decoded record holds.
module _ (r : Call) (x : ℕ) where
  abbrev There : ℕ → Type 0
  There p = Held (at_place r p) x → Holds (place_of p) (rec_of r) x

  never : {A : Type 0} → false ≡ true → A
  never e = absurd (not_both e refl)

  -- A push at 1 to 10; a pop at 11; a pop at 15 to 17.
  held_by_push : (p : ℕ) → eqb p 11 ≡ false → leb 15 p ≡ false → Held (at_place r p) x
      → (kind_of r.kind ≡ M.push) × (eqb r.finishing 1 ≡ false) × (r.own ≡ x)
  unfolding push_holds pop_holds pop_gives
  held_by_push p a b (inl w) =
      let z = tests (leb 1 p ∷ leb p 10 ∷ eqb r.kind 0 ∷ eqb r.finishing 0 ∷ eqb r.own x ∷ []) w in
      let f : r.finishing ≡ 0 = eqb-true _ _ z.1.1.1.0 in
      (ap (λ (b : Bool). cond b M.push M.pop) z.1.1.0, ap (λ (n : ℕ). eqb n 1) f, eqb-true _ _ z.1.1.1.1.0)
  held_by_push p a b (inr (inl w)) = absurd (not_both (and-true _ _ w).0 a)
  held_by_push p a b (inr (inr w)) = absurd (not_both (and-true _ _ w).0 b)

  end : Held (at_place r 11) x → near r.side (anchor_of r.seen) ≡ x
  unfolding push_holds pop_holds pop_gives
  end (inl w) = never w
  end (inr (inl w)) = eqb-true _ _ (and-true (is_pop r) _ w).1
  end (inr (inr w)) = never w

  none : (p : ℕ) → leb p 10 ≡ false → eqb p 11 ≡ false → leb 15 p ≡ false → Held (at_place r p) x → ⊥
  unfolding push_holds pop_holds pop_gives
  none p a b c (inl w) = not_both (tests (leb 1 p ∷ leb p 10 ∷ eqb r.kind 0 ∷ eqb r.finishing 0 ∷ eqb r.own x ∷ []) w).1.0 a
  none p a b c (inr (inl w)) = not_both (and-true _ _ w).0 b
  none p a b c (inr (inr w)) = not_both (and-true _ _ w).0 c

  own : (p : ℕ) → leb p 10 ≡ false → eqb p 11 ≡ false → Held (at_place r p) x → r.own ≡ x
  unfolding push_holds pop_holds pop_gives
  own p a b (inl w) = absurd (not_both (tests (leb 1 p ∷ leb p 10 ∷ eqb r.kind 0 ∷ eqb r.finishing 0 ∷ eqb r.own x ∷ []) w).1.0 a)
  own p a b (inr (inl w)) = absurd (not_both (and-true _ _ w).0 b)
  own p a b (inr (inr w)) = eqb-true _ _ (and-true (is_pop r) _ (and-true (leb 15 p) _ w).1).1

  at_places : (p : ℕ) → p ≢ 0 → p ≤ 17 → There p
  unfolding rec_of
  at_places = by_place There
      (held_by_push 1 refl refl)
      (held_by_push 2 refl refl)
      (held_by_push 3 refl refl)
      (held_by_push 4 refl refl)
      (held_by_push 5 refl refl)
      (held_by_push 6 refl refl)
      (held_by_push 7 refl refl)
      (held_by_push 8 refl refl)
      (held_by_push 9 refl refl)
      (held_by_push 10 refl refl)
      (λ w. tip_near r x (eqb r.side 1) ∙ end w)
      (λ w. absurd (none 12 refl refl refl w))
      (λ w. absurd (none 13 refl refl refl w))
      (λ w. absurd (none 14 refl refl refl w))
      (own 15 refl refl)
      (own 16 refl refl)
      (own 17 refl refl)

  busy : r.place ≡ 0 → Held r x → ⊥
  unfolding push_holds pop_holds pop_gives
  busy z w = idle (subst (λ p. Held (at_place r p) x) z w)
    where
      idle : Held (at_place r 0) x → ⊥
      idle (inl w) = not_both w refl
      idle (inr (inl w)) = not_both w refl
      idle (inr (inr w)) = not_both w refl

  -- A push that holds its slot, or a pop at 11, is at none of 15 to 17.
  push_not_giving : push_holds r x ≡ true → giving r ≡ false
  unfolding push_holds
  push_not_giving w =
      let z = tests (leb 1 r.place ∷ leb r.place 10 ∷ is_push r ∷ eqb r.finishing 0 ∷ eqb r.own x ∷ []) w in
      lt-leb 15 r.place (omega (arith, leb-true r.place 10 z.1.0))

  pop_not_giving : pop_holds r x ≡ true → giving r ≡ false
  unfolding pop_holds
  pop_not_giving w = lt-leb 15 r.place (omega (arith, eqb-true r.place 11 (and-true _ _ w).0))

  gives-giving : pop_gives r x ≡ true → giving r ≡ true
  unfolding pop_gives
  gives-giving w = (and-true _ _ w).0

-- The places 15 to 17.
giving-is : (p : ℕ) → p ≤ 17 → M.is_giving (place_of p) ≡ leb 15 p
giving-is p l = go (decide_eq p 0)
  where
    go : (p ≡ 0) ⊎ (p ≢ 0) → M.is_giving (place_of p) ≡ leb 15 p
    go (inl z) = subst (λ p. M.is_giving (place_of p) ≡ leb 15 p) (sym z) refl
    go (inr z) = by_place (λ p. M.is_giving (place_of p)
        ≡ leb 15 p) refl refl refl refl refl refl refl refl refl refl refl refl refl refl refl refl refl p z l

module _ (n : ℕ) (q : Queue) (l : Ledger) (g : Matched n q l) (f : Safe q) where
  abbrev G : Tables
  G = q.tables

  abbrev h : ℕ → Owner
  h = g.inv.owner

  low : (t : ℕ) → t < G.control.tasks → (record_at q t).place ≤ 17
  low t lt = go (decide_eq (record_at q t).place 0)
    where
      go : ((record_at q t).place ≡ 0) ⊎ ((record_at q t).place ≢ 0) → (record_at q t).place ≤ 17
      go (inl k) = omega arith
      go (inr k) = (f.fine t lt k).place

  task : (t : ℕ) → t < G.control.tasks → (let r = rec_of (record_at q t) in Task r.place (view G) h t r (g.book.calls t))
  unfolding state_of rec_of
  task t lt = subst (λ (r : M.Rec). Task r.place (view G) h t r (g.book.calls t)) (task_of q t lt) (g.inv.tasks t)

  gives : (t : ℕ) → t < G.control.tasks → M.is_giving ((state_of q).task t).place ≡ giving (record_at q t)
  unfolding rec_of
  gives t lt = ap (λ (r : M.Rec). M.is_giving r.place) (task_of q t lt) ∙ giving-is (record_at q t).place (low t lt)

  holder : (t : ℕ) → t < G.control.tasks → (x : ℕ) → Held (record_at q t) x → h x ≡ held t
  unfolding rec_of
  holder t lt x e = go (decide_eq (record_at q t).place 0)
    where
      go : ((record_at q t).place ≡ 0) ⊎ ((record_at q t).place ≢ 0) → h x ≡ held t
      go (inl k) = absurd (busy (record_at q t) x k e)
      go (inr k) = has (view G) h t (rec_of (record_at q t)) _ x (place_of (record_at q t).place) (task t lt)
          (at_places (record_at q t) x (record_at q t).place k (low t lt) e)

  shown : (x : ℕ) → x ≤ G.control.slots → marked G.marks x ≡ shows (state_of q).task (h x)
  unfolding state_of view
  shown = g.inv.marks

  -- The mark of a slot that a record holds.
  held_shown : (x : ℕ) → x ≤ G.control.slots → (t : ℕ) → t < G.control.tasks → Held (record_at q t) x
      → marked G.marks x ≡ not (giving (record_at q t))
  held_shown x le t lt e = shown x le ∙ ap (shows (state_of q).task) (holder t lt x e) ∙ ap not (gives t lt)

  marked_taken : (x : ℕ) → x ≤ G.control.slots → marked G.marks x ≡ true → Taken q x
  marked_taken x le m = go (used_is n q l g f x (used (record { state = state_of q; book = g.book }) g.inv x
      (λ e. not_both m (shown x le ∙ ap (shows (state_of q).task) e))))
    where
      go : InUse q x → Taken q x
      go (is_taken k) = k
      go (a_pop_gives t lt e) = absurd (not_both m (held_shown x le t lt (inr (inr e)) ∙ ap not (gives-giving (record_at q t) x e)))

  taken_marked : (x : ℕ) → x ≤ G.control.slots → Taken q x → marked G.marks x ≡ true
  unfolding state_of
  taken_marked x le (waits w) =
      let i = waits_in g.book.queue x (subst (Waits x) (waiting.waits G g.links h g.book.queue g.inv.whole) w) in
      shown x le ∙ ap (shows (state_of q).task) (all_in (λ y. h y ≡ queued) (slots g.book.queue) x g.inv.whole.owned i)
  taken_marked x le (a_push_holds t lt e) = held_shown x le t lt (inl e) ∙ ap not (push_not_giving (record_at q t) x e)
  taken_marked x le (a_pop_holds t lt e) = held_shown x le t lt (inr (inl e)) ∙ ap not (pop_not_giving (record_at q t) x e)

  -- In a named queue no slot is being given back.
  use_is_taken : is_pooled G.control ≡ false → (x : ℕ) → InUse q x → Taken q x
  unfolding view state_of
  use_is_taken named x (is_taken k) = k
  use_is_taken named x (a_pop_gives t lt e) =
      let none : giving (record_at q t) ≡ false = sym (gives t lt)
      ∙ none-giving (view G) h t ((state_of q).task t) (g.book.calls t) named ((state_of q).task t).place (g.inv.tasks t) in
      absurd (not_both (gives-giving (record_at q t) x e) none)

pub marks-right : MarksRight
marks-right pooled = after-opening pooled (MarkedWhile Taken) (λ q tasks slots tag e os x some le.
    let o = opened pooled q tasks slots tag in
    let z = final_reached pooled tasks os o (open_reached pooled tasks q slots tag e) in (
      marked_taken z.position (final o os) z.ledger z.matched z.safe x le,
      taken_marked z.position (final o os) z.ledger z.matched z.safe x le,
    ))

pub marks-named : MarksNamed
marks-named = after-opening false (MarkedWhile InUse) (λ q tasks slots tag e os x some le.
    let o = opened false q tasks slots tag in
    let z = final_reached false tasks os o (open_reached false tasks q slots tag e) in (
      λ m. is_taken (marked_taken z.position (final o os) z.ledger z.matched z.safe x le m),
      λ u. taken_marked z.position (final o os) z.ledger z.matched z.safe x le
          (use_is_taken z.position (final o os) z.ledger z.matched z.safe z.roomy.way x u),
    ))
