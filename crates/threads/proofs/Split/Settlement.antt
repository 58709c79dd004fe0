-- A split step taken apart: the tables that its touch leaves, and what its settlement comes to, which hangs on one test and on the place's move.
use mathlib.Core.{Path.{◌≡◌, refl, ap, ◌∙◌}, Bool.{Bool, true, false, ◌&&◌, not, cond}}
use Prim.Native.Nat.{ℕ}
use lib.Dec.{eqb}
use Rattle.word.specs.Anchor.{anchor_of}
use Rattle.model.specs.declared.{Control.Control, Call.Call, Record.Record, Entry.Entry, Answer.Answer}
use Rattle.model.specs.Outcomes.{Moved}
use Rattle.model.specs.{Tables.{Tables, counting}, Sound.anchor_sound}
use Rattle.model.specs.{Places.{Touch, Move, apply}, Route.{leave, route, onward, answer}}
use Rattle.model.specs.{Refusals.{leaves_sound, has_room}, Calls.{Acted, decide, entry_of, finish}}
use Rattle.model.proofs.Tests.Truth.{split, either}
use Rattle.decide.proofs.Routes.{Quiet}
use Rattle.threads_model.specs.{declared.PlannedTouch.PlannedTouch, Split.{gone, settled_at, meets_anchor}}
use Rattle.threads_model.specs.Split.{refuses, knowing, Touched, found, swapped, perform, Settled, refusing, entry_found}
use Rattle.threads.proofs.Split.Touches.{done, failed}

-- Only a route to the answer popped names an entry.
pub any_entry : (n f : ℕ) (e e' : Entry) → Quiet n → answer (onward n f) e ≡ answer (onward n f) e'
unfolding onward answer
any_entry n f e e' h =
    split (eqb n leave)
    (λ l. split (eqb f 1) (λ g. simp (l, g)) (λ g. simp (l, g)))
    (λ l. simp (l, h))

pub told : (q : Tables) (r : Record) {a b : Answer} → a ≡ b
    → ◌≡◌ {A = Acted} (record { tables = q; task = r; outcome = Moved a }) (record { tables = q; task = r; outcome = Moved b })
told q r e = ap (λ (a : Answer). record { tables = q; task = r; outcome = Moved a }) e

-- A function of a choice.
of_either : {A B : Type 0} (f : A → B) (b : Bool) (x y : A) → f (cond b x y) ≡ cond b (f x) (f y)
of_either f true x y = refl
of_either f false x y = refl

pub one : {A : Type 0} (b : Bool) (x y : A) → cond b x y ≡ cond (b && true) x y
one true x y = refl
one false x y = refl

both : {A : Type 0} (a b : Bool) (x y : A) → cond (a && b) x y ≡ cond (a && (b && true)) x y
both true b x y = one b x y
both false b x y = refl

pub none : {A : Type 0} (b : Bool) (x : A) → cond b x x ≡ x
none true x = refl
none false x = refl

-- Tables, and what is left of the record with the outcome.
abbrev leaving : Tables → Settled → Acted
leaving q e = record { tables = q; task = e.task; outcome = e.outcome }

module _ (q : Tables) (k : ℕ) where
  abbrev c : Control
  c = q.control

  -- The settlement of a record at its place once it has found w.
  abbrev settlement : Call → ℕ → Settled
  settlement r w = settled_at r.place (knowing c.pooled c.slots w w) r w k

  abbrev refused : Call → Settled
  refused r = refusing (counting r k) 34

  -- Past what is asked of the record: with the tables that the touch has left and the word that it has found.
  abbrev pub settled_with : Call → Tables → ℕ → Acted
  settled_with r q' w = leaving q' (cond (meets_anchor r && not (anchor_sound c.slots (anchor_of w))) (refused r) (settlement r w))

  -- The answer after a move names the same entry, or none.
  abbrev pub Same : Call → ℕ → Move → Type 0
  Same s w m =
      let n = onward (route s.place s.kind m.branch) m.task.finishing in
      answer n (entry_found s w) ≡ answer n (entry_of q s)

  -- Where the step is sound it makes its move.
  ends_as : (s : Call) (q' : Tables) (w : ℕ) (m : Move) (b : Bool) → q' ≡ cond b (apply m.touch q) q → Same s w m
      → leaving q' (cond b (gone (counting s k) w m) (refused s)) ≡ decide (cond b 0 34) q (counting s k) (finish q (counting s k) m)
  unfolding gone finish
  ends_as s q' w m true e h = ap (λ (x : Tables). leaving x (gone (counting s k) w m)) e ∙ told _ _ h
  ends_as s q' w m false e h = ap (λ (x : Tables). leaving x (refused s)) e

  -- The three parts, where p is the plan, w the word found and m the move: they are the step.
  splits_as : (s : Call) (p : PlannedTouch) (w : ℕ) (m : Move) (good : Bool)
      → (perform q p).found ≡ w → (perform q p).tables ≡ cond good (apply m.touch q) q
      → meets_anchor s && not (anchor_sound c.slots (anchor_of w)) ≡ false
      → settlement s w ≡ cond good (gone (counting s k) w m) (refused s) → Same s w m
      → settled_with s (perform q p).tables (perform q p).found ≡ decide (cond good 0 34) q (counting s k) (finish q (counting s k) m)
  splits_as s p w m good finds left passes settles same =
      ap (λ (v : ℕ). settled_with s (perform q p).tables v) finds
      ∙ (λ i. leaving (perform q p).tables (cond (passes i) (refused s) (settles i)))
      ∙ ends_as s (perform q p).tables w m good left same

  -- The same at a place that needs a row: 34 without one.
  pub row_splits : (s : Call) (p : PlannedTouch) (w : ℕ) (m : Move) (row good other : Bool) (else : Settled)
      → (perform q p).found ≡ w → (perform q p).tables ≡ cond good (apply m.touch q) q → meets_anchor s ≡ false
      → settlement s 0 ≡ cond (row && other) else (refused s)
      → settlement s w ≡ cond (row && good) (gone (counting s k) w m) (refused s) → Same s w m
      → settled_with s (perform q (cond (not row) (refuses 34) p)).tables (perform q (cond (not row) (refuses 34) p)).found
      ≡ decide (cond (row && good) 0 34) q (counting s k) (finish q (counting s k) m)
  unfolding perform
  row_splits s p w m true good other else finds left meets without settles same =
      splits_as s p w m good finds left (λ i. meets i && not (anchor_sound c.slots (anchor_of w))) settles same
  row_splits s p w m false good other else finds left meets without settles same =
      λ i. leaving q (cond (meets i && not (anchor_sound c.slots (anchor_of 0))) (refused s) (without i))

  -- A change: touch t is made where the word found, w, is the one as read, `was`. Where it may not be made the word is only loaded.
  module _ (s : Call) (t : Touch) (there here : Call) (branch w was : ℕ) (swap load : PlannedTouch)
      (swaps : perform q swap ≡ swapped q w was (apply t q)) (loads : perform q load ≡ found q w) where
    abbrev way : Bool → Move
    way b = cond b (done t there) (failed here branch)

    abbrev made : Move
    made = way (eqb w was)

    abbrev may : Bool
    may = leaves_sound c.slots t && has_room s t

    -- What the step is asked of its move.
    abbrev fine : Move → Bool
    fine m = leaves_sound c.slots m.touch && (has_room s m.touch && true)

    finds : (perform q (cond may swap load)).found ≡ w
    finds =
        either (λ (p : PlannedTouch). (perform q p).found ≡ w) may (ap (λ (d : Touched). d.found) swaps) (ap (λ (d : Touched). d.found) loads)

    left_by : (b : Bool) → cond may (cond b (apply t q) q) q ≡ cond (fine (way b)) (apply (way b).touch q) q
    left_by true = both (leaves_sound c.slots t) (has_room s t) (apply t q) q
    left_by false = none may q

    left : (perform q (cond may swap load)).tables ≡ cond (fine made) (apply made.touch q) q
    left =
        of_either (λ (p : PlannedTouch). (perform q p).tables) may swap load
        ∙ (λ i. cond may (swaps i).tables (loads i).tables)
        ∙ left_by (eqb w was)

    pub change_splits : meets_anchor s && not (anchor_sound c.slots (anchor_of w)) ≡ false
        → settlement s w ≡ cond (fine made) (gone (counting s k) w made) (refused s)
        → Same s w (done t there) → Same s w (failed here branch)
        → settled_with s (perform q (cond may swap load)).tables (perform q (cond may swap load)).found
        ≡ decide (cond (fine made) 0 34) q (counting s k) (finish q (counting s k) made)
    change_splits passes settles x y = splits_as s (cond may swap load) w made (fine made) finds left passes settles (either (Same s w) (eqb w was) x y)

    pub row_change_splits : (row other : Bool) (else : Settled) → meets_anchor s ≡ false
        → settlement s 0 ≡ cond (row && other) else (refused s)
        → settlement s w ≡ cond (row && fine made) (gone (counting s k) w made) (refused s)
        → Same s w (done t there) → Same s w (failed here branch)
        → let p = cond (not row) (refuses 34) (cond may swap load) in
        settled_with s (perform q p).tables (perform q p).found ≡ decide (cond (row && fine made) 0 34) q (counting s k) (finish q (counting s k) made)
    row_change_splits row other else meets without settles x y =
        row_splits s (cond may swap load) w made row (fine made) other else finds left meets without settles (either (Same s w) (eqb w was) x y)
