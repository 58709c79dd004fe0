-- What a step never changes: control's tasks, slots and way of opening, at places 1 to 10 its head; and, unless it ends the call, the record's
-- kind and side, at 1 to 10 its own slot and label. A step that ends the call leaves the record all zero, a refused one all as it was.
use mathlib.Core.{Path.{◌≡◌, refl, sym, ap, subst, ◌∙◌}, Bool.{Bool, true, false, ◌||◌, cond}, List.{List, [], ◌∷◌}}
use Prim.Native.Nat.{ℕ, zero, suc, ◌≤◌}
use native.Mathlib.Omega.{arith}
use lib.{Dec.{eqb, leb}, ListN.get_or}
use borrow.Author.Tests.{leb-true, eqb-true, eqb-false, ne_eqb}
use Rattle.model.specs.Outcomes.{Moved, Refused}
use Rattle.model.specs.declared.{Call.Call, Record.Record, Entry.Entry}
use Rattle.model.specs.{Tables.{Tables, idle}, Places.word_found, Refusals.step_sound, Calls.{Acted, finish}}
use Rattle.model.specs.Places.{Touch, nothing, set_anchor, set_link, clear_mark, take_slot, set_next, set_head, Move, apply}
use Rattle.model.specs.{Route.{push_route, pop_route, route, onward, answer, goes}, Ends.{ends_call, is_moved}}
use Rattle.model.proofs.Tests.Truth.{split}
use Rattle.places.specs.Arm.{step_at}
use Rattle.engine.specs.StepAdmitted.{step_admitted}
use Rattle.engine.proofs.{ByPlace.{Keeps, Moves, heads, itself, moves}, InParts.{here, fault, placed}}

clash : false ≡ true → ⊥
clash h = let z : ◌≡◌ {A = ℕ} 0 1 = cc in omega arith

-- ---- a route leads to a place or to an answer
known : ℕ → Bool
known n = leb n 17 || (eqb n 20 || (eqb n 21 || (eqb n 22 || (eqb n 23 || eqb n 24))))

all_known : List ℕ → Bool
all_known [] = true
all_known (n ∷ l) = cond (known n) (all_known l) false

all_lines : List (List ℕ) → Bool
all_lines [] = true
all_lines (l ∷ ls) = cond (all_known l) (all_lines ls) false

both : (a b : Bool) → cond a b false ≡ true → (a ≡ true) × (b ≡ true)
both true b h = (refl, h)
both false b h = absurd (let z : ◌≡◌ {A = ℕ} 0 1 = cc in omega arith)

some_known : (l : List ℕ) (i : ℕ) → all_known l ≡ true → known (get_or l i 0) ≡ true
unfolding all_known known
some_known [] i h = refl
some_known (n ∷ l) zero h = (both _ _ h).0
some_known (n ∷ l) (suc i) h = some_known l i (both (known n) _ h).1

some_line : (ls : List (List ℕ)) (i : ℕ) → all_lines ls ≡ true → all_known (get_or ls i []) ≡ true
unfolding all_lines all_known
some_line [] i h = refl
some_line (l ∷ ls) zero h = (both _ _ h).0
some_line (l ∷ ls) (suc i) h = some_line ls i (both (all_known l) _ h).1

route-known : (place kind outcome : ℕ) → known (route place kind outcome) ≡ true
unfolding route push_route pop_route all_lines all_known known
route-known place kind outcome =
    split (eqb kind 0)
    (λ k. rw k (some_known (get_or push_route place []) outcome (some_line push_route place refl)))
    (λ k. rw k (some_known (get_or pop_route place []) outcome (some_line pop_route place refl)))

-- ---- the step
pub record Unchanged (q : Tables) (r : Record) (a : Acted) : Type 0 where
  pub tasks : a.tables.control.tasks ≡ q.control.tasks
  pub slots : a.tables.control.slots ≡ q.control.slots
  pub pooled : a.tables.control.pooled ≡ q.control.pooled
  pub head : r.call.place ≤ 10 → a.tables.control.head ≡ q.control.head
  pub keeps : ends_call a.outcome ≡ false → Keeps (r.call.place ≤ 10) r.call a.task.call
  pub zero : ends_call a.outcome ≡ true → a.task.call ≡ idle
  pub still : is_moved a.outcome ≡ false → (a.tables ≡ q) × (a.task ≡ r)

-- What a touch leaves of control.
record Touched (t : Touch) (q : Tables) : Type 0 where
  tasks : (apply t q).control.tasks ≡ q.control.tasks
  slots : (apply t q).control.slots ≡ q.control.slots
  pooled : (apply t q).control.pooled ≡ q.control.pooled
  head : heads t ≡ false → (apply t q).control.head ≡ q.control.head

touches : (t : Touch) (q : Tables) → Touched t q
unfolding heads
touches nothing q = record { tasks = refl; slots = refl; pooled = refl; head = λ _. refl }
touches (set_anchor w) q = record { tasks = refl; slots = refl; pooled = refl; head = λ _. refl }
touches (set_link side x w) q = record { tasks = refl; slots = refl; pooled = refl; head = λ _. refl }
touches (clear_mark x) q = record { tasks = refl; slots = refl; pooled = refl; head = λ _. refl }
touches (take_slot w x l) q = record { tasks = refl; slots = refl; pooled = refl; head = λ h. absurd (clash (sym h)) }
touches (set_next x v) q = record { tasks = refl; slots = refl; pooled = refl; head = λ _. refl }
touches (set_head w) q = record { tasks = refl; slots = refl; pooled = refl; head = λ h. absurd (clash (sym h)) }

-- Where the route leads on to n, a record goes on with the fields that it kept, or the answer ends the call.
module _ (n : ℕ) (e : Entry) where
  stays : (in_deque : Type 0) (r t : Call) → Keeps in_deque r t → known n ≡ true → (n ≡ 20 → ⊥) → ends_call (Moved (answer n e)) ≡ false
      → Keeps in_deque r (goes t n)
  unfolding goes answer known
  stays in_deque r t k ok live h =
      split (leb n 17)
      (λ low. rw low (record { kind = k.kind; side = k.side; own = k.own; label = k.label }))
      (λ high. split (eqb n 21)
      (λ a. absurd (clash (sym (simp a at h))))
      (λ a. split (eqb n 22)
      (λ b. absurd (clash (sym (simp (a, b) at h))))
      (λ b. split (eqb n 23)
      (λ d. absurd (clash (sym (simp (a, b, d) at h))))
      (λ d. split (eqb n 24)
      (λ f. absurd (clash (sym (simp (a, b, d, f) at h))))
      (λ f. absurd (clash (simp (high, ne_eqb n 20 live, a, b, d, f) at ok)))))))

  leaves : (t : Call) → ends_call (Moved (answer n e)) ≡ true → goes t n ≡ idle
  unfolding goes answer
  leaves t h =
      split (leb n 17)
      (λ low. let le : n ≤ 17 = leb-true n 17 low in
      let other : (m : ℕ) → 18 ≤ m → eqb n m ≡ false = λ m g. ne_eqb n m (λ (x : n ≡ m). omega (arith, le, x, g)) in
      absurd (clash (simp (other 21 (omega arith), other 22 (omega arith), other 23 (omega arith), other 24 (omega arith)) at h)))
      (λ high. simp high)

unmoved : (n finishing : ℕ) → eqb n 20 ≡ false → onward n finishing ≡ n
unfolding onward
unmoved n finishing a = simp a

onward-known : (n finishing : ℕ) → known n ≡ true → known (onward n finishing) ≡ true
unfolding onward known
onward-known n finishing ok =
    split (eqb n 20) (λ a. split (eqb finishing 1) (λ b. simp (a, b)) (λ b. simp (a, b))) (λ a. ap known (unmoved n finishing a) ∙ ok)

onward_live : (n finishing : ℕ) → onward n finishing ≡ 20 → ⊥
unfolding onward
onward_live n finishing h =
    split (eqb n 20)
    (λ a. split (eqb finishing 1)
    (λ b. let x : ◌≡◌ {A = ℕ} 21 20 = simp (a, b) at h in omega arith)
    (λ b. let x : ◌≡◌ {A = ℕ} 1 20 = simp (a, b) at h in omega arith))
    (λ a. eqb-false n 20 a (simp a at h))

module _ (q : Tables) (r : Record) where
  finishes : (m : Move) → Moves q.control r.call m → Unchanged q r (finish q r m)
  unfolding finish
  finishes m k =
      let t = touches m.touch q in
      let n = route r.call.place r.call.kind m.branch in
      let f = m.task.finishing in
      record {
        tasks = t.tasks;
        slots = t.slots;
        pooled = t.pooled;
        head = λ in_deque. t.head (k.1 in_deque);
        keeps = λ h. stays _ _ _ r.call m.task k.0 (onward-known n f (route-known r.call.place r.call.kind m.branch)) (onward_live n f) h;
        zero = λ h. leaves _ _ m.task h;
        still = λ h. absurd (clash (sym h));
      }

  whichever : (b : Bool) (x y : Acted) → (b ≡ true → Unchanged q r x) → Unchanged q r y → Unchanged q r (cond b x y)
  whichever true x y p _ = p refl
  whichever false x y _ p = p

  -- A refusal keeps all.
  same : (n : ℕ) → Unchanged q r (record { tables = q; task = r; outcome = Refused n })
  same n = record {
    tasks = refl;
    slots = refl;
    pooled = refl;
    head = λ _. refl;
    keeps = λ _. itself q.control r.call;
    zero = λ h. absurd (clash h);
    still = λ _. (refl, refl);
  }

  at_its_place : fault q r ≡ 0 → Unchanged q r (step_at r.call.place q r.call r.retries)
  at_its_place none =
      let range = placed q r none in
      subst (λ (a : Acted). Unchanged q r a) (sym (here q r))
      (whichever (eqb (cond (step_sound q.control r.call (word_found q r.call)) 0 34) 0) _ _
      (λ _. finishes _ (moves q.control r.call (word_found q r.call) range.0))
      (same _))

  pub admitted_unchanged : Unchanged q r (step_admitted q r)
  unfolding step_admitted
  admitted_unchanged = whichever (eqb (fault q r) 0) _ _ (λ e. at_its_place (eqb-true _ _ e)) (same _)
