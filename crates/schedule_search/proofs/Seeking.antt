-- What a search hands back, from what its parts hand back.
use mathlib.Core.{Path.{◌≡◌, refl, sym, ap, ◌∙◌}, Bool.{Bool, true, false}, List.List}
use Prim.Native.Nat.{ℕ, zero, suc, ◌+◌, ◌-◌, ◌<◌, ◌≤◌}
use native.Mathlib.Omega.{arith}
use borrow.Author.Tests.{ne_eqb}
use Rattle.std.specs.Prelude.{Option, Some, None, is_some}
use Rattle.model.{specs.Tables.{Queue, tables_of}, proofs.Tests.Truth.not_both}
use Rattle.schedule_model.specs.{Schedules.{ends, both_answered}, Next.{Next, given, no_more}}
use Rattle.schedule_model.specs.Search.{ended, or_else, frees, tried, seek_by}
use Rattle.schedule_model.specs.{declared.Ending.Ending, declared.Ending.TheVariants.{Answered, Cut, Refused}, Endings.number_of}
use Rattle.schedule_search.specs.{declared.Found.Found, Stepped.moved, Sought.under}
use Rattle.schedule_search.specs.Sought.{seeking, branch, found_of, written, Sought, sought, ends_here}

abbrev pub handed : Option Found → List ℕ → Queue → Sought
handed f ws q = record { found = f; memory = ws; queue = q }

-- A search that ends here: nothing is stored.
stops : (free : Bool) (i e : ℕ) (ws : List ℕ) → written i (ended free (ends e)) ws ≡ ws
stops true i e ws = refl
stops false i e ws = refl

ends_as : (f : Option Found) (left e : ℕ) (free : Bool) (ws : List ℕ) (q : Queue) (m : Next) → m ≡ ended free (ends e)
    → f ≡ found_of (48 - left) (ended free (ends e)) → handed f ws q ≡ sought left ws m q
unfolding sought
ends_as f left e free ws q m k h = (λ i. handed (h i) (sym (stops free (49 - left) e ws) i) q) ∙ ap (λ (x : Next). sought left ws x q) (sym k)

pub none_here : (left : ℕ) (ws : List ℕ) (q : Queue) → handed None ws q ≡ sought left ws no_more q
unfolding sought
none_here left ws q = refl

-- The whole search, in rows of its own: what is left in those matters to nobody.
pub by_value : (f : Option Found) (ws ws' : List ℕ) (m : Next) (q q' : Queue) → handed f ws' q' ≡ sought 48 ws m q
    → (let r = q'.tables in
    handed f ws' (record { tables = tables_of q.tables.control r.lefts r.rights r.labels r.marks r.next; records = q.records }))
    ≡ sought 48 ws m q
unfolding sought
by_value f ws ws' m q q' e =
    λ i.
    let r = (e i).queue.tables in
    handed (e i).found (e i).memory
    (record { tables = tables_of q.tables.control r.lefts r.rights r.labels r.marks r.next; records = q.records })

-- It goes on: no step was refused, a call is unanswered, and a step is left.
pub record Goes (stopped both : Bool) (left : ℕ) : Type 0 where
  pub moved : stopped ≡ false
  pub busy : both ≡ false
  pub some : 0 < left

pub goes_on_lem : (s b : Bool) (left : ℕ) → None ≡ ends_here s b left → Goes s b left
goes_on_lem true b left h = absurd (cc)
goes_on_lem false true left h = absurd (cc)
goes_on_lem false false zero h = absurd (cc)
goes_on_lem false false (suc n) h = record { moved = refl; busy = refl; some = omega arith }

module _ (ws : List ℕ) (len : ℕ) (free : Bool) (q : Queue) where
  abbrev found_by : ℕ → Next → Sought
  found_by left m = sought left ws m q

  over : (left : ℕ) → both_answered q ≡ true → seeking ws len left free q ≡ ended free (ends 0)
  unfolding seek_by
  over zero e = rw e refl
  over (suc n) e = rw e refl

  -- The schedule ends, as the code finds it.
  ends_so : (s : Bool) (left : ℕ) (e : Ending) → Some e ≡ ends_here s (both_answered q) left
      → under s free (seeking ws len left free q) ≡ ended free (ends (number_of e))
  unfolding seek_by
  ends_so true left e h = let z : Refused ≡ e = cc in ap (λ (k : Ending). ended free (ends (number_of k))) z
  ends_so false left e h = go left (both_answered q) refl h
    where
      go : (left : ℕ) (x : Bool) → both_answered q ≡ x → Some e ≡ ends_here false x left → seeking ws len left free q ≡ ended free (ends (number_of e))
      go left true y h = let z : Answered ≡ e = cc in over left y ∙ ap (λ (k : Ending). ended free (ends (number_of k))) z
      go zero false y h = let z : Cut ≡ e = cc in rw y (ap (λ (k : Ending). ended free (ends (number_of k))) z)
      go (suc k) false y h = absurd (let z : None ≡ Some e = sym (h ∙ rw (ne_eqb (suc k) 0 (λ x. omega (arith, x)))) in cc)

  pub ends-here : (f : Option Found) (s : Bool) (left : ℕ) (e : Ending) → Some e ≡ ends_here s (both_answered q) left
      → f ≡ found_of (48 - left) (ended free (ends (number_of e))) → handed f ws q ≡ found_by left (under s free (seeking ws len left free q))
  ends-here f s left e h k = ends_as f left (number_of e) free ws q (under s free (seeking ws len left free q)) (ends_so s left e h) k

  -- What is found from task t on.
  abbrev pub rest : ℕ → ℕ → Next
  rest left zero = or_else (branch ws len left free q 0) (branch ws len left free q 1)
  rest left (suc zero) = branch ws len left free q 1
  rest left (suc (suc t)) = no_more

  both_tried : (left : ℕ) → both_answered q ≡ false → 0 < left → seeking ws len left free q ≡ rest left 0
  unfolding seek_by
  both_tried zero e h = absurd (omega (arith, h))
  both_tried (suc n) e h = let z : n ≡ suc n - 1 = omega arith in rw e (ap trying z)
    where
      trying : ℕ → Next
      trying m =
          or_else (tried ws len (suc n) free q 0 (moved q 0).outcome (seeking ws len m (frees ws len (suc n) free 0) (moved q 0).queue))
          (tried ws len (suc n) free q 1 (moved q 1).outcome (seeking ws len m (frees ws len (suc n) free 1) (moved q 1).queue))

  pub all : (s : Bool) (left : ℕ) → Goes s (both_answered q) left → under s free (seeking ws len left free q) ≡ rest left 0
  all s left goes =
      ap (λ (k : Bool). under k free (seeking ws len left free q)) goes.moved ∙ both_tried left goes.busy goes.some

-- Before task t is tried, none of those before it led to a schedule, and all is as it was. m: what is to be found.
pub record Turn (ws ws' : List ℕ) (len : ℕ) (free : Bool) (q q' : Queue) (left t : ℕ) (m : Next) : Type 0 where
  pub low : t ≤ 2
  pub memory : ws' ≡ ws
  pub queue : q' ≡ q
  pub found : m ≡ rest ws len free q left t

module _ (ws : List ℕ) (len : ℕ) (free : Bool) (q : Queue) (left : ℕ) where
  -- Where task t leads to a schedule, that is it; else the next is tried.
  first_found : (t : ℕ) (f : Option Found) (ws' : List ℕ) (q' : Queue) → t < 2 → handed f ws' q' ≡ sought left ws (branch ws len left free q t) q
      → is_some f ≡ true → handed f ws' q' ≡ sought left ws (rest ws len free q left t) q
  unfolding sought
  first_found zero f ws' q' low e h = go (branch ws len left free q 0) e
    where
      go : (x : Next) → handed f ws' q' ≡ sought left ws x q → handed f ws' q' ≡ sought left ws (or_else x (branch ws len left free q 1)) q
      go (given s) e = e
      go no_more e = absurd (not_both h (ap (λ (s : Sought). is_some s.found) e))
  first_found (suc zero) f ws' q' low e h = e
  first_found (suc (suc t)) f ws' q' low e h = absurd (omega (arith, low))

  record Nothing (ws' : List ℕ) (q' : Queue) (x : Next) : Type 0 where
    memory : ws' ≡ ws
    queue : q' ≡ q
    none : x ≡ no_more

  not_found : (f : Option Found) (ws' : List ℕ) (q' : Queue) (x : Next) → handed f ws' q' ≡ sought left ws x q → is_some f ≡ false → Nothing ws' q' x
  unfolding sought
  not_found f ws' q' (given s) e h = absurd (not_both (ap (λ (s : Sought). is_some s.found) e) h)
  not_found f ws' q' no_more e h =
      record { memory = ap (λ (s : Sought). s.memory) e; queue = ap (λ (s : Sought). s.queue) e; none = refl }

  skipped : (t : ℕ) → t < 2 → branch ws len left free q t ≡ no_more → rest ws len free q left t ≡ rest ws len free q left (suc t)
  skipped zero low e = ap (λ (m : Next). or_else m (branch ws len left free q 1)) e
  skipped (suc zero) low e = e
  skipped (suc (suc t)) low e = absurd (omega (arith, low))

  past : (t : ℕ) → 2 ≤ t → rest ws len free q left t ≡ no_more
  past zero h = absurd (omega (arith, h))
  past (suc zero) h = absurd (omega (arith, h))
  past (suc (suc t)) h = refl

module _ (ws : List ℕ) (len : ℕ) (free : Bool) (q : Queue) (left t : ℕ) (m : Next) (ws₁ : List ℕ) (q₁ : Queue)
    (so_far : Turn ws ws₁ len free q q₁ left t m) where
  -- The turn of task t, told of what the turns before left.
  at_first : (f : Option Found) (ws' : List ℕ) (q' : Queue) → handed f ws' q' ≡ sought left ws₁ (branch ws₁ len left free q₁ t) q₁
      → handed f ws' q' ≡ sought left ws (branch ws len left free q t) q
  at_first f ws' q' e =
      e
      ∙ ap (λ (l : List ℕ). sought left l (branch l len left free q₁ t) q₁) so_far.memory
      ∙ ap (λ (p : Queue). sought left ws (branch ws len left free p t) p) so_far.queue

  pub turn_found : (f : Option Found) (ws' : List ℕ) (q' : Queue) → t < 2 → handed f ws' q' ≡ sought left ws₁ (branch ws₁ len left free q₁ t) q₁
      → is_some f ≡ true → handed f ws' q' ≡ sought left ws m q
  turn_found f ws' q' low e h =
      first_found ws len free q left t f ws' q' low (at_first f ws' q' e) h ∙ ap (λ (x : Next). sought left ws x q) (sym so_far.found)

  pub turn_on : (f : Option Found) (ws' : List ℕ) (q' : Queue) → t < 2 → handed f ws' q' ≡ sought left ws₁ (branch ws₁ len left free q₁ t) q₁
      → is_some f ≡ false → Turn ws ws' len free q q' left (t + 1) m
  turn_on f ws' q' low e h =
      let n = not_found ws len free q left f ws' q' (branch ws len left free q t) (at_first f ws' q' e) h in
      let next : suc t ≡ t + 1 = omega arith in
      record {
        low = omega (arith, low);
        memory = n.memory;
        queue = n.queue;
        found = so_far.found ∙ skipped ws len free q left t low n.none ∙ ap (rest ws len free q left) next;
      }

  pub turns-over : 2 ≤ t → handed None ws₁ q₁ ≡ sought left ws m q
  turns-over h =
      none_here left ws₁ q₁
      ∙ ap (λ (l : List ℕ). sought left l no_more q₁) so_far.memory
      ∙ ap (sought left ws no_more) so_far.queue
      ∙ ap (λ (x : Next). sought left ws x q) (sym (so_far.found ∙ past ws len free q left t h))
