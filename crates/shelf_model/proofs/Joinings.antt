-- A joining is turns of its third, those that push the labels: so whatever holds after turns holds with joinings among them.
-- A queue is filled only while it is idle, so a stretch with joinings in it, up to an answer, is one of turns.
use mathlib.Core.{Bool.{Bool, ◌&&◌, cond, false, not, true}, List.{List, [], ◌∷◌, ◌++◌, append_assoc, append-nil, map}}
use mathlib.Core.{Logic.{◌≢◌, ◌⊎◌, inl, inr}, Path.{◌≡◌, ◌∙◌, ap, ap₂, refl, subst, sym}}
use Prim.Native.Nat.{ℕ, ◌≤◌}
use lib.Dec.{eqb}
use borrow.Author.Tests.{eq-eqb, eqb-true, ne_eqb}
use Rattle.model.specs.{Tables.{Queue, is_pooled}, Calls.act, History.{Event, Request, final, run}}
use Rattle.model.specs.Progress.{Busy, steps, stretch_limit}
use Rattle.model.proofs.{Laws.Sizes.Sizes, Tests.Truth.{and-true, by_test, decide_eq, not_both, split}}
use Rattle.join_model.specs.Join.{join, join_refusal, lanes, pushes}
use Rattle.shelf_model.specs.Changeovers.{Past, Turn, World, after, asks, breaks, continues, does, event_of}
use Rattle.shelf_model.specs.{Changeovers.{events_of, station, turned, unbroken, with_event}, Promises.Kept}
use Rattle.shelf_model.specs.Joinings.{Deed, JoinsKept, after_all, after_one, continuous, events_in, goes_on, joins}
use Rattle.shelf_model.specs.Joinings.{joined_in, replaces, turns, with_deed}
use Rattle.shelf_model.proofs.{Changeovers.makings, Ongoing.{deed_steps, filled-idle, progressed, turn_busy}}
use Rattle.shelf_model.proofs.Ongoing.{SomeBusy, Stepless, deed_less, deed_made, deed_more, deed_sizes}
use Rattle.shelf_model.proofs.Promises.{promises}

-- ---- queue k is asked for a list, and nothing else happens
module _ (k : ℕ) where
  abbrev turn : Request → Turn
  turn o = record { queue = k; action = asks o }

  record AfterRequests (w : World) (os : List Request) (v : World) : Type 0 where
    queue : v.queues k ≡ final (w.queues k) os
    past : v.pasts k ≡ goes_on (w.pasts k) (w.queues k) os
    others : (n : ℕ) → n ≢ k → (v.pasts n ≡ w.pasts n) × (v.queues n ≡ w.queues n)
    shelves : v.shelves ≡ w.shelves
    stored : (n : ℕ) → v.stored n ≡ w.stored n

  module _ (w : World) (o : Request) where
    own_queue : (turned w (turn o)).queues k ≡ (act (w.queues k) o.task o.op).queue
    unfolding turned does
    own_queue = rw (eq-eqb k k refl)

    own_past : (turned w (turn o)).pasts k ≡ continues (w.pasts k) (w.queues k) o
    unfolding turned does
    own_past = rw (eq-eqb k k refl)

  one_more : (p : Past) (q : Queue) (o : Request) (os : List Request)
      → goes_on (continues p q o) (act q o.task o.op).queue os ≡ goes_on p q (o ∷ os)
  unfolding run
  one_more p q o os = λ i. record {
    made = p.made;
    opened = p.opened;
    since = append_assoc p.since (o ∷ []) os i;
    events = append_assoc p.events (event_of q o ∷ []) (run (act q o.task o.op).queue os) i;
  }

  after_requests : (os : List Request) (w : World) → AfterRequests w os (after w (map turn os))
  unfolding after final run turned does
  after_requests [] w = record {
    queue = refl;
    past = λ i. record {
      made = (w.pasts k).made;
      opened = (w.pasts k).opened;
      since = sym (append-nil (w.pasts k).since) i;
      events = sym (append-nil (w.pasts k).events) i;
    };
    others = λ n h. (refl, refl);
    shelves = refl;
    stored = λ n. refl;
  }
  after_requests (o ∷ os) w =
      let h = after_requests os (turned w (turn o)) in
      record {
        queue = h.queue ∙ ap (λ (q : Queue). final q os) (own_queue w o);
        past = h.past ∙ ap₂ (λ (p : Past) (q : Queue). goes_on p q os) (own_past w o) (own_queue w o) ∙ one_more (w.pasts k) (w.queues k) o os;
        others = λ n z. let m = (makings w n).others (turn o) z in ((h.others n z).0 ∙ m.0, (h.others n z).1 ∙ m.1);
        shelves = h.shelves;
        stored = h.stored;
      }

-- ---- a joining
module _ (w : World) (i j k : ℕ) where
  abbrev a : Queue
  a = w.queues i

  abbrev b : Queue
  b = w.queues j

  abbrev q : Queue
  q = w.queues k

  abbrev os : List Request
  os = pushes 1 (lanes a b)

  abbrev ok : Bool
  ok = eqb (join_refusal a b q) 0

  third-is : (join a b q).third ≡ cond ok (final q os) q
  unfolding join
  third-is = refl

  -- Accepted, it is the pushes.
  module _ (e : ok ≡ true) where
    abbrev v : World
    v = after w (map (turn k) os)

    abbrev h : AfterRequests k w os v
    h = after_requests k os w

    same_queue : (n : ℕ) → (joined_in w i j k).queues n ≡ v.queues n
    unfolding joined_in
    same_queue n = go (decide_eq n k)
      where
        go : (n ≡ k) ⊎ (n ≢ k) → cond (eqb n k) (join a b q).third (w.queues n) ≡ v.queues n
        go (inl z) = rw (eq-eqb n k z) (third-is ∙ ap (λ (x : Bool). cond x (final q os) q) e ∙ sym h.queue ∙ ap v.queues (sym z))
        go (inr z) = rw (ne_eqb n k z) (sym (h.others n z).1)

    same-past : (n : ℕ) → (joined_in w i j k).pasts n ≡ v.pasts n
    unfolding joined_in
    same-past n = go (decide_eq n k)
      where
        go : (n ≡ k) ⊎ (n ≢ k) → cond (eqb n k && ok) (goes_on (w.pasts n) q os) (w.pasts n) ≡ v.pasts n
        go (inl z) = rw (eq-eqb n k z, e) (ap (λ (m : ℕ). goes_on (w.pasts m) q os) z ∙ sym h.past ∙ ap v.pasts (sym z))
        go (inr z) = rw (ne_eqb n k z) (sym (h.others n z).0)

    is-pushes : joined_in w i j k ≡ v
    unfolding joined_in
    is-pushes = λ m. record {
      queues = λ n. same_queue n m;
      pasts = λ n. same-past n m;
      shelves = sym h.shelves m;
      stored = λ n. sym (h.stored n) m;
    }

  -- Refused, it changes nothing.
  module _ (e : ok ≡ false) where
    still_queue : (n : ℕ) → (joined_in w i j k).queues n ≡ w.queues n
    unfolding joined_in
    still_queue n = go (decide_eq n k)
      where
        go : (n ≡ k) ⊎ (n ≢ k) → cond (eqb n k) (join a b q).third (w.queues n) ≡ w.queues n
        go (inl z) = rw (eq-eqb n k z) (third-is ∙ ap (λ (x : Bool). cond x (final q os) q) e ∙ ap w.queues (sym z))
        go (inr z) = rw (ne_eqb n k z)

    still_past : (n : ℕ) → (joined_in w i j k).pasts n ≡ w.pasts n
    unfolding joined_in
    still_past n = go (decide_eq n k)
      where
        go : (n ≡ k) ⊎ (n ≢ k) → cond (eqb n k && ok) (goes_on (w.pasts n) q os) (w.pasts n) ≡ w.pasts n
        go (inl z) = rw (eq-eqb n k z, e)
        go (inr z) = rw (ne_eqb n k z)

    is-nothing : joined_in w i j k ≡ w
    unfolding joined_in
    is-nothing = λ m. record { queues = λ n. still_queue n m; pasts = λ n. still_past n m; shelves = w.shelves; stored = w.stored }

  joined-as_turns : (l : List Turn) × (joined_in w i j k ≡ after w l)
  unfolding after
  joined-as_turns = split ok (λ e. (map (turn k) os, is-pushes e)) (λ e. ([], is-nothing e))

-- ---- lists
after_more : (l m : List Turn) (w : World) → after w (l ++ m) ≡ after (after w l) m
unfolding after
after_more [] m w = refl
after_more (t ∷ l) m w = after_more l m (turned w t)

all-turns : (l : List Deed) (w : World) → (m : List Turn) × (after_all w l ≡ after w m)
unfolding after_all after
all-turns [] w = ([], refl)
all-turns (turns t ∷ l) w = let h = all-turns l (turned w t) in (t ∷ h.0, h.1)
all-turns (joins i j k ∷ l) w =
    let a = joined-as_turns w i j k in
    let h = all-turns l (joined_in w i j k) in
    (a.0 ++ h.0, h.1 ∙ ap (λ (v : World). after v h.0) a.1 ∙ sym (after_more a.0 h.0 w))

-- ---- a stretch of queue i that no joining fills is one of turns
record Stretch (i : ℕ) (w : World) (es : List Event) : Type 0 where
  list : List Turn
  whole : unbroken i w list ≡ true
  same : events_of i w list ≡ es

-- Turns of another queue before a stretch.
module _ (i k : ℕ) (other : eqb i k ≡ false) where
  before-whole : (l : List Request) (m : List Turn) (w : World) → unbroken i (after w (map (turn k) l)) m ≡ true
      → unbroken i w (map (turn k) l ++ m) ≡ true
  unfolding unbroken after
  before-whole [] m w u = u
  before-whole (o ∷ rest) m w u = rw other (before-whole rest m (turned w (turn k o)) u)

  before_same : (l : List Request) (m : List Turn) (w : World) → events_of i w (map (turn k) l ++ m) ≡ events_of i (after w (map (turn k) l)) m
  unfolding events_of after
  before_same [] m w = refl
  before_same (o ∷ rest) m w = rw other (before_same rest m (turned w (turn k o)))

module _ (i : ℕ) (w : World) (j k third : ℕ) (es : List Event) (s : Stretch i (joined_in w j k third) es) where
  pushed_elsewhere : ok w j k third ≡ true → eqb i third ≡ false → Stretch i w es
  pushed_elsewhere e other =
      let l = os w j k third in
      let z = subst (λ (v : World). Stretch i v es) (is-pushes w j k third e) s in
      record {
        list = map (turn third) l ++ z.list;
        whole = before-whole i third other l z.list w z.whole;
        same = before_same i third other l z.list w ∙ z.same;
      }

  across : eqb i third && ok w j k third ≡ false → Stretch i w es
  across f = split (ok w j k third)
      (λ e. pushed_elsewhere e (split (eqb i third) (λ z. absurd (not_both refl (rw (z, e) at f))) (λ z. z)))
      (λ e. subst (λ (v : World). Stretch i v es) (is-nothing w j k third e) s)

-- With a busy task queue i is not filled, and stays as it is.
module _ (i : ℕ) (w : World) (j k third : ℕ) (t : ℕ) (b : Busy (w.queues i) t) where
  not_filled : eqb i third && ok w j k third ≡ false
  not_filled = split (eqb i third && ok w j k third) (λ e. absurd (filled e)) (λ e. e)
    where
      filled : eqb i third && ok w j k third ≡ true → ⊥
      filled e =
          let z = and-true (eqb i third) (ok w j k third) e in
          filled-idle (w.queues j) (w.queues k) (w.queues third) z.1 t (subst (λ (n : ℕ). Busy (w.queues n) t) (eqb-true _ _ z.0) b)

  still_busy : Busy ((joined_in w j k third).queues i) t
  unfolding joined_in
  still_busy = by_test (λ (x : Queue). Busy x t) (eqb i third)
      (λ e.
      let z : ok w j k third ≡ false = rw e at not_filled in
      subst (λ (x : Queue). Busy x t) (ap w.queues (eqb-true _ _ e) ∙ sym (third-is w j k third ∙ rw z)) b)
      (λ _. b)

-- A stretch that begins with a busy task, and in which nothing takes effect or answers.
stretch_of : (i : ℕ) (l : List Deed) (w : World) (n : ℕ) → Busy (w.queues i) n → continuous i w l ≡ true → progressed (events_in i w l) ≡ false
    → Stretch i w (events_in i w l)
unfolding continuous events_in unbroken events_of
stretch_of i [] w n b u f = record { list = []; whole = refl; same = refl }
stretch_of i (turns t ∷ l) w n b u f =
    let a = and-true (not (eqb i t.queue && breaks (station w i) t.action)) (continuous i (turned w t) l) u in
    let es = events_in i (turned w t) l in
    let s = stretch_of i l (turned w t) n (turn_busy w i t a.0 n es b f) a.1 (deed_less w i (turns t) es f) in
    record {
      list = t ∷ s.list;
      whole = ap₂ ◌&&◌ a.0 s.whole;
      same = ap (λ (es : List Event). cond (eqb i t.queue) (with_event (w.queues i) t.action es) es) s.same;
    }
stretch_of i (joins j k third ∷ l) w n b u f =
    let v = joined_in w j k third in
    across i w j k third (events_in i v l) (stretch_of i l v n (still_busy i w j k third n b) u f) (not_filled i w j k third n b)

-- ---- any stretch
abbrev limit_of : Queue → ℕ
limit_of q = let c = q.tables.control in stretch_limit (is_pooled c) c.tasks

module _ (i : ℕ) where
  by_turns : (w : World) (es : List Event) → Kept w → (w.pasts i).made ≡ true → Stretch i w es → limit_of (w.queues i) ≤ steps es → progressed es ≡ true
  by_turns w es kept made s enough =
      subst (λ (es : List Event). progressed es ≡ true) s.same
      ((kept.promised i made).progress.stretch s.list s.whole
      (subst (λ (es : List Event). limit_of (w.queues i) ≤ steps es) (sym s.same) enough))

  -- Up to the first accepted step nothing counts; from there on a task is busy until one answers.
  stretches : (l : List Deed) (w : World) → ((m : List Deed) → Kept (after_all w m)) → (w.pasts i).made ≡ true → continuous i w l ≡ true
      → limit_of (w.queues i) ≤ steps (events_in i w l) → progressed (events_in i w l) ≡ true
  unfolding continuous events_in after_all unbroken events_of
  stretches [] w kept made u enough = by_turns w [] (kept []) made (record { list = []; whole = refl; same = refl }) enough
  stretches (d ∷ l) w kept made u enough =
      let a = and-true (not (replaces i w d)) (continuous i (after_one w d) l) u in
      go (deed_steps w i d) (λ less. stretches l (after_one w d) (λ m. kept (d ∷ m)) (deed_made w i d a.0 ∙ made) a.1
      (subst (λ (s : Sizes). stretch_limit (eqb s.pooled 1) s.tasks ≤ steps (events_in i (after_one w d) l)) (sym (deed_sizes w i d a.0)) less))
    where
      es : List Event
      es = events_in i (after_one w d) l

      go : SomeBusy w i ⊎ Stepless w i d → (limit_of (w.queues i) ≤ steps es → progressed es ≡ true) → progressed (with_deed i w d es) ≡ true
      go (inl b) more = split (progressed (with_deed i w d es)) (λ e. e)
          (λ f. by_turns w (with_deed i w d es) (kept []) made (stretch_of i (d ∷ l) w b.0 b.1 u f) enough)
      go (inr z) more = deed_more w i d es (more (subst (λ (n : ℕ). limit_of (w.queues i) ≤ n) (z es) enough))

-- ---- lists after lists
all_more : (l m : List Deed) (w : World) → after_all w (l ++ m) ≡ after_all (after_all w l) m
unfolding after_all
all_more [] m w = refl
all_more (d ∷ l) m w = all_more l m (after_one w d)

pub joins-kept : JoinsKept
joins-kept w unfilled none l = record {
  kept = kept l;
  stretch = λ i made m. stretches i m (after_all w l) (λ m. subst Kept (all_more l m w) (kept (l ++ m))) made;
}
  where
    kept : (l : List Deed) → Kept (after_all w l)
    kept l = let h = all-turns l w in subst Kept (sym h.1) (promises w unfilled none h.0)
