-- After any openings, starts, steps, savings and returns a queue is, within its lengths, what its past leaves.
use mathlib.Core.{Bool.{Bool, true, cond}, List.{List, [], ◌∷◌, ◌++◌}, Logic.{◌≢◌, ◌⊎◌, inl, inr}}
use mathlib.Core.Path.{◌≡◌, ◌∙◌, ap, refl, subst, sym}
use Prim.Native.Nat.{ℕ, ◌≤◌}
use lib.Dec.{eqb}
use borrow.Author.Tests.{eq-eqb, eqb-true, ne_eqb}
use Rattle.model.specs.Outcomes.{Opened}
use Rattle.model.specs.{Tables.Queue, Sound.control_sound, Refusals.open_refusal}
use Rattle.model.specs.{Calls.{Done, act, open_as}, History.{Event, Request, final, run}}
use Rattle.model.proofs.Tests.Truth.{decide_eq, not_both, split}
use Rattle.shelf_model.specs.{Cut.cut, Shelves.with_shelf, Changeovers.{event_of, station, turned}}
use Rattle.shelf_model.specs.Shelves.{Shelves, copied, return_refusal, returned, save_refusal, saved, shelf_at}
use Rattle.shelf_model.specs.Changeovers.{Action, asks, opens, returns, saves, Changeovers, Explained, Holds}
use Rattle.shelf_model.specs.Changeovers.{Makings, Past, Station, Turn, World, after, begins, continues, does}
use Rattle.shelf_model.proofs.{CutCalls.act-cut, Copied.{cut-copied, shelf_other, shelf_same}}
use Rattle.shelf_model.proofs.Accepted.{Fits, return_filled, return_fits, save_fits, save_sound}

-- One request more.
run_more : (os : List Request) (q : Queue) (o : Request) → run q (os ++ (o ∷ [])) ≡ run q os ++ (event_of (final q os) o ∷ [])
unfolding run final
run_more [] q o = refl
run_more (p ∷ os) q o = ap (λ (es : List Event). event_of q p ∷ es) (run_more os (act q p.task p.op).queue o)

final-more : (os : List Request) (q : Queue) (o : Request) → final q (os ++ (o ∷ [])) ≡ (act (final q os) o.task o.op).queue
unfolding final
final-more [] q o = refl
final-more (p ∷ os) q o = final-more os (act q p.task p.op).queue o

-- Queues that are alike within their lengths show the same, and stay alike.
act_alike : (q p : Queue) (o : Request) → cut q ≡ cut p → cut (act q o.task o.op).queue ≡ cut (act p o.task o.op).queue
act_alike q p o e =
    sym (ap (λ (d : Done). d.queue) (act-cut q o.task o.op))
    ∙ ap (λ (x : Queue). (act x o.task o.op).queue) e
    ∙ ap (λ (d : Done). d.queue) (act-cut p o.task o.op)

event-cut : (q : Queue) (o : Request) → event_of (cut q) o ≡ event_of q o
event-cut q o = ap told (act-cut q o.task o.op)
  where
    told : Done → Event
    told d = record {
      task = o.task;
      op = o.op;
      outcome = d.outcome;
      before = q.tables.control.anchor;
      after = d.queue.tables.control.anchor;
    }

event_alike : (q p : Queue) (o : Request) → cut q ≡ cut p → event_of q o ≡ event_of p o
event_alike q p o e = sym (event-cut q o) ∙ ap (λ (x : Queue). event_of x o) e ∙ event-cut p o

opening-told : (pooled : Bool) (q : Queue) (tasks slots tag : ℕ) → (open_as pooled q tasks slots tag).outcome ≡ Opened
    → Explained (begins (open_as pooled q tasks slots tag).queue) (open_as pooled q tasks slots tag).queue
unfolding run final
opening-told pooled q tasks slots tag e = record {
  begun = record { pooled = pooled; before = q; tasks = tasks; slots = slots; tag = tag; accepted = e; opened = refl; events = refl };
  leaves = refl;
}

request-told : (p : Past) (q : Queue) (o : Request) → Explained p q → Explained (continues p q o) (act q o.task o.op).queue
request-told p q o h =
    let t = h.begun in
    let f = final p.opened p.since in
    record {
      begun = record {
        pooled = t.pooled;
        before = t.before;
        tasks = t.tasks;
        slots = t.slots;
        tag = t.tag;
        accepted = t.accepted;
        opened = t.opened;
        events =
            ap (λ (es : List Event). es ++ (event_of q o ∷ [])) t.events
            ∙ ap (λ (e : Event). run p.opened p.since ++ (e ∷ [])) (event_alike q f o h.leaves)
            ∙ sym (run_more p.since p.opened o);
      };
      leaves = act_alike q f o h.leaves ∙ ap cut (sym (final-more p.since p.opened o));
    }

-- What holds of a queue and the shelves.
record Holding (s : Station) : Type 0 where
  now : s.past.made ≡ true → Explained s.past s.queue
  shelved : (n : ℕ) → n ≤ 7 → (shelf_at s.shelves n).tables.control.tasks ≢ 0 → (s.stored n).made ≡ true
      → Explained (s.stored n) (shelf_at s.shelves n)
  sound : (n : ℕ) → n ≤ 7 → (shelf_at s.shelves n).tables.control.tasks ≢ 0 → control_sound (shelf_at s.shelves n).tables.control ≡ true

-- A saving.
module _ (w : Station) (k : Holding w) (n : ℕ) (e : save_refusal w.queue w.shelves n ≡ 0) where
  abbrev q : Queue
  q = w.queue

  abbrev s : Shelves
  s = w.shelves

  abbrev new : Queue
  new = copied q (shelf_at s n)

  passed : Fits q.tables.control q s n
  passed = save_fits q s n e

  new_told : w.past.made ≡ true → Explained w.past new
  new_told m = record { begun = (k.now m).begun; leaves = cut-copied q (shelf_at s n) passed.here ∙ (k.now m).leaves }

  new_sound : control_sound new.tables.control ≡ true
  unfolding copied
  new_sound = save_sound q s n e

  same : shelf_at (with_shelf s n new) n ≡ new
  same = shelf_same q s n passed.low passed.here passed.there passed.eight

  other : (m : ℕ) → m ≤ 7 → m ≢ n → shelf_at (with_shelf s n new) m ≡ shelf_at s m
  other = shelf_other q s n passed.low passed.here passed.there passed.eight

  put-told : (m : ℕ) → m ≤ 7 → (shelf_at (with_shelf s n new) m).tables.control.tasks ≢ 0 → (cond (eqb m n) w.past (w.stored m)).made ≡ true
      → Explained (cond (eqb m n) w.past (w.stored m)) (shelf_at (with_shelf s n new) m)
  put-told m g h = go (decide_eq m n)
    where
      go : (m ≡ n) ⊎ (m ≢ n) → (cond (eqb m n) w.past (w.stored m)).made ≡ true
          → Explained (cond (eqb m n) w.past (w.stored m)) (shelf_at (with_shelf s n new) m)
      go (inl z) = rw (eq-eqb m n z)
          (λ made. subst (λ (x : Queue). Explained w.past x) (sym (ap (shelf_at (with_shelf s n new)) z ∙ same)) (new_told made))
      go (inr z) =
          let filled = subst (λ (x : Queue). x.tables.control.tasks ≢ 0) (other m g z) h in
          rw (ne_eqb m n z) (λ made. subst (λ (x : Queue). Explained (w.stored m) x) (sym (other m g z)) (k.shelved m g filled made))

  put-sound : (m : ℕ) → m ≤ 7 → (shelf_at (with_shelf s n new) m).tables.control.tasks ≢ 0
      → control_sound (shelf_at (with_shelf s n new) m).tables.control ≡ true
  put-sound m g h = go (decide_eq m n)
    where
      go : (m ≡ n) ⊎ (m ≢ n) → control_sound (shelf_at (with_shelf s n new) m).tables.control ≡ true
      go (inl z) = subst (λ (x : Queue). control_sound x.tables.control ≡ true) (sym (ap (shelf_at (with_shelf s n new)) z ∙ same)) new_sound
      go (inr z) =
          let filled = subst (λ (x : Queue). x.tables.control.tasks ≢ 0) (other m g z) h in
          subst (λ (x : Queue). control_sound x.tables.control ≡ true) (sym (other m g z)) (k.sound m g filled)

-- A return.
module _ (w : Station) (k : Holding w) (n : ℕ) (e : return_refusal w.queue w.shelves n ≡ 0) where
  back-told : (w.stored n).made ≡ true → Explained (w.stored n) (copied (shelf_at w.shelves n) w.queue)
  back-told made =
      let f = return_fits w.queue w.shelves n e in
      let t = k.shelved n f.low (return_filled w.queue w.shelves n e) made in
      record { begun = t.begun; leaves = cut-copied (shelf_at w.shelves n) w.queue f.there ∙ t.leaves }

does-kept : (a : Action) (w : Station) → Holding w → Holding (does w a)
unfolding does open_as saved returned
does-kept (opens pooled tasks slots tag) w k = split (eqb (open_refusal pooled w.queue tasks slots) 0)
    (λ z. record {
      now =
          let t = opening-told pooled w.queue tasks slots tag (rw z) in
          rw z (λ made. (rw z at t));
      shelved = k.shelved;
      sound = k.sound;
    })
    (λ z. record { now = rw z k.now; shelved = k.shelved; sound = k.sound })
does-kept (asks o) w k =
    record { now = λ made. request-told w.past w.queue o (k.now made); shelved = k.shelved; sound = k.sound }
does-kept (saves n) w k = split (eqb (save_refusal w.queue w.shelves n) 0)
    (λ z. record {
      now = k.now;
      shelved = rw z (put-told w k n (eqb-true _ _ z));
      sound = rw z (put-sound w k n (eqb-true _ _ z));
    })
    (λ z. record { now = k.now; shelved = rw z k.shelved; sound = rw z k.sound })
does-kept (returns n) w k = split (eqb (return_refusal w.queue w.shelves n) 0)
    (λ z. record { now = rw z (back-told w k n (eqb-true _ _ z)); shelved = k.shelved; sound = k.sound })
    (λ z. record { now = rw z k.now; shelved = k.shelved; sound = k.sound })

-- A turn of one queue leaves the others as they are.
turned-kept : (t : Turn) (w : World) → Holds w → Holds (turned w t)
unfolding turned
turned-kept t w h =
    let k = does-kept t.action (station w t.queue) (record { now = h.now t.queue; shelved = h.shelved; sound = h.sound }) in
    record { now = λ i. go i k (decide_eq i t.queue); shelved = k.shelved; sound = k.sound }
  where
    s : Station
    s = does (station w t.queue) t.action

    go : (i : ℕ) → Holding s → (i ≡ t.queue) ⊎ (i ≢ t.queue)
        → (cond (eqb i t.queue) s.past (w.pasts i)).made ≡ true
        → Explained (cond (eqb i t.queue) s.past (w.pasts i)) (cond (eqb i t.queue) s.queue (w.queues i))
    go i k (inl z) = rw (eq-eqb i t.queue z) k.now
    go i k (inr z) = rw (ne_eqb i t.queue z) (h.now i)

after_kept : (l : List Turn) (w : World) → Holds w → Holds (after w l)
unfolding after
after_kept [] w k = k
after_kept (t ∷ l) w k = after_kept l (turned w t) (turned-kept t w k)

pub changeovers : Changeovers
changeovers w zero none l = after_kept l w (record {
  now = λ i made. absurd (not_both made (none i));
  shelved = λ n g h. absurd (h (zero n));
  sound = λ n g h. absurd (h (zero n));
})

pub makings : Makings
unfolding turned does
makings w i = record {
  opening = λ pooled tasks slots tag e. rw (eq-eqb i i refl, e);
  request = λ o. rw (eq-eqb i i refl);
  saving = λ n e. (rw (eq-eqb i i refl), rw (e, eq-eqb n n refl));
  returning = λ n e. rw (eq-eqb i i refl, e);
  others = λ t z. (rw (ne_eqb i t.queue z), rw (ne_eqb i t.queue z));
}
