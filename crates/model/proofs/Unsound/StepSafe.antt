-- A step leaves everything as sound as it was.
use mathlib.Core.{Bool.{Bool, cond, true}, Logic.{◌≢◌, ◌⊎◌, inl, inr}, Path.{◌∙◌, ◌≡◌, ap, refl, subst, subst₂, sym}}
use Prim.Native.Nat.{◌+◌, ◌<◌, ◌≤◌, ℕ}
use native.Mathlib.Omega.{arith}
use lib.{Dec.eqb, ListN.{get_or, set}, Seq.{get_or-set_other, get_or-set_same}}
use borrow.Author.Tests.{le-leb}
use Rattle.model.specs.{Calls.finish, History.Ledger, Refusals.leaves_sound, Places.{set_link, set_next, take_slot}}
use Rattle.model.specs.Places.{Move, Touch, apply, clear_mark, word_found, move, nothing, set_anchor, set_head}
use Rattle.model.specs.{Route.{counted, goes}, Sound.{control_sound, control_tests}}
use Rattle.model.specs.Tables.{at_place, Queue, Tables, idle, is_pooled, record_at, task_at, unused}
use Rattle.model.specs.declared.{Call.Call, Record.Record}
use Rattle.model.proofs.{Tests.{Rules.{◌and◌, passes, tests}, Truth.decide_eq}, Ledger.Matched.Matched}
use Rattle.model.proofs.{Machine.{Book.BookCall, Machine.upd, Laws.{upd_other, upd_same}}, Tags.LinkTag.Tagged}
use Rattle.model.proofs.Invariant.{Fields.Extra, Owners.Owner, Tasks.Task, Tags.{Tags, cost, share, weight}}
use Rattle.model.proofs.Bridge.{Accepted.Lies, Facts.RecordFine, Decoded.{next, seen_move}}
use Rattle.model.proofs.Bridge.Operations.{not_idle, state_is, step_seen_keeps, step-task, stepped, task_of}
use Rattle.model.proofs.Bridge.Stores.{touched_pooled, touched_slots, touched_tasks}
use Rattle.model.proofs.{Bridge.View.{kind_of, place_of, rec_of, state_of, view}, Unsound.Suits.{Suits, suits}}
use Rattle.model.proofs.Tags.{AnchorTag.{WeightKept, step-bound}, HeadTag.{HeadBalanced, head_step}, Sum.total}
use Rattle.model.proofs.Unsound.{FieldsKept.{Extras, act_extra}, Moves.{Keeps, goes_fine, move-keeps}, Safe.Safe}
use Rattle.model.proofs.Unsound.StepSound.{control-is, head_balanced, h, weight_kept, met-link, met_next, seen}
use Rattle.model.proofs.Unsound.StepSound.{new_sound, own_extra, own_task, stepping, tagged}
use Rattle.model.proofs.Machine.Machine as M

-- No touch changes the way of the queue.
apply-pooled : (s : M.Shared) (w : M.Touch) → (M.apply s w).pooled ≡ s.pooled
apply-pooled s M.none = refl
apply-pooled s (M.put_anchor a) = refl
apply-pooled s (M.put_link d x v) = refl
apply-pooled s (M.clear x) = refl
apply-pooled s (M.take w x l) = refl
apply-pooled s (M.put_next x v) = refl
apply-pooled s (M.put_head w) = refl

control_touched : (t : Touch) (q : Tables) → leaves_sound q.control.slots t ≡ true → control_sound q.control ≡ true
    → control_sound (apply t q).control ≡ true
unfolding control_sound
control_touched nothing q s c = c
control_touched (set_anchor w) q s c = let z = tests (control_tests q.control) c in
    passes (control_tests (apply (set_anchor w) q).control) (z.0 and z.1.0 and s and z.1.1.1.0 and tt)
control_touched (set_link side x w) q s c = c
control_touched (clear_mark x) q s c = c
control_touched (take_slot w x l) q s c = c
control_touched (set_next x v) q s c = c
control_touched (set_head w) q s c = c

module _ (n : ℕ) (q : Queue) (l : Ledger) (g : Matched n q l) (f : Safe q) (t : ℕ) (z : Lies q t) (busy : (record_at q t).place ≢ 0) where
  abbrev r : Call
  r = record_at q t

  abbrev G : Tables
  G = q.tables

  abbrev m : Move
  m = move G.control r (word_found G r)

  abbrev moved : Record
  moved = record { call = goes m.task (next r m); retries = counted (task_at q t).retries m.failed }

  abbrev q' : Queue
  q' = stepped q g.book g.inv g.links t (stepping n q l g f t z busy)

  fine : RecordFine (is_pooled G.control) G.control.slots r
  fine = h n q l g f t z busy

  extras : Extras (seen_move G r)
  unfolding state_of
  extras = subst Extras (seen n q l g f t z busy)
      (act_extra t (view G) g.inv.owner g.book.queue (g.book.calls t) g.inv.whole (rec_of r) (place_of r.place)
      (not_idle r.place busy fine.place) (own_task n q l g f t z busy) (own_extra n q l g f t z busy))

  pub keeps : Keeps G.control.slots r m.task
  keeps = move-keeps (is_pooled G.control) G.control r (word_found G r) fine (control-is n q l g f t).anchor (met-link n q l g f t z busy)
      (met_next n q l g f t z busy)
      (g.links.head.0, g.links.head.1) (new_sound n q l g f t z busy)

  -- The next place suits the kind and the queue: the invariant holds after the step.
  suit_of : (s : M.Shared) (o : ℕ → Owner) (c : BookCall) → Task (seen_move G r).rec.place s o t (seen_move G r).rec c → next r m ≢ 0 → next r m ≤ 17
      → Suits s.pooled (kind_of m.task.kind) (next r m)
  unfolding rec_of goes
  suit_of s o c y some low =
      let e = le-leb (next r m) 17 low in
      suits s o t (rec_of (at_place m.task (next r m))) c (next r m) some low
      (subst (λ (b : Bool). let x = rec_of (cond b (at_place m.task (next r m)) idle) in Task x.place s o t x c) e y)
      (subst (λ (b : Bool). let x = rec_of (cond b (at_place m.task (next r m)) idle) in Extra x.place x) e extras.extra)

  suit : next r m ≢ 0 → next r m ≤ 17 → Suits (is_pooled G.control) (kind_of m.task.kind) (next r m)
  unfolding view
  suit some low =
      let i = step_seen_keeps q g.book g.inv g.links t (stepping n q l g f t z busy) in
      let Says : M.Rec → Type 0 = λ x. (c : BookCall) → Task x.place (M.apply (view G) (seen_move G r).touch) i.owner t x c
      → Suits (M.apply (view G) (seen_move G r).touch).pooled (kind_of m.task.kind) (next r m) in
      let says : Says (upd (state_of q).task t (seen_move G r).rec t) = subst Says (sym (upd_same (state_of q).task t (seen_move G r).rec))
      (λ c y. suit_of (M.apply (view G) (seen_move G r).touch) i.owner c y some low) in
      subst (λ (b : Bool). Suits b (kind_of m.task.kind) (next r m)) (apply-pooled (view G) (seen_move G r).touch) (says _ (i.tasks t))

  fine' : (u : ℕ) → u < G.control.tasks → (record_at q' u).place ≢ 0 → RecordFine (is_pooled G.control) G.control.slots (record_at q' u)
  unfolding finish
  fine' u lu = go (decide_eq u t)
    where
      go : (u ≡ t) ⊎ (u ≢ t) → (record_at q' u).place ≢ 0 → RecordFine (is_pooled G.control) G.control.slots (record_at q' u)
      go (inl e) = subst (λ (x : Call). x.place ≢ 0 → RecordFine (is_pooled G.control) G.control.slots x)
          (sym (ap (λ (v : ℕ). (get_or (set q.records t moved) v unused).call) e
          ∙ ap (λ (x : Record). x.call) (get_or-set_same q.records t moved unused (omega (arith, z.length, z.known)))))
          (goes_fine (is_pooled G.control) G.control.slots r m.task (next r m) fine keeps suit)
      go (inr e) = subst (λ (x : Record). x.call.place ≢ 0 → RecordFine (is_pooled G.control) G.control.slots x.call)
          (sym (get_or-set_other q.records t u moved unused e)) (f.fine u lu)

  extra' : (u : ℕ) → Extra ((state_of q').task u).place ((state_of q').task u)
  extra' u = subst (λ (x : M.Rec). Extra x.place x) (sym (step-task q g.book g.inv g.links t (stepping n q l g f t z busy) u))
      (go (decide_eq u t))
    where
      go : (u ≡ t) ⊎ (u ≢ t) → Extra (upd (state_of q).task t (seen_move G r).rec u).place (upd (state_of q).task t (seen_move G r).rec u)
      go (inl e) = subst (λ (x : M.Rec). Extra x.place x)
          (sym (ap (λ (v : ℕ). upd (state_of q).task t (seen_move G r).rec v) e ∙ upd_same (state_of q).task t (seen_move G r).rec)) extras.extra
      go (inr e) = subst (λ (x : M.Rec). Extra x.place x) (sym (upd_other (state_of q).task t (seen_move G r).rec u e)) (f.extra u)

  abbrev Fits : M.State → Type 0
  Fits s = Tags s.shared × (weight s.shared + total (λ u. cost (s.task u)) G.control.tasks ≤ 4294967295)
      × (s.shared.head.tag + total (λ u. share (s.task u)) G.control.tasks ≤ s.shared.anchor.tag + G.control.tasks)

  fits' : Fits (state_of q')
  fits' = subst Fits (sym (state_is q g.book g.inv g.links t (stepping n q l g f t z busy))) (
    (subst (Tagged (view G)) (seen n q l g f t z busy) (tagged n q l g f t z busy)).tagged,
    step-bound (view G) (state_of q).task G.control.tasks t z.known (seen_move G r) 4294967295
        (subst (λ (x : M.Rec). WeightKept (view G) x (seen_move G r)) (sym (task_of q t z.known))
        (subst (WeightKept (view G) (rec_of r)) (seen n q l g f t z busy) (weight_kept n q l g f t z busy))) f.bound,
    head_step (view G) (state_of q).task G.control.tasks t z.known (seen_move G r)
        (subst (λ (x : M.Rec). HeadBalanced (view G) x (seen_move G r)) (sym (task_of q t z.known))
        (subst (HeadBalanced (view G) (rec_of r)) (seen n q l g f t z busy) (head_balanced n q l g f t z busy))) f.head,
  )

  pub step_safe : Safe q'
  unfolding finish state_of
  step_safe =
      record {
        control = control_touched m.touch G (new_sound n q l g f t z busy) f.control;
        fine = λ u lu b. subst₂ (λ p s. RecordFine p s (record_at q' u)) (sym (ap (λ (v : ℕ). eqb v 1) (touched_pooled m.touch G)))
            (sym (touched_slots m.touch G))
            (fine' u (subst (λ s. u < s) (touched_tasks m.touch G) lu) b);
        extra = extra';
        tags = fits'.0;
        bound = subst (λ s. weight (view q'.tables) + total (λ u. cost ((state_of q').task u)) s ≤ 4294967295)
            (sym (touched_tasks m.touch G)) fits'.1;
        head = subst (λ s. (view q'.tables).head.tag + total (λ u. share ((state_of q').task u)) s ≤ (view q'.tables).anchor.tag + s)
            (sym (touched_tasks m.touch G)) fits'.2;
      }
