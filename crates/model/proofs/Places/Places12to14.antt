-- Places 12 to 14: a push draws its slot from the stack. *No slot* is an effect without a change of the queue.
use mathlib.Core.{Bool.true, List.List, Logic.{inl, inr}, Path.{◌≡◌, ap, refl, subst, sym}}
use Prim.Native.Nat.{◌<◌, suc, ℕ}
use native.Mathlib.Omega.{arith}
use Rattle.model.specs.declared.Entry.{Entry}
use Rattle.model.proofs.{Tests.Truth.{by_test, not_both}, Invariant.Owners.{Owner, Pool, Spare, Intact, held}}
use Rattle.model.proofs.Machine.{Book.{BookCall, told}, Laws.{exhausted_false, same_link_true, upd_same}}
use Rattle.model.proofs.Machine.Machine.{Draw, Link, Rec, Shared, at1, at12, at13, at14, draw, draws, ends, none}
use Rattle.model.proofs.Machine.Machine.{no_free_slot, owns, push, running, runs, same_link, take, upd, exhausted}
use Rattle.model.proofs.Invariant.Tasks.{Fourteenth, Own, Task, At13}
use Rattle.model.proofs.Places.{Effects.{no-effect, noted-none}, Marking.marked-kept, Stack.{drawn, top-free}}
use Rattle.model.proofs.Places.Owning.{gets_marks, gets_rely, gets_sole, gets_whole}
use Rattle.model.proofs.Places.Shown.{Shown, effective, plain, rely_refl, still}

module _ (t : ℕ) (s : Shared) (h : ℕ → Owner) (q : List Entry) (c : BookCall) (all : Intact s h q) (r : Rec) where
  -- The next is read from the head's slot, or from one that is past.
  reads-next : At13 s.head r.link → Fourteenth s.next s.head r.link (s.next r.link.slot)
  reads-next (inl e) = inl (e, refl)
  reads-next (inr l) = inr l

  -- The stack, where the queue is pooled.
  pub pool : s.pooled ≡ true → Pool s.slots s.next s.head.slot h
  pool e = subst (λ b. Spare b s.slots s.next s.head.slot h) e all.spare

  -- 14: the head moves on to what comes after its slot, with a higher tag; its slot is the push's.
  drawing : {v : Link} → Task (draw at14) s h t r c → r.link ≡ s.head → s.next r.link.slot ≡ v.slot → s.head.tag < v.tag
      → Shown t s h q c (runs (take v r.link.slot r.label) (owns r r.link.slot r.label at1))
  drawing {v} w e n later =
      let x = r.link.slot in
      let k : Pool s.slots s.next x h = subst (λ (v : Link). Pool s.slots s.next v.slot h) (sym e) (pool w.0) in
      let top = top-free k w.2.0 in
      let a = w.1.agrees in
      let own : Own push (upd s.label x r.label) (upd h x (held t)) t x r.label =
      (w.2.0, upd_same h x (held t), upd_same s.label x r.label, gets_sole all t x r.label top.0 v w.1.bare) in
      plain (runs (take v x r.label) (owns r x r.label at1)) (upd h x (held t)) (no-effect s.anchor s.anchor running refl refl refl)
      (gets_whole all t x r.label top.0 v w.2.0 top.1
      (subst (λ b. Spare b s.slots s.next v.slot (upd h x (held t))) (sym w.0)
      (subst (λ y. Pool s.slots s.next y (upd h x (held t))) n (drawn k t w.2.0))))
      (gets_rely all t x r.label top.0 v (record { pooled = refl; head = inr later })) (
        w.1.unfinished,
        record {
          agrees = record { kind = a.kind; side = a.side; slot = refl; label = a.label };
          none = w.1.none;
          own = subst (λ z. Own z (upd s.label x r.label) (upd h x (held t)) t x r.label) (sym w.1.kind) own;
        },
      )
      (gets_marks all t x r.label top.0 v (owns r x r.label at1) refl w.1.bare)

  pub place12to14 : (p : Draw) → Task (draw p) s h t r c → Shown t s h q c (draws p s r)
  place12to14 at12 w = by_test (Shown t s h q c) (exhausted s.head)
      (λ e. effective (ends none no_free_slot) h (told c no_free_slot) q (noted-none c q s.anchor s.anchor) all (λ u z. rely_refl u)
      (refl, record { once = ap suc w.1.none; agrees = refl }, w.1.bare) (λ _ z. absurd (not_both refl z))
      (marked-kept (ends none no_free_slot) refl (λ x. refl)))
      (λ e. still refl all (w.0, w.1, (exhausted_false s.head e, inl refl)))
  place12to14 at13 w = still refl all (w.0, w.1, (w.2.0, reads-next w.2.1))
  place12to14 at14 w = by_test (Shown t s h q c) (same_link r.link s.head)
      (λ z. let e = same_link_true r.link s.head z in drawing w e (current e w.2.1) (let g = tags e in omega arith))
      (λ z. still refl all (w.0, w.1, tt))
    where
      tags : r.link ≡ s.head → r.link.tag ≡ s.head.tag
      tags e = ap (λ (v : Link). v.tag) e

      -- The next as read is the next.
      current : r.link ≡ s.head → Fourteenth s.next s.head r.link r.near → s.next r.link.slot ≡ r.near
      current e (inl f) = f.1
      current e (inr l) = absurd (omega (arith, tags e))
