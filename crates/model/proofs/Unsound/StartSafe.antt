-- A start leaves everything as sound as it was: its tag limit leaves room for the changes that the new call owes.
use mathlib.Core.{Bool.{Bool, false, true}, List.List, Logic.{◌≢◌, ◌⊎◌, inl, inr}}
use mathlib.Core.Path.{◌∙◌, ◌≡◌, ap, refl, subst, sym}
use Prim.Native.Nat.{◌+◌, ◌<◌, ◌≤◌, ℕ}
use native.Mathlib.Omega.{arith}
use lib.{ListN.{get_or, set}, Seq.{get_or-set_other, get_or-set_same}}
use borrow.Author.Tests.{ltb-false}
use Rattle.word.specs.Anchor.{anchor_of}
use Rattle.model.specs.{Refusals.late, Tables.with_call, declared.{Call.Call, Record.Record}}
use Rattle.model.specs.Tables.{Queue, Tables, asking, is_pooled, record_at, started, tables_of, task_at, unused}
use Rattle.model.proofs.{Tests.Truth.{decide_eq, not_both}, Machine.{Laws.{upd_other, upd_same}, Machine.upd}}
use Rattle.model.proofs.{Invariant.{Fields.Extra, Tags.{cost, share, weight}}, Places.Owned.push_pop}
use Rattle.model.proofs.{Bridge.{Accepted.Lies, Facts.{AnchorFine, RecordFine, control_fine}}, Unsound.Safe.Safe}
use Rattle.model.proofs.Bridge.{Operations.{put_back, task_of}, View.{place_of, rec_of, state_of, view}}
use Rattle.model.proofs.Tags.{AnchorTag.start-bound, HeadTag.head-start, Sum.total}
use Rattle.model.proofs.Machine.Machine as M

zero_anchor : (slots : ℕ) → AnchorFine slots (anchor_of 0)
zero_anchor slots = record { status = omega arith; left = omega arith; right = omega arith; null = λ e. refl; full = λ e. refl; single = λ e. refl }

pub started_fine : (pooled : Bool) (slots kind side x y : ℕ) → kind ≤ 1 → side ≤ 1 → x ≤ slots → RecordFine pooled slots (started kind side x y)
started_fine pooled slots kind side x y hk hs hx = record {
  place = omega arith;
  named = λ e. omega arith;
  kind = hk;
  side = hs;
  finishing = omega arith;
  last = λ e. absurd (omega arith);
  gives = λ e. absurd (omega arith);
  draws = λ e g. absurd (omega arith);
  own = hx;
  neighbour = omega arith;
  spare = refl;
  link = omega arith;
  seen = zero_anchor slots;
}

pub asking_fine : (pooled : Bool) (slots side y : ℕ) → pooled ≡ true → side ≤ 1 → RecordFine pooled slots (asking side y)
asking_fine pooled slots side y p hs = record {
  place = omega arith;
  named = λ e. absurd (not_both p e);
  kind = omega arith;
  side = hs;
  finishing = omega arith;
  last = λ e. absurd (omega arith);
  gives = λ e. absurd (omega arith);
  draws = λ e g. refl;
  own = omega arith;
  neighbour = omega arith;
  spare = refl;
  link = omega arith;
  seen = zero_anchor slots;
}

-- A record that a start may write: sound, with a share of 1 at the most.
pub record Begins (pooled : Bool) (slots : ℕ) (new : Call) : Type 0 where
  pub fine : RecordFine pooled slots new
  pub extra : Extra (rec_of new).place (rec_of new)
  pub share : share (rec_of new) ≤ 1

pub push_begins : (pooled : Bool) (slots side x y : ℕ) → side ≤ 1 → 1 ≤ x → x ≤ slots → Begins pooled slots (started 0 side x y)
unfolding rec_of
push_begins pooled slots side x y hs some low = record {
  fine = started_fine pooled slots 0 side x y (omega arith) hs low;
  extra = record { kept = (λ e. absurd (not_both e refl), λ e z. omega arith, λ e. absurd (push_pop e)); near = λ b. absurd (not_both b refl) };
  share = omega arith;
}

pub pop_begins : (pooled : Bool) (slots side : ℕ) → side ≤ 1 → Begins pooled slots (started 1 side 0 0)
unfolding rec_of
pop_begins pooled slots side hs = record {
  fine = started_fine pooled slots 1 side 0 0 (omega arith) hs (omega arith);
  extra = record { kept = (λ e. absurd (not_both e refl), λ e. absurd (push_pop (sym e)), λ e. refl); near = λ b. absurd (not_both b refl) };
  share = omega arith;
}

pub push_pooled_begins : (pooled : Bool) (slots side y : ℕ) → pooled ≡ true → side ≤ 1 → Begins pooled slots (asking side y)
unfolding rec_of
push_pooled_begins pooled slots side y p hs = record {
  fine = asking_fine pooled slots side y p hs;
  extra = record { kept = refl; near = λ b. absurd (not_both b refl) };
  share = omega arith;
}

-- Anchor's tag has room for the changes that the new call will owe.
abbrev pub Room : Queue → ℕ → Call → Type 0
Room q t new = weight (view q.tables) + total (λ u. cost (upd (state_of q).task t (rec_of new) u)) q.tables.control.tasks ≤ 4294967295

-- It has at a tag up to 4,294,967,262, whatever the tasks owe.
pub early-room : (q : Queue) → Safe q → (t : ℕ) → t < q.tables.control.tasks → (new : Call) → late q.tables.control ≡ false → Room q t new
unfolding view
early-room q f t known new early =
    let c = q.tables.control in
    let low = ltb-false _ (anchor_of c.anchor).tag early in
    start-bound (view q.tables) (state_of q).task c.tasks t known (view q.tables) (rec_of new) 4294967295 refl
    (omega (arith, (control_fine c f.control).tasks))

module _ (q : Queue) (f : Safe q) (t : ℕ) (z : Lies q t) (free : (record_at q t).place ≡ 0) (labels marks : List ℕ) (new : Call)
    (h : Begins (is_pooled q.tables.control) q.tables.control.slots new) (room : Room q t new) where
  abbrev G : Tables
  G = q.tables

  abbrev q' : Queue
  q' = record {
    tables = tables_of G.control G.lefts G.rights labels marks G.next;
    records = set q.records t (with_call (task_at q t) new);
  }

  tasks_are : (λ (u : ℕ). (state_of q').task u) ≡ upd (state_of q).task t (rec_of new)
  unfolding state_of
  tasks_are = put_back q t z (with_call (task_at q t) new)

  fine' : (u : ℕ) → u < G.control.tasks → (record_at q' u).place ≢ 0 → RecordFine (is_pooled G.control) G.control.slots (record_at q' u)
  fine' u lu = go (decide_eq u t)
    where
      go : (u ≡ t) ⊎ (u ≢ t) → (record_at q' u).place ≢ 0 → RecordFine (is_pooled G.control) G.control.slots (record_at q' u)
      go (inl e) = subst (λ (v : Call). v.place ≢ 0 → RecordFine (is_pooled G.control) G.control.slots v)
          (sym (ap (λ (v : ℕ). (get_or (set q.records t (with_call (task_at q t) new)) v unused).call) e
          ∙ ap (λ (x : Record). x.call)
          (get_or-set_same q.records t (with_call (task_at q t) new) unused (omega (arith, z.length, z.known))))) (λ b. h.fine)
      go (inr e) = subst (λ (v : Record). v.call.place ≢ 0 → RecordFine (is_pooled G.control) G.control.slots v.call)
          (sym (get_or-set_other q.records t u (with_call (task_at q t) new) unused e)) (f.fine u lu)

  extra' : (u : ℕ) → Extra ((state_of q').task u).place ((state_of q').task u)
  unfolding rec_of
  extra' u = subst (λ (v : M.Rec). Extra v.place v) (sym (ap (λ (f : ℕ → M.Rec). f u) tasks_are)) (go (decide_eq u t))
    where
      go : (u ≡ t) ⊎ (u ≢ t) → Extra (upd (state_of q).task t (rec_of new) u).place (upd (state_of q).task t (rec_of new) u)
      go (inl e) = subst (λ (v : M.Rec). Extra v.place v)
          (sym (ap (λ (v : ℕ). upd (state_of q).task t (rec_of new) v) e ∙ upd_same (state_of q).task t (rec_of new))) h.extra
      go (inr e) = subst (λ (v : M.Rec). Extra v.place v) (sym (upd_other (state_of q).task t (rec_of new) u e)) (f.extra u)

  bound' : weight (view q'.tables) + total (λ u. cost ((state_of q').task u)) G.control.tasks ≤ 4294967295
  unfolding view
  bound' = subst (λ (k : ℕ → M.Rec). weight (view q'.tables) + total (λ u. cost (k u)) G.control.tasks ≤ 4294967295) (sym tasks_are) room

  head' : (view G).head.tag + total (λ u. share ((state_of q').task u)) G.control.tasks ≤ (view G).anchor.tag + G.control.tasks
  unfolding rec_of
  head' = subst (λ (k : ℕ → M.Rec). (view G).head.tag + total (λ u. share (k u))
      G.control.tasks ≤ (view G).anchor.tag + G.control.tasks) (sym tasks_are)
      (head-start (state_of q).task G.control.tasks t z.known (rec_of new)
      (ap (λ (x : M.Rec). x.place) (task_of q t z.known) ∙ ap place_of free) h.share (view G).head.tag (view G).anchor.tag f.head)

  pub start_safe : Safe q'
  unfolding view
  start_safe = record {
    control = f.control;
    fine = fine';
    extra = extra';
    tags = record { upper = f.tags.upper; room = f.tags.room };
    bound = bound';
    head = head';
  }
