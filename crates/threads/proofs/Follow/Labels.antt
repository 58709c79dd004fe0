-- A label that a thread's next instruction touches is of a slot that the thread owns; so no two threads touch one.
use mathlib.Core.{Path.{◌≡◌, refl, ap, sym, subst, ◌∙◌}, Logic.◌≢◌}
use Prim.Native.Nat.{ℕ, ◌<◌}
use lib.Dec.{eqb}
use borrow.Author.Tests.{eqb-true}
use Rattle.model.specs.{declared.{Record.Record, Op.TheVariants.{Push, Pop, PushPooled, Step}}, Tables.{Queue, task_at}}
use Rattle.model.{specs.Places.row, proofs.{Tests.Truth.by_test, Invariant.Owners.{Owner, held}}}
use Rattle.threads_model.specs.{Split.plan, Instructions.label_touched, Crew.{Crew, label_next}}
use Rattle.threads_model.specs.Instructions.{Hand, free, begun, loaded, knows, claims, looks, labels, marks, ends}
use Rattle.threads.specs.Promises.{record_of}
use Rattle.threads.proofs.Follow.{Plans.says, Good.Good, Relation.{Extra, Sim}}
use Rattle.threads.proofs.Follow.Good as own
use Rattle.threads.proofs.Follow.Relation as R

module _ (tasks pooled slots : ℕ) (m : Crew) (q : Queue) (f : Sim tasks pooled slots m q) (g : Good tasks pooled slots q) where
  abbrev h : ℕ → Owner
  h = g.matched.inv.owner

  module _ (t : ℕ) (lt : t < tasks) where
    abbrev r : Record
    r = task_at m.queue t

    -- At 11 it owns the end that it took.
    taking : r ≡ task_at q t → (plan pooled slots r.call).act ≡ 6 → h (plan pooled slots r.call).slot ≡ held t
    taking reads six =
        let n = (says pooled slots r.call).six six in
        subst (λ (x : ℕ). h x ≡ held t) (sym (n.slot ∙ ap (λ (r : Record). row r.call) reads))
        (own.own11 tasks pooled slots q g t lt (ap (λ (r : Record). r.call.place) (sym reads) ∙ n.place))

    owned : (k : Hand) → record_of k r ≡ task_at q t → Extra tasks pooled slots t r q.tables.labels k
        → label_touched pooled slots r k ≢ 0 → h (label_touched pooled slots r k) ≡ held t
    owned free e z some = absurd (some refl)
    owned (begun (Push side slot label)) e z some = absurd (some refl)
    owned (begun (Pop side)) e z some = absurd (some refl)
    owned (begun (PushPooled side label)) e z some = absurd (some refl)
    owned (begun Step) e z some =
        by_test (λ (x : ℕ). x ≢ 0 → h x ≡ held t) (eqb (plan pooled slots r.call).act 6)
        (λ six _. taking e (eqb-true _ _ six)) (λ _ some. absurd (some refl)) some
    owned (loaded w) e z some = absurd (some refl)
    owned (knows label) e z some = absurd (some refl)
    owned (claims side slot label) e z some = absurd (some refl)
    owned (looks side slot label) e z some = absurd (some refl)
    owned (labels both slot label task o) e z _ = R.owes_label tasks pooled slots m q f g t slot (labels both slot label task o) e z refl
    owned (marks slot task o) e z some = absurd (some refl)
    owned (ends task o) e z some = absurd (some refl)

  pub apart : (t u : ℕ) → t < tasks → u < tasks → label_next pooled slots m t ≢ 0 → label_next pooled slots m t ≡ label_next pooled slots m u → t ≡ u
  apart t u lt lu some same =
      own.held_same tasks pooled slots q g t u (label_next pooled slots m t)
      (owned t lt (m.hands t) (f.records t) (f.extra t) some)
      (subst (λ (x : ℕ). h x ≡ held u) (sym same)
      (owned u lu (m.hands u) (f.records u) (f.extra u) (λ z. some (same ∙ z))))
