-- A step changes one shared word at the most; where a failed change is counted, in the task's own record, none.
-- The one exception is 14 done, which sets the head, the slot's label and its mark.
use mathlib.Core.{Logic.{◌⊎◌, inl, inr}, Path.{◌≡◌, refl, subst, sym}, Bool.false}
use Prim.Native.Nat.{ℕ}
use lib.{Dec.eqb, Seq.get_or-set_other}
use borrow.Author.Tests.{eqb-true}
use Rattle.model.specs.declared.{Control.Control, Call.Call, Record.Record, Op.{Op, TheVariants.Step}}
use Rattle.model.specs.{Tables.{Tables, Queue, is_pooled, record_at, task_at, unused}, Route.counted, Kinds.is_push}
use Rattle.model.specs.Places.{Touch, nothing, set_anchor, set_link, clear_mark, take_slot, set_next, set_head, Move}
use Rattle.model.specs.Places.{word_found, move, apply, at1, at2, at3, at4, at5, at6, at7, at9, at10, at11, at12}
use Rattle.model.specs.{Places.{at13, at14, at15, at16, at17}, Refusals.{Lent, among, alone, step_refusal}}
use Rattle.model.specs.Calls.{Acted, finish, step, act_on, act, step_lent}
use Rattle.model.specs.OneTouch.{TouchesOnce, OneTouch, untouched, anchor, link, mark, next, head, drawn}
use Rattle.model.proofs.Tests.Truth.{either, by_test}

-- A slot is drawn at 14 alone.
abbrev Draws14 : ℕ → Touch → Type 0
Draws14 place nothing = Unit {0}
Draws14 place (set_anchor w) = Unit {0}
Draws14 place (set_link side x w) = Unit {0}
Draws14 place (clear_mark x) = Unit {0}
Draws14 place (take_slot w x l) = place ≡ 14
Draws14 place (set_next x v) = Unit {0}
Draws14 place (set_head w) = Unit {0}

-- A move touches nothing, or its change has not failed.
data Single (place : ℕ) (m : Move) : Type 0 where
  touches : m.failed ≡ false → Draws14 place m.touch → Single place m
  counts : m.touch ≡ nothing → Single place m

module _ (c : Control) (r : Call) (w : ℕ) where
  abbrev S : Move → Type 0
  S m = Single r.place m

  single : S (move c r w)
  unfolding move at1 at2 at3 at4 at5 at6 at7 at9 at10 at11 at12 at13 at14 at15 at16 at17
  single =
      either S (eqb r.place 1) (touches refl tt)
      (either S (eqb r.place 2) (either S (eqb c.anchor r.seen) (touches refl tt) (counts refl))
      (either S (eqb r.place 3) (either S (is_push r) (touches refl tt) (touches refl tt))
      (either S (eqb r.place 4) (either S (eqb c.anchor r.seen) (touches refl tt) (counts refl))
      (either S (eqb r.place 5) (touches refl tt)
      (either S (eqb r.place 6) (touches refl tt)
      (either S (eqb r.place 7) (touches refl tt)
      (either S (eqb r.place 8) (touches refl tt)
      (either S (eqb r.place 9) (either S (eqb w r.link) (touches refl tt) (counts refl))
      (either S (eqb r.place 10) (either S (eqb c.anchor r.seen) (touches refl tt) (counts refl))
      (either S (eqb r.place 11) (either S (is_pooled c) (touches refl tt) (touches refl tt))
      (either S (eqb r.place 12) (touches refl tt)
      (either S (eqb r.place 13) (touches refl tt)
      (by_test S (eqb r.place 14) (λ e. either S (eqb c.head r.link) (touches refl (eqb-true r.place 14 e)) (counts refl))
      (λ _. either S (eqb r.place 15) (touches refl tt)
      (either S (eqb r.place 16) (touches refl tt) (either S (eqb c.head r.link) (touches refl tt) (counts refl)))))))))))))))))

applied : (place : ℕ) (t : Touch) (q : Tables) → Draws14 place t → OneTouch place q (apply t q)
applied place nothing q d = untouched
applied place (set_anchor w) q d = anchor w
applied place (set_link side x w) q d = link side x w
applied place (clear_mark x) q d = mark _ _
applied place (take_slot w x l) q d = drawn w x l d
applied place (set_next x v) q d = next x v
applied place (set_head w) q d = head w

abbrev moved : Tables → Record → Move
moved q r = move q.control r.call (word_found q r.call)

-- What a single move touches is drawn at 14 alone, if at all.
drawn14 : (place : ℕ) (m : Move) → Single place m → Draws14 place m.touch
drawn14 place m (touches e d) = d
drawn14 place m (counts e) = subst (Draws14 place) (sym e) tt

step-touch : (q : Tables) (p : Lent) (r : Record) → OneTouch r.call.place q (step q p r).tables
unfolding step finish
step-touch q p r =
    either (λ (a : Acted). OneTouch r.call.place q a.tables) (eqb (step_refusal q p r.call) 0)
    (applied r.call.place (moved q r).touch q (drawn14 r.call.place (moved q r) (single q.control r.call (word_found q r.call)))) untouched

-- Where a failed change is counted no shared word is touched.
abbrev Uncounted : Tables → Record → Acted → Type 0
Uncounted q r a = (a.task.retries ≡ r.retries) ⊎ (a.tables ≡ q)

uncounted : (q : Tables) (r : Record) (m : Move) → Single r.call.place m → Uncounted q r (finish q r m)
unfolding finish counted
uncounted q r m (touches e d) = inl (rw e)
uncounted q r m (counts e) = inr (rw e)

step_uncounted : (q : Tables) (p : Lent) (r : Record) → Uncounted q r (step q p r)
unfolding step
step_uncounted q p r =
    either (Uncounted q r) (eqb (step_refusal q p r.call) 0)
    (uncounted q r (moved q r) (single q.control r.call (word_found q r.call))) (inl refl)

-- The laws, for all arguments.
pub lent-touch : (q : Tables) (r : Record) → OneTouch r.call.place q (step_lent q r).tables
unfolding step_lent
lent-touch q r = step-touch q alone r

pub act-touch : (q : Queue) (t : ℕ) → OneTouch (record_at q t).place q.tables (act q t Step).queue.tables
unfolding act act_on
act-touch q t = step-touch q.tables (among q t) (task_at q t)

pub lent_uncounted : (q : Tables) (r : Record) → ((step_lent q r).task.retries ≡ r.retries) ⊎ ((step_lent q r).tables ≡ q)
unfolding step_lent
lent_uncounted q r = step_uncounted q alone r

-- No start or step changes the record of another task.
pub act-others : (q : Queue) (t u : ℕ) (o : Op) → (u ≡ t → ⊥) → task_at (act q t o).queue u ≡ task_at q u
unfolding act
act-others q t u o other = get_or-set_other q.records t u _ unused other

pub touches-once : TouchesOnce
touches-once = record { operation = act-touch; lent = lent-touch; others = act-others }
