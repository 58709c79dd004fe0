-- An instruction touches one label at most.
use mathlib.Core.{Path.{◌≡◌, refl, ap, sym, subst, ◌∙◌}, Bool.{Bool, true, false, cond}, List.{List, []}, Logic.◌≢◌}
use Prim.Native.Nat.{ℕ}
use lib.{Dec.eqb, ListN.{get_or, set}, Seq.{get_or-set_other, set_comm}}
use borrow.Author.Tests.{eqb-true}
use Rattle.model.specs.Outcomes.{Outcome}
use Rattle.model.specs.declared.{Record.Record, Op.{Op, TheVariants.{Push, Pop, PushPooled, Step}}}
use Rattle.model.specs.{Tables.{Tables, marked, with_mark, with_marks}, Sides.links}
use Rattle.threads_model.specs.{declared.{PlannedTouch.PlannedTouch, Start.Start}, Split.{plan, perform, settle}}
use Rattle.threads_model.specs.Starts.{Begins, touches, answers, names, pops, puts, plan_start, settle_start}
use Rattle.threads_model.specs.Instructions.{Hand, free, begun, loaded, knows, claims, looks, labels, marks, ends, tick}
use Rattle.threads_model.specs.Instructions.{Ticked, quiet, decided, settled, awaits, with_labels, label_touched, is_to_put}
use Rattle.threads_model.specs.Instructions.{loads_own, is_as_read, puts_own, reads_next, at_once, one_word, replaces, clears}
use Rattle.threads_model.specs.Instructions.{step_first, start_first, claims_mark, looks_mark}
use Rattle.threads.specs.Promises.{relabelled, TouchesOneLabel}
use Rattle.threads.proofs.Follow.Overlay.{overlay, both, over}

module _ (pooled slots : ℕ) (q : Tables) (r : Record) (x v : ℕ) where
  abbrev l : List ℕ
  l = set q.labels x v

  abbrev other : Tables
  other = with_labels q l

  abbrev p : PlannedTouch
  p = plan pooled slots r.call

  abbrev Same : Ticked → Ticked → Type 0
  Same a b = b ≡ relabelled a x v

  -- Starts look at Anchor and a mark.
  settles : (op : Op) (early : Bool) (t : Tables) (waiting : PlannedTouch → Hand) (done : Record → Outcome → Hand) (b : Begins)
      → Same (settled op early t waiting done b) (settled op early (with_labels t (set t.labels x v)) waiting done b)
  settles op early t waiting done (touches p) = refl
  settles op early t waiting done (answers task o) = refl

  starts : (op : Op) (s : Start) → Same (start_first pooled slots q r op s) (start_first pooled slots other r op s)
  unfolding start_first
  starts op s =
      let act = (plan_start pooled slots r.call s).act in
      both Same (eqb act 0) (λ _. refl) (λ _. settles op false q (awaits s) ends (settle_start r s act q.control.anchor))

  claiming : (side slot label : ℕ) → Same (claims_mark q r side slot label) (claims_mark other r side slot label)
  unfolding claims_mark
  claiming side slot label =
      let s = names side slot label in
      both Same (marked q.marks slot) (λ _. settles (Push side slot label) true q (awaits s) ends (settle_start r s 12 1))
      (λ _. settles (Push side slot label) true (with_marks q (with_mark q.marks slot 1)) (awaits s) (labels false slot label) (settle_start r s 12 0))

  looking : (side slot label : ℕ) → Same (looks_mark q r side slot label) (looks_mark other r side slot label)
  unfolding looks_mark
  looking side slot label =
      let s = names side slot label in
      settles (Push side slot label) false q (awaits s) ends (settle_start r s 13 (cond (marked q.marks slot) 1 0))

  -- Steps: a push at 3 touches its link word.
  loading : Same (loads_own pooled slots q r) (loads_own pooled slots other r)
  unfolding loads_own
  loading = both Same (is_to_put slots p (get_or (links q p.side) p.slot 0)) (λ _. refl) (λ _. refl)

  putting : (w : ℕ) → Same (puts_own pooled slots q r w) (puts_own pooled slots other r w)
  unfolding puts_own is_as_read
  putting w = both Same (is_as_read q p w) (λ _. refl) (λ _. loading)

  reading-next : Same (reads_next pooled slots q r) (reads_next pooled slots other r)
  unfolding reads_next
  reading-next = both Same (eqb (get_or q.next p.slot 0) p.word) (λ _. refl) (λ _. refl)

  -- Any touch but 6 and 9.
  one_touch : eqb p.act 6 ≡ false → eqb p.act 9 ≡ false → Same (at_once pooled slots q r) (at_once pooled slots other r)
  unfolding at_once
  one_touch no6 no9 =
      let o = over q l q.marks p no6 no9 in
      let d = (perform q p).tables in
      let tables : (perform other p).tables ≡ with_labels d (set d.labels x v) =
      o.tables ∙ (λ i. overlay d (set (sym o.labels i) x v) (sym o.marks i)) in
      λ i. let e = settle pooled slots r (o.found i) in decided Step (tables i) (ends e.task e.outcome)

  one_word_lem : eqb p.act 6 ≡ false → eqb p.act 9 ≡ false → Same (one_word pooled slots q r) (one_word pooled slots other r)
  unfolding one_word
  one_word_lem no6 no9 = both Same (eqb p.act 11) (λ _. reading-next) (λ _. one_touch no6 no9)

  replacing : (w : ℕ) → Same (replaces pooled slots q r w) (replaces pooled slots other r w)
  unfolding replaces
  replacing w =
      both Same (eqb p.act 11)
      (λ e. let at = eqb-true p.act 11 e in one_touch (ap (λ (n : ℕ). eqb n 6) at) (ap (λ (n : ℕ). eqb n 9) at))
      (λ _. putting w)

  stepping : label_touched pooled slots r (begun Step) ≢ x → Same (step_first pooled slots q r) (step_first pooled slots other r)
  unfolding step_first
  stepping ne =
      both Same (eqb p.act 5) (λ _. loading)
      (λ _. both Same (eqb p.act 6)
      (λ six. let apart : p.slot ≢ x = subst (λ (b : Bool). cond b p.slot 0 ≢ x) six ne in
      ap (λ (w : ℕ). quiet other (knows w)) (get_or-set_other q.labels x p.slot v 0 apart))
      (λ no6. both Same (eqb p.act 9)
      (λ _. both Same (eqb q.control.head p.expected) (λ _. refl) (λ _. refl))
      (λ no9. one_word_lem no6 no9)))

  ticks : (k : Hand) → label_touched pooled slots r k ≢ x → Same (tick pooled slots q r k) (tick pooled slots other r k)
  unfolding clears
  ticks free ne = refl
  ticks (begun (Push side slot label)) ne = starts (Push side slot label) (names side slot label)
  ticks (begun (Pop side)) ne = starts (Pop side) (pops side)
  ticks (begun (PushPooled side label)) ne = starts (PushPooled side label) (puts side label)
  ticks (begun Step) ne = stepping ne
  ticks (loaded w) ne = replacing w
  ticks (knows label) ne = refl
  ticks (claims side slot label) ne = claiming side slot label
  ticks (looks side slot label) ne = looking side slot label
  ticks (labels both slot label task o) ne =
      ap (λ (l : List ℕ). record {
        tables = with_labels q l;
        hand = cond both (marks slot task o) (ends task o);
        decides = [];
        early = false;
      }) (set_comm q.labels x slot v label (λ e. ne (sym e)))
  ticks (marks slot task o) ne = refl
  ticks (ends task o) ne = refl

pub touches_one_label : TouchesOneLabel
touches_one_label pooled slots q r k x v ne = ticks pooled slots q r x v k ne
