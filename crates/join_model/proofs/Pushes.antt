-- The first label pushed by task 0 alone, and one label more: the closed form is kept.
use mathlib.Core.{Path.{◌≡◌, refl, sym, ap, subst, ◌∙◌}, Bool.{true, false}, List.{List, ◌∷◌}}
use Prim.Native.Nat.{ℕ, suc, ◌+◌, ◌/◌, ◌<◌, ◌≤◌}
use native.Mathlib.Omega.{arith}
use lib.{Dec.{leb, ltb}, ListN.{length, get_or, set, replicate, length-set}, Seq.{get_or-set_same, set-set, set-get_or}}
use borrow.Author.Tests.{ne_eqb, ltb-true, leb-true}
use Rattle.word.{specs.{declared.Anchor.Anchor, Anchor.pack_anchor}, proofs.Laws.unpack_pack}
use Rattle.model.specs.{declared.{Record.Record, Op.TheVariants.{Push, Step}}, Sound.{anchor_sound, row_tests, rows_fit}}
use Rattle.model.specs.Tables.{Queue, idle, unused, with_call, task_at, with_anchor, with_taken, tables_of}
use Rattle.model.{specs.History.Request, proofs.{Laws.Lengths.lengths, Tests.Rules.tests, Unsound.Tests.anchor-sound}}
use Rattle.join_model.specs.{Join.{anchor_in, push_alone}, Laws.{answers_one, answers_next}}
use Rattle.join_model.specs.Closed.{filled, left_of, right_of, marked_to, tag_after, held}
use Rattle.join_model.proofs.{Ran.{Ran, stands}, Pushed.{Ready, control-kept, fitting, first_push}, Fresh.Fresh}
use Rattle.join_model.proofs.NextPush.{next_push, t10}
use Rattle.join_model.proofs.Filling.{filled_length, filled-beyond, marked_length, marked-beyond}

module _ (q : Queue) (fresh : Fresh q) (f : ℕ → ℕ) where
  abbrev slots : ℕ
  slots = q.tables.control.slots

  abbrev tag : ℕ
  tag = (anchor_in q).tag

  -- Record 0 once its call is answered.
  abbrev rested : Record
  rested = with_call (task_at q 0) idle

  -- The first label.
  pub ready : 0 < slots → Ready q 0
  ready h = record {
    control = fresh.control;
    named = fresh.named;
    rows = fresh.rows;
    records = fresh.records;
    rests = fresh.rests;
    status = fresh.status;
    right = fresh.right;
    more = h;
    slots = fresh.slots;
    tasks = fresh.tasks;
    unmarked = fresh.marks 1 h;
  }

  pub begins : 0 < slots → ltb 4294967262 tag ≡ false → Ran q (push_alone 1 (f 1)) (held q 0 f) answers_one
  unfolding held
  begins h e = subst (λ (z : Queue). Ran q (push_alone 1 (f 1)) z answers_one) is_held (first_push q 0 (f 1) (ready h) refl fresh.left e)
    where
      -- The Left of slot 1 was 0 before.
      same-lefts : q.tables.lefts ≡ set q.tables.lefts 1 (left_of 1)
      same-lefts = sym (ap (set q.tables.lefts 1) (sym (fresh.zeros.lefts 1 h)) ∙ set-get_or q.tables.lefts 1 0)

      tags : tag + 1 ≡ tag_after tag 1
      tags = omega arith

      is_held : stands (with_anchor (with_taken q.tables 1 (f 1))
          (pack_anchor (record { tag = tag + 1; status = (anchor_in q).status; left = 1; right = 1 }))) q.records rested
          ≡ held q 0 f
      is_held = λ i. record {
        tables = with_anchor (tables_of q.tables.control
            (same-lefts i)
            q.tables.rights
            (filled f 1 q.tables.labels)
            (marked_to 1 q.tables.marks)
            q.tables.next) (pack_anchor (record { tag = tags i; status = fresh.status i; left = 1; right = 1 }));
        records = set q.records 0 rested;
      }

  -- The Anchor of the closed form.
  pub held_reads : (m : ℕ) → suc m ≤ slots → tag_after tag (suc m) ≤ 4294967264
      → anchor_in (held q m f) ≡ record { tag = tag_after tag (suc m); status = 0; left = 1; right = suc m }
  unfolding held
  held_reads m h known = unpack_pack _ (record { tag = omega arith; status = omega arith; left = omega arith; right = omega (arith, fresh.slots) })

  -- Each label after it: m labels before the last one pushed.
  module _ (m : ℕ) (h : suc m < slots) (known : tag_after tag (suc m) ≤ 4294967264) where
    abbrev before : Queue
    before = held q m f

    abbrev count : ℕ
    count = suc m

    reads : anchor_in before ≡ record { tag = tag_after tag count; status = 0; left = 1; right = count }
    reads = held_reads m (omega arith) known

    sound : anchor_sound slots (anchor_in before) ≡ true
    sound = rw reads (anchor-sound _ _ (record {
      status = omega arith;
      left = omega arith;
      right = omega arith;
      null = λ z. absurd (omega arith);
      full = λ z. absurd (omega arith);
      single = λ z. refl;
    }))

    sizes : lengths before.tables ≡ lengths q.tables
    unfolding held
    sizes = λ i. record {
      lefts = filled_length left_of count q.tables.lefts i;
      rights = filled_length right_of m q.tables.rights i;
      labels = filled_length f count q.tables.labels i;
      marks = marked_length count q.tables.marks i;
      next = length q.tables.next;
    }

    wide : slots / 64 < length q.tables.marks
    unfolding rows_fit
    wide = ltb-true _ _ (tests (row_tests false slots q.tables) fresh.rows).1.1.1.0

    nonempty : 0 < length q.records
    nonempty = omega (arith, fresh.tasks, leb-true q.tables.control.tasks (length q.records) fresh.records)

    rested_there : task_at before 0 ≡ rested
    unfolding held
    rested_there = get_or-set_same q.records 0 rested unused nonempty

    pub prepared : Ready before count
    unfolding held rows_fit
    prepared = record {
      control = control-kept q.tables _ fresh.control sound;
      named = fresh.named;
      rows = (λ i. fitting slots (sizes i)) ∙ fresh.rows;
      records = ap (leb q.tables.control.tasks) (length-set q.records 0 rested) ∙ fresh.records;
      rests = ap (λ (r : Record). r.call.place) rested_there;
      status = ap (λ (a : Anchor). a.status) reads;
      right = ap (λ (a : Anchor). a.right) reads;
      more = h;
      slots = fresh.slots;
      tasks = fresh.tasks;
      unmarked = marked-beyond count q.tables.marks (suc count) (omega arith) (omega (arith, wide)) ∙ fresh.marks (suc count) h;
    }

    abbrev next : List Request
    next = record { task = 0; op = Push 1 (suc count) (f (suc count)) } ∷ replicate 9 (record { task = 0; op = Step })

    -- One label more, where its start has room.
    module _ (e : ltb 4294967262 (tag_after tag count) ≡ false) where
      early : ltb 4294967262 (anchor_in before).tag ≡ false
      early = ap (λ (a : Anchor). ltb 4294967262 a.tag) reads ∙ e

      blank-left : get_or before.tables.lefts (suc count) 0 ≡ 0
      unfolding held
      blank-left = filled-beyond left_of count q.tables.lefts (suc count) (omega arith) ∙ fresh.zeros.lefts (suc count) h

      blank-right : get_or before.tables.rights count 0 ≡ 0
      unfolding held
      blank-right = filled-beyond right_of m q.tables.rights count (omega arith) ∙ fresh.zeros.rights count (omega arith)

      starts_at_1 : (anchor_in before).left ≡ 1
      starts_at_1 = ap (λ (a : Anchor). a.left) reads

      some : 1 ≤ count
      some = omega arith

      next-tag : (anchor_in before).tag + 2 ≡ tag_after tag (suc count)
      next-tag = let z = ap (λ (a : Anchor). a.tag) reads in omega arith

      is_held : stands (t10 before count (f (suc count)) prepared some starts_at_1 early blank-left blank-right) before.records
          (with_call (task_at before 0) idle) ≡ held q count f
      unfolding held
      is_held =
          let left : count ≡ left_of (suc count) = omega (arith, h, fresh.slots) in
          let same = ap (λ (r : Record). set before.records 0 (with_call r idle)) rested_there ∙ set-set q.records 0 rested rested in
          λ i. record {
            tables = with_anchor (tables_of q.tables.control
                (set (filled left_of count q.tables.lefts) (suc count) (left i))
                (filled right_of count q.tables.rights)
                (filled f (suc count) q.tables.labels)
                (marked_to (suc count) q.tables.marks)
                q.tables.next) (pack_anchor (record { tag = next-tag i; status = 0; left = 1; right = suc count }));
            records = same i;
          }

      pub one_more : Ran before (push_alone (suc count) (f (suc count))) (held q count f) answers_next
      one_more =
          rw (ne_eqb (suc count) 1 (λ z. omega arith))
          (subst (λ (z : Queue). Ran before next z answers_next) is_held
          (next_push before count (f (suc count)) prepared some starts_at_1 early blank-left blank-right))
