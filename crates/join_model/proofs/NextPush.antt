-- One push by task 0 alone on a queue that is not empty: nine steps.
use mathlib.Core.{Path.{◌≡◌, refl, ap, ◌∙◌}, Bool.{true, false}, List.{[], ◌∷◌}}
use Prim.Native.Nat.{ℕ, suc, ◌+◌, ◌<◌, ◌≤◌, ◌^◌}
use native.Mathlib.Omega.{arith}
use lib.{Dec.{eqb, leb, ltb}, ListN.{length, get_or, replicate, length-set}, Seq.get_or-set_same}
use borrow.Author.Tests.{eq-eqb, ne_eqb, le-leb, ltb-true, ltb-false}
use Rattle.word.{specs.{declared.Anchor.Anchor, Anchor.{anchor_of, pack_anchor}, Link.pack_link}, proofs.Laws.unpack_pack}
use Rattle.model.specs.Outcomes.{Moved}
use Rattle.model.specs.declared.Answer.TheVariants.{Running, Pushed}
use Rattle.model.specs.{declared.Op.TheVariants.{Push, Step}, Sound.{anchor_sound, row_tests, rows_fit}}
use Rattle.model.specs.{Tables.{Tables, Queue, idle, with_call, task_at, with_anchor}, Places.{set_link, apply}}
use Rattle.model.proofs.{Tests.{Rules.tests, Truth.and_of}, Unsound.Tests.{anchor-sound, link-sound}}
use Rattle.join_model.specs.{Join.anchor_in, Closed.right_of}
use Rattle.join_model.proofs.Alone.{Able, at, step1, step3, step4, step5, step6, step7, step8, step9, step10}
use Rattle.join_model.proofs.{Ran.{Ran, ran-none, ran-more, stands, steps}, Pushed.room}
use Rattle.join_model.proofs.Pushed.{Ready, control-kept, tries, first, long, low, high, starts, sound, still}

module _ (q : Queue) (k label : ℕ) (r : Ready q k) (some : 1 ≤ k) (begun : (anchor_in q).left ≡ 1) (early : ltb 4294967262 (anchor_in q).tag ≡ false)
    (blank_left : get_or q.tables.lefts (suc k) 0 ≡ 0) (blank_right : get_or q.tables.rights k 0 ≡ 0) where
  abbrev slots : ℕ
  slots = q.tables.control.slots

  abbrev word : ℕ
  word = q.tables.control.anchor

  abbrev x : ℕ
  x = suc k

  -- The count of task 0, as it stays.
  abbrev n : ℕ
  n = tries q

  -- The Anchor words that it writes at 4 and 10.
  abbrev new : ℕ
  new = pack_anchor (record { tag = (anchor_in q).tag + 1; status = 1; left = (anchor_in q).left; right = x })

  abbrev pub last : ℕ
  last = pack_anchor (record { tag = (anchor_in q).tag + 2; status = 0; left = 1; right = x })

  -- The tables after 3, 4, 9 and 10.
  abbrev t0 : Tables
  t0 = first q k label r

  abbrev t3 : Tables
  t3 = apply (set_link 0 x k) t0

  abbrev t4 : Tables
  t4 = with_anchor t3 new

  abbrev t9 : Tables
  t9 = apply (set_link 1 k (right_of k)) t4

  abbrev pub t10 : Tables
  t10 = with_anchor t9 last

  tag-low : (anchor_in q).tag ≤ 4294967262
  tag-low = ltb-false 4294967262 (anchor_in q).tag early

  x_low : x < 2 ^ 15
  x_low = omega (arith, r.more, r.slots)

  new_reads : anchor_of new ≡ record { tag = (anchor_in q).tag + 1; status = 1; left = (anchor_in q).left; right = x }
  new_reads = unpack_pack _ (record { tag = omega (arith, tag-low); status = omega arith; left = omega (arith, begun); right = x_low })

  last-reads : anchor_of last ≡ record { tag = (anchor_in q).tag + 2; status = 0; left = 1; right = x }
  last-reads = unpack_pack _ (record { tag = omega (arith, tag-low); status = omega arith; left = omega arith; right = x_low })

  new_sound : anchor_sound slots (anchor_of new) ≡ true
  new_sound = rw new_reads (anchor-sound _ _ (record {
    status = omega arith;
    left = omega (arith, begun, r.more);
    right = r.more;
    null = λ z. absurd (omega (arith, begun));
    full = λ z. absurd (omega arith);
    single = λ z. absurd (omega (arith, begun));
  }))

  last-sound : anchor_sound slots (anchor_of last) ≡ true
  last-sound = rw last-reads (anchor-sound _ _ (record {
    status = omega arith;
    left = omega (arith, r.more);
    right = r.more;
    null = λ z. absurd (omega arith);
    full = λ z. absurd (omega arith);
    single = λ z. refl;
  }))

  able0 : Able t0 x word
  able0 = record {
    control = r.control;
    named = r.named;
    rows = still q k label r t0 (simp length-set);
    low = low q k label r;
    high = high q k label r;
    seen = sound q k label r;
  }

  able3 : Able t3 x word
  able3 = record {
    control = r.control;
    named = r.named;
    rows = still q k label r t3 (simp length-set);
    low = low q k label r;
    high = high q k label r;
    seen = sound q k label r;
  }

  able4 : Able t4 x new
  able4 = record {
    control = control-kept q.tables new r.control new_sound;
    named = r.named;
    rows = still q k label r t4 (simp length-set);
    low = low q k label r;
    high = high q k label r;
    seen = new_sound;
  }

  able9 : Able t9 x new
  able9 = record {
    control = control-kept q.tables new r.control new_sound;
    named = r.named;
    rows = still q k label r t9 (simp length-set);
    low = low q k label r;
    high = high q k label r;
    seen = new_sound;
  }

  wide : x < length q.tables.lefts
  unfolding rows_fit
  wide = omega (arith, r.more, ltb-true slots (length q.tables.lefts) (tests (row_tests false slots q.tables) r.rows).0)

  helps : (anchor_of new).status ≡ 1
  helps = ap (λ (a : Anchor). a.status) new_reads

  mine : (anchor_of new).right ≡ x
  mine = ap (λ (a : Anchor). a.right) new_reads

  k_high : leb k slots ≡ true
  k_high = le-leb k slots (omega (arith, r.more))

  closes : pack_anchor (record { tag = (anchor_of new).tag + 1; status = 0; left = (anchor_of new).left; right = (anchor_of new).right }) ≡ last
  closes =
      let e : (anchor_in q).tag + 1 + 1 ≡ (anchor_in q).tag + 2 = omega arith in
      (λ i. pack_anchor (record { tag = (new_reads i).tag + 1; status = 0; left = (new_reads i).left; right = (new_reads i).right }))
      ∙ (λ i. pack_anchor (record { tag = e i; status = 0; left = begun i; right = x }))

  end_link : pack_link (record { tag = 0; slot = (anchor_in q).right }) ≡ k
  end_link = omega (arith, r.right, x_low)

  pub next_push : Ran q (record { task = 0; op = Push 1 x label } ∷ replicate 9 (record { task = 0; op = Step }))
      (stands t10 q.records (with_call (task_at q 0) idle))
      (Moved (Running 1) ∷ Moved (Running 3) ∷ Moved (Running 4) ∷ Moved (Running 5) ∷ Moved (Running 6) ∷ Moved (Running 7) ∷ Moved (Running 8)
      ∷ Moved (Running 9) ∷ Moved (Running 10) ∷ Moved Pushed ∷ [])
  next_push =
      let rs = q.records in
      let h = long q k label r in
      let left : eqb (anchor_in q).left 0 ≡ false = rw begun in
      ran-more (starts q k label r early)
      (ran-more (steps t0 rs (at n 1 x label 0 0 0) r.tasks h (step1 t0 n x label word able0 refl left (eq-eqb _ _ r.status)))
      (ran-more (steps t0 rs (at n 3 x label word 0 0) r.tasks h (step3 t0 n x label word able0 k end_link blank_left))
      (ran-more (steps t3 rs (at n 4 x label word 0 0) r.tasks h
      (step4 t3 n x label word able3 refl new refl new_sound (room q k label r early (anchor_in q).tag (omega arith))))
      (ran-more (steps t4 rs (at n 5 x label new 0 1) r.tasks h
      (step5 t4 n x label new able4 k helps mine (get_or-set_same q.tables.lefts x k 0 wide)
      (link-sound slots k (omega (arith, x_low)) (omega (arith, r.more, x_low))) (omega (arith, x_low))))
      (ran-more (steps t4 rs (at n 6 x label new k 1) r.tasks h (step6 t4 n x label new able4 refl k k_high helps))
      (ran-more (steps t4 rs (at n 7 x label new k 1) r.tasks h
      (step7 t4 n x label new able4 k helps mine (and_of (le-leb 1 k some) k_high) k_high blank_right (ne_eqb 0 x (λ z. omega arith))))
      (ran-more (steps t4 rs (at n 8 x label new k 1) r.tasks h (step8 t4 n x label new able4 refl k k_high helps))
      (ran-more (steps t4 rs (at n 9 x label new k 1) r.tasks h
      (step9 t4 n x label new able4 k helps mine (and_of (le-leb 1 k some) k_high) k_high blank_right))
      (ran-more (steps t9 rs (at n 10 x label new k 1) r.tasks h
      (step10 t9 n x label new able9 refl k k_high helps last closes last-sound (room9 (anchor_of new).tag (ap (λ (a : Anchor). a.tag) new_reads))))
      (ran-none _))))))))))
    where
      room9 : (n : ℕ) → n ≡ (anchor_in q).tag + 1 → ltb n 4294967295 ≡ true
      room9 n e = room q k label r early n (omega arith)
