-- The tables that an opening leaves: nobody has called, nothing waits.
use mathlib.Core.{Bool.{Bool, cond, false, true}, Logic.{◌≢◌, ◌⊎◌, inl, inr}, List.{List, []}}
use mathlib.Core.Path.{◌∙◌, ◌≡◌, ap, refl, subst, sym}
use Prim.Native.Nat.{◌%◌, ◌*◌, ◌+◌, ◌/◌, ◌<◌, ◌^◌, ◌≤◌, suc, zero, ℕ}
use native.Mathlib.{Nat.zero-div, Omega.arith}
use lib.{Dec.{eqb, ltb}, ListN.{get_or-append, drop, get_or, get_or-replicate, length-replicate, replicate}}
use borrow.Author.Tests.{ltb-true, not-false}
use Rattle.word.specs.{Anchor.{empty_anchor, pack_anchor}, Link.{link_of, spare_of}}
use Rattle.model.specs.{Calls.{opened, stacked}, History.Ledger, Lists.zeroed, Refusals.{open_refusal, open_rules}}
use Rattle.model.specs.Tables.{Queue, idle, is_pooled, marked, record_at, unused}
use Rattle.model.specs.declared.{Call.Call, Record.Record}
use Rattle.model.proofs.{Tests.{Rules.cleared, Truth.{by_test, decide_eq}}, Lists.Range.{climb-last, climb-step}}
use Rattle.model.proofs.{Invariant.Owners.{Pool, Spare, free}, Places.Opening.{all-stacked, fresh}}
use Rattle.model.proofs.{Bridge.Facts.from1_true, Ledger.Matched.{Matched, busy_no}}
use Rattle.model.proofs.Bridge.View.{anchor_seen, link_at, place_of, rec_of, state_of, status_of, view}
use Rattle.model.proofs.Machine.Book as B
use Rattle.model.proofs.Machine.Machine as M

abbrev pub nobody : Ledger
nobody = record { deque = []; calls = [] }

pub zeroed-at : {A : Type 0} (n : ℕ) (z : A) (l : List A) (x : ℕ) → x < n → get_or (zeroed n z l) x z ≡ z
zeroed-at n z l x h = get_or-append (replicate n z) (drop n l) z x (rw length-replicate h) ∙ get_or-replicate n x z z h

-- An accepted opening has a slot.
pub some_slots : (pooled : Bool) (q : Queue) (tasks slots : ℕ) → open_refusal pooled q tasks slots ≡ 0 → 1 ≤ slots
unfolding open_refusal
some_slots pooled q tasks slots e = (from1_true 1023 slots (not-false _ (cleared (open_rules pooled q tasks slots) refl e).1.0)).0

module _ (pooled : Bool) (q : Queue) (tasks slots tag : ℕ) where
  abbrev o : Queue
  o = opened pooled q tasks slots tag

  pub empty_status : (anchor_seen (pack_anchor (empty_anchor tag))).status ≡ M.stable
  empty_status = let z : (tag % 4294967296 * 4294967296 + 0 * 1073741824 + 0 * 32768 + 0) / 1073741824 % 4 ≡ 0 = omega arith in ap status_of z

  pub empty_left : (anchor_seen (pack_anchor (empty_anchor tag))).left ≡ 0
  empty_left = omega arith

  pub empty_right : (anchor_seen (pack_anchor (empty_anchor tag))).right ≡ 0
  empty_right = omega arith

  pub no_record : (t : ℕ) → t < tasks → record_at o t ≡ idle
  unfolding opened
  no_record t lt = ap (λ (r : Record). r.call) (zeroed-at tasks unused q.records t lt)

  pub all-idle : (t : ℕ) → ((state_of o).task t).place ≡ M.idle
  unfolding state_of opened rec_of
  all-idle t = by_test (λ (r : M.Rec). r.place ≡ M.idle) (ltb t tasks)
      (λ e. ap (λ (r : Call). place_of r.place) (no_record t (ltb-true t tasks e))) (λ e. refl)

  -- A property of 0 holds of each link word in the rows.
  pub zero_links : (P : ℕ → Type 0) → P 0 → (d : Bool) (x : ℕ) → x ≤ slots → P (link_at o.tables d x)
  unfolding opened
  zero_links P p false x h = subst P (sym (zeroed-at (slots + 1) 0 q.tables.lefts x (omega arith))) p
  zero_links P p true x h = subst P (sym (zeroed-at (slots + 1) 0 q.tables.rights x (omega arith))) p

  -- A pooled queue's next table, and the words of the pool.
  pub next_up : pooled ≡ true → (i : ℕ) → 1 ≤ i → i < slots → get_or o.tables.next i 0 ≡ suc i
  unfolding opened
  next_up p i l h = go slots i l h
    where
      go : (n i : ℕ) → 1 ≤ i → i < n → get_or (cond pooled (stacked n q.tables.next) q.tables.next) i 0 ≡ suc i
      go zero i l h = absurd (omega arith)
      go (suc n) zero l h = absurd (omega arith)
      go (suc n) (suc i) l h = rw p
          (climb-step 2 n (drop (suc n + 1) q.tables.next) i (omega arith) ∙ (let z : 2 + i ≡ suc (suc i) = omega arith in z))

  pub next_end : pooled ≡ true → 1 ≤ slots → get_or o.tables.next slots 0 ≡ 0
  unfolding opened
  next_end p h = go slots h
    where
      go : (n : ℕ) → 1 ≤ n → get_or (cond pooled (stacked n q.tables.next) q.tables.next) n 0 ≡ 0
      go zero h = absurd (omega arith)
      go (suc n) h = rw p (climb-last 2 n (drop (suc n + 1) q.tables.next))

  pub next_zero : pooled ≡ true → get_or o.tables.next 0 0 ≡ 0
  unfolding opened
  next_zero p = rw p

  next_low : pooled ≡ true → 1 ≤ slots → (x : ℕ) → x ≤ slots → get_or o.tables.next x 0 ≤ slots
  next_low p some x h = go (decide_eq x 0) (decide_eq x slots)
    where
      go : (x ≡ 0) ⊎ (x ≢ 0) → (x ≡ slots) ⊎ (x ≢ slots) → get_or o.tables.next x 0 ≤ slots
      go (inl e) w = let z = ap (λ (v : ℕ). get_or o.tables.next v 0) e ∙ next_zero p in omega arith
      go (inr n) (inl e) = let z = ap (λ (v : ℕ). get_or o.tables.next v 0) e ∙ next_end p some in omega arith
      go (inr n) (inr e) = omega (arith, next_up p x (omega arith) (omega arith))

  pub flag : is_pooled o.tables.control ≡ pooled
  unfolding opened
  flag = go pooled
    where
      go : (b : Bool) → eqb (cond b 1 0) 1 ≡ b
      go true = refl
      go false = refl

  no-mark : (x : ℕ) → x ≤ slots → marked o.tables.marks x ≡ false
  unfolding opened
  no-mark x h =
      let e : get_or (zeroed (slots / 64 + 1) 0 q.tables.marks) (x / 64) 0 ≡ 0 = zeroed-at (slots / 64 + 1) 0 q.tables.marks (x / 64)
      (omega arith) in
      ap (λ w. eqb (w / 2 ^ (x % 64) % 2) 1) e ∙ ap (λ v. eqb (v % 2) 1) (zero-div (2 ^ (x % 64)))

  -- Every slot of a pooled queue is stacked.
  all_spare : 1 ≤ slots → let s = view o.tables in Spare s.pooled s.slots s.next s.head.slot (λ x. free)
  unfolding view opened
  all_spare some = go pooled refl
    where
      go : (b : Bool) → pooled ≡ b → let s = view o.tables in Spare s.pooled s.slots s.next s.head.slot (λ x. free)
      go false e = rw (flag ∙ e) tt
      go true e =
          let top : (link_of o.tables.control.head).slot ≡ 1 = ap (λ (b : Bool). (link_of (cond b 1 0)).slot) e in
          rw (flag ∙ e) (subst (λ y. Pool slots (λ x. get_or o.tables.next x 0) y (λ x. free)) (sym top)
          (all-stacked slots (λ x. get_or o.tables.next x 0) some (next_up e) (next_end e some)))

  head_fine : 1 ≤ slots → (spare_of o.tables.control.head ≡ 0) × ((link_of o.tables.control.head).slot ≤ slots)
      × ((link_of o.tables.control.head).tag < 2 ^ 32)
  unfolding opened
  head_fine some = by_test (λ w. (spare_of w ≡ 0) × ((link_of w).slot ≤ slots) × ((link_of w).tag < 2 ^ 32)) pooled
      (λ e. (refl, omega arith, omega arith)) (λ e. (refl, omega arith, omega arith))

  pub open_good : 1 ≤ slots → Matched 1 o nobody
  unfolding opened state_of view
  open_good some = record {
    book = B.no_book;
    inv = fresh (view o.tables) (state_of o).task empty_status empty_left empty_right all-idle (all_spare some) no-mark;
    links = record {
      spare = zero_links (λ w. spare_of w ≡ 0) refl;
      tag = zero_links (λ w. (link_of w).tag < 2 ^ 32) (omega arith);
      slot = zero_links (λ w. (link_of w).slot ≤ slots) (omega arith);
      next = λ p. next_low (sym flag ∙ p) some;
      head = head_fine some;
    };
    deque = refl;
    tracks = tt;
    busy = λ t. sym (ap (λ (p : M.Place). busy_no (M.is_idle p)) (all-idle t));
  }
