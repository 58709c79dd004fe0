-- A start by its tests, and in its row.
use mathlib.Core.{Path.{◌≡◌, refl, ap, sym, ◌∙◌}, Bool.{Bool, true, false, ◌&&◌, cond}, List.List}
use Prim.Native.Nat.{ℕ}
use native.Mathlib.Omega.{arith}
use lib.Dec.{eqb, leb}
use borrow.Author.Tests.{eq-eqb, ne_eqb}
use Rattle.model.specs.{declared.{Call.Call, Reply.Reply}, Tables.{started, asking}, Sound.{from1, record_sound}}
use Rattle.model.proofs.Tests.Truth.{split, and-true, not_both}
use Rattle.sound.proofs.{Parts.idle-sound, Refused.unsound}
use Rattle.layout.specs.Rows.{call_of, record_of, upper_of}
use Rattle.threads_model.specs.declared.{PlannedTouch.PlannedTouch, Start.Start}
use Rattle.threads_model.specs.Split.{refuses, loads_anchor, loads_head, plan}
use Rattle.threads_model.specs.Starts.{Begins, own_refusal, start_why, wrong_push, outside, plan_start, first_call, judged}
use Rattle.threads_model.specs.Starts.{late_word, loads_mark, takes_slot, settle_start}
use Rattle.threads.proofs.Split.{ByRecord.refuses-plan, Planned.{plan1, plan12}}
use Rattle.threads.proofs.Split.FirstCalls as first
use Rattle.threads.proofs.Split.SoundFields as F
use Rattle.touch.specs.Started.{Started, started_by, loaded_by}
use Rattle.touch.proofs.Tested.{plans}

-- Why a start is refused by its own numbers and record, by its tests one after the other; and what it does first.
module _ (pooled slots : ℕ) (r : Call) (s : Start) where
  abbrev Why : ℕ → Type 0
  Why n = n ≡ start_why pooled slots r s

  module _ (a : leb s.side 1 ≡ true) where
    module _ (b : wrong_push pooled s ≡ false) where
      module _ (d : outside slots s ≡ false) where
        pub free : r.place ≡ 0 → Why 0
        unfolding own_refusal
        free e = let idle = eq-eqb r.place 0 e in rw (a, b, d, idle-sound (eqb pooled 1) slots r idle, idle)

  pub loads : (n : ℕ) → Why n → n ≡ 0 → loads_anchor ≡ plan_start pooled slots r s
  unfolding plan_start
  loads n e none = rw (eq-eqb (start_why pooled slots r s) 0 (sym e ∙ none))

  pub stays : (n : ℕ) → Why n → (n ≡ 0 → ⊥) → refuses n ≡ plan_start pooled slots r s
  unfolding plan_start
  stays n e some = rw (ne_eqb (start_why pooled slots r s) 0 (λ z. some (e ∙ z))) (ap refuses e)

-- The first step of a call as a start writes it.
module _ (pooled slots : ℕ) where
  abbrev sounds : Call → Bool
  sounds r = record_sound (eqb pooled 1) slots r

  pub push_plan : (side slot label : ℕ) → leb side 1 ≡ true → from1 slots slot ≡ true → loads_anchor ≡ plan pooled slots (started 0 side slot label)
  push_plan side slot label a f =
      let r = started 0 side slot label in
      plans pooled slots r (first.push_sound pooled slots side slot label a f) 1 refl refl _ (plan1 pooled slots r)

  pub pop_plan : (side : ℕ) → leb side 1 ≡ true → loads_anchor ≡ plan pooled slots (started 1 side 0 0)
  pop_plan side a =
      let r = started 1 side 0 0 in
      plans pooled slots r (first.pop_sound pooled slots side a) 1 refl refl _ (plan1 pooled slots r)

  pub push_pooled_plan : (side label : ℕ) → leb side 1 ≡ true → eqb pooled 1 ≡ true → loads_head ≡ plan pooled slots (asking side label)
  push_pooled_plan side label a p =
      let r = asking side label in
      plans pooled slots r (first.draw_sound pooled slots side label a p) 12 refl refl _ (plan12 pooled slots r)

  refused_34 : (r : Call) → (sounds r ≡ true → ⊥) → refuses 34 ≡ plan pooled slots r
  refused_34 r h =
      refuses-plan pooled slots r 34 (unsound (eqb pooled 1) slots r (split (sounds r) (λ t. absurd (h t)) (λ f. f))) (λ
      (z : ◌≡◌ {A = ℕ} 34 0). omega (arith, z))

  pub bad_side : (r : Call) → eqb r.place 0 ≡ false → leb r.side 1 ≡ false → refuses 34 ≡ plan pooled slots r
  bad_side r busy a = refused_34 r (λ t. not_both (F.fit pooled slots r busy t).base.side a)

  pub bad_slot : (side slot label : ℕ) → from1 slots slot ≡ false → refuses 34 ≡ plan pooled slots (started 0 side slot label)
  bad_slot side slot label f = refused_34 (started 0 side slot label) (λ t. not_both (F.fit pooled slots (started 0 side slot label) refl t).owns f)

  pub not_pooled : (side label : ℕ) → eqb pooled 1 ≡ false → refuses 34 ≡ plan pooled slots (asking side label)
  not_pooled side label p =
      refused_34 (asking side label)
      (λ t. not_both (F.fit pooled slots (asking side label) refl t).place (ap (λ (b : Bool). leb 12 (cond b 17 11)) p))

module _ (pooled slots : ℕ) (was : List ℕ) (s : Start) where
  abbrev leaves : List ℕ → Reply → PlannedTouch → Started
  leaves row reply p = record { task = record_of row; upper = upper_of row; reply = reply; touch = p }

  abbrev by : Begins → Started
  by b = started_by pooled slots (upper_of was) (record_of was) b

  pub refused : (why : ℕ) (p : PlannedTouch) → (why ≡ 0 → ⊥) → p ≡ plan pooled slots (call_of was)
      → leaves was (record { code = why; label = 0; value = 0 }) p ≡ by (judged (record_of was) s why)
  unfolding record_of
  refused why p h e = rw (ne_eqb why 0 h) (ap (leaves was (record { code = why; label = 0; value = 0 })) e)

  pub begun : (row : List ℕ) (call : Call) (why : ℕ) (p : PlannedTouch) → why ≡ 0 → call ≡ first_call s
      → (record_of row ≡ record { call = call; retries = (record_of was).retries }) × (upper_of row ≡ 0) → p ≡ plan pooled slots call
      → leaves row (record { code = 1; label = 0; value = call.place }) p ≡ by (judged (record_of was) s why)
  begun row call why p none is e ep =
      rw (eq-eqb why 0 none)
      (λ i. record {
        task = (e.0 ∙ ap (λ (c : Call). record { call = c; retries = (record_of was).retries }) is) i;
        upper = e.1 i;
        reply = record { code = 1; label = 0; value = (is i).place };
        touch = (ep ∙ ap (plan pooled slots) is) i;
      })

  pub at_slot : (act w : ℕ) (late : Bool) (p : PlannedTouch) → (eqb act 1 && eqb s.operation 0) ≡ true → late ≡ late_word w
      → p ≡ cond late (loads_mark s.slot) (takes_slot s.slot s.label)
      → leaves was (record { code = 0; label = 0; value = 0 }) p ≡ by (settle_start (record_of was) s act w)
  unfolding settle_start
  at_slot act w late p both l e =
      let z = and-true (eqb act 1) (eqb s.operation 0) both in
      let n = e ∙ ap (λ (b : Bool). cond b (loads_mark s.slot) (takes_slot s.slot s.label)) l in
      rw (z.0, z.1) (ap (leaves was (record { code = 0; label = 0; value = 0 })) n)

  -- A start whose Anchor is loaded: refused by its own numbers and record, or settled.
  abbrev why : ℕ
  why = start_why pooled slots (call_of was) s

  abbrev loads_by : ℕ → Started
  loads_by w = loaded_by pooled slots (upper_of was) (record_of was) s w

  pub loaded-none : (n w : ℕ) (y : Reply) (p : PlannedTouch) → n ≡ why → (n ≡ 0 → ⊥) → y ≡ record { code = n; label = 0; value = 0 } → p ≡ refuses n
      → leaves was y p ≡ loads_by w
  unfolding record_of
  loaded-none n w y p e some ey ep =
      (λ i. leaves was (ey i) (ep i))
      ∙ rw (ne_eqb why 0 (λ z. some (e ∙ z))) (ap (λ (k : ℕ). leaves was (record { code = k; label = 0; value = 0 }) (refuses k)) e)

  pub loaded_on : (n w : ℕ) → n ≡ why → n ≡ 0 → by (settle_start (record_of was) s 1 w) ≡ loads_by w
  unfolding record_of
  loaded_on n w e none = rw (eq-eqb why 0 (sym e ∙ none))
