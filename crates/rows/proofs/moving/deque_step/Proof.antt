-- Refused by its number, or its place's contract and what is stored of it, by `deque-place`.
use mathlib.Core.{Path.{◌≡◌, sym, subst, ◌∙◌}, List.List}
use Prim.Native.Nat.{ℕ, suc, ◌<◌, ◌≤◌}
use native.Mathlib.Omega.{arith}
use borrow.Author.{Rules.rules}
use Rattle.model.specs.{declared.{Control.Control, Call.Call}, Tables.is_pooled, Refusals.record_refusal}
use Rattle.sound.proofs.{DequePlaces.deque-places, Refused.{no_call, unsound, passes}}
use Rattle.engine.proofs.InParts.{above}
use Rattle.layout.specs.Rows.{call_of}
use Rattle.rows.proofs.{InItsRow.{refuses, deque-place}, moving.deque_step.Statement.statement}
use Rattle.rows.proofs.moving.deque_step.Tie as tie

-- Control and record, read from their rows.
module _ (read : tie.After-control_of-c) where
  abbrev c₀ : Control
  c₀ = read.control_of-c.result

  abbrev called : tie.After-call_of-r
  called = read.before.before

  abbrev r₀ : Call
  r₀ = called.call_of-r.result

  abbrev row₀ : List ℕ
  row₀ = let s = called.before.before.before.before in s.args.row.now

  low-place : (call_of row₀).place ≤ 10 → r₀.place ≤ 10
  low-place low = subst (λ (t : Call). t.place ≤ 10) (sym called.call_of-r.ensures) low

some : {n : ℕ} → (n ≡ 0 → ⊥) → 0 < n
some busy = omega arith

at : (n : ℕ) {x : ℕ} → x ≡ suc n → x ≡ 0 → ⊥
at n e z = omega (arith, e, z)

returns : tie.Need-returns-then-r-eq0
returns c low labels marks next =
    let idle = c.before in
    let read = idle.before.before.before.before in
    refuses _ _ _ _ labels marks next _ _ read.control_of-c.ensures (called read).call_of-r.ensures 31 _
    (no_call _ _ _ idle.if-r-eq0.true) (λ (x : ◌≡◌ {A = ℕ} 31 0). omega (arith, x)) c.refuse.ensures

returns-2 : tie.Need-returns-then-not-deque_sound
returns-2 c low labels marks next =
    let busy = c.before in
    let told = busy.before.before in
    let read = told.before.before in
    refuses _ _ _ _ labels marks next _ _ read.control_of-c.ensures (called read).call_of-r.ensures 34 _
    (unsound _ _ _
    (sym (deque-places _ _ (low-place read low) (is_pooled (c₀ read)) (some busy.if-r-eq0.false))
    ∙ sym told.before.deque_sound.ensures ∙ told.if-not-deque_sound.true))
    (λ (x : ◌≡◌ {A = ℕ} 34 0). omega (arith, x)) c.refuse-then-not-deque_sound.ensures

-- Past the tests.
module _ (left : tie.Else-not-deque_sound) where
  abbrev read₀ : tie.After-control_of-c
  read₀ = left.before.before

  passed : ((r₀ read₀).place ≡ 0 → ⊥) → (call_of (row₀ read₀)).place ≤ 10 → record_refusal (is_pooled (c₀ read₀)) (c₀ read₀).slots (r₀ read₀) ≡ 0
  passed busy low =
      passes _ _ _ busy
      (sym (deque-places _ _ (low-place read₀ low) (is_pooled (c₀ read₀)) (some busy)) ∙ sym left.before.deque_sound.ensures
      ∙ left.if-not-deque_sound.false)

returns-3 : tie.Need-returns-in-0
returns-3 c low labels marks next =
    let place = c.before in
    let read = read₀ place.before in
    refuses _ _ _ _ labels marks next _ _ read.control_of-c.ensures (called read).call_of-r.ensures 31 _
    (no_call _ _ _ place.in-0.is) (λ (x : ◌≡◌ {A = ℕ} 31 0). omega (arith, x)) c.refuse-in-0.ensures

returns-4 : tie.Need-returns-in-1
returns-4 c low labels marks next =
    let made = c.before.before.before in
    let place = made.before in
    let left = place.before in
    let read = read₀ left in
    let put = c.put_deque.ensures in
    deque-place _ _ _ _ labels marks next _ _ read.control_of-c.ensures (called read).call_of-r.ensures _ _ _ _ labels marks next _
    put.1.1.1 1 _
    (passed left (at 0 place.in-1.is) low) place.in-1.is (low-place read low)
    (λ k. made.at1.ensures _ _ labels marks next k) put.1.0 put.1.1.0 put.0

returns-5 : tie.Need-returns-in-2
returns-5 c low labels marks next =
    let made = c.before.before.before in
    let place = made.before in
    let left = place.before in
    let read = read₀ left in
    let put = c.put_deque-in-2.ensures in
    deque-place _ _ _ _ labels marks next _ _ read.control_of-c.ensures (called read).call_of-r.ensures _ _ _ _ labels marks next _
    put.1.1.1 2 _
    (passed left (at 1 place.in-2.is) low) place.in-2.is (low-place read low)
    (λ k. made.at2.ensures _ _ labels marks next k) put.1.0
    put.1.1.0 put.0

returns-6 : tie.Need-returns-in-3
returns-6 c low labels marks next =
    let gone = c.before.before.before in
    let made = gone.before.before.before.before in
    let place = made.before.before.before in
    let left = place.before in
    let read = read₀ left in
    let put = c.put_deque-in-3.ensures in
    deque-place _ _ _ _ labels marks next _ _ read.control_of-c.ensures (called read).call_of-r.ensures _ _ _ _ labels marks next _
    put.1.1.1 3 _
    (passed left (at 2 place.in-3.is) low) place.in-3.is (low-place read low)
    (λ k. made.at3.ensures labels marks next k) put.1.0 put.1.1.0 put.0

returns-7 : tie.Need-returns-in-4
returns-7 c low labels marks next =
    let made = c.before.before.before in
    let place = made.before in
    let left = place.before in
    let read = read₀ left in
    let put = c.put_deque-in-4.ensures in
    deque-place _ _ _ _ labels marks next _ _ read.control_of-c.ensures (called read).call_of-r.ensures _ _ _ _ labels marks next _
    put.1.1.1 4 _
    (passed left (at 3 place.in-4.is) low) place.in-4.is (low-place read low)
    (λ k. made.at4.ensures _ _ labels marks next k) put.1.0
    put.1.1.0 put.0

returns-8 : tie.Need-returns-in-5
returns-8 c low labels marks next =
    let made = c.before.before.before in
    let place = made.before in
    let left = place.before in
    let read = read₀ left in
    let put = c.put_deque-in-5.ensures in
    deque-place _ _ _ _ labels marks next _ _ read.control_of-c.ensures (called read).call_of-r.ensures _ _ _ _ labels marks next _
    put.1.1.1 5 _
    (passed left (at 4 place.in-5.is) low) place.in-5.is (low-place read low)
    (λ k. made.at5.ensures labels marks next k) put.1.0 put.1.1.0 put.0

returns-9 : tie.Need-returns-in-6
returns-9 c low labels marks next =
    let made = c.before.before.before in
    let place = made.before in
    let left = place.before in
    let read = read₀ left in
    let put = c.put_deque-in-6.ensures in
    deque-place _ _ _ _ labels marks next _ _ read.control_of-c.ensures (called read).call_of-r.ensures _ _ _ _ labels marks next _
    put.1.1.1 6 _
    (passed left (at 5 place.in-6.is) low) place.in-6.is (low-place read low)
    (λ k. made.at6.ensures _ _ labels marks next k) put.1.0 put.1.1.0 put.0

returns-10 : tie.Need-returns-in-7
returns-10 c low labels marks next =
    let made = c.before.before.before in
    let place = made.before in
    let left = place.before in
    let read = read₀ left in
    let put = c.put_deque-in-7.ensures in
    deque-place _ _ _ _ labels marks next _ _ read.control_of-c.ensures (called read).call_of-r.ensures _ _ _ _ labels marks next _
    put.1.1.1 7 _
    (passed left (at 6 place.in-7.is) low) place.in-7.is (low-place read low)
    (λ k. made.at7.ensures labels marks next k) put.1.0 put.1.1.0 put.0

returns-11 : tie.Need-returns-in-8
returns-11 c low labels marks next =
    let made = c.before.before.before in
    let place = made.before in
    let left = place.before in
    let read = read₀ left in
    let put = c.put_deque-in-8.ensures in
    deque-place _ _ _ _ labels marks next _ _ read.control_of-c.ensures (called read).call_of-r.ensures _ _ _ _ labels marks next _
    put.1.1.1 8 _
    (passed left (at 7 place.in-8.is) low) place.in-8.is (low-place read low)
    (λ k. made.at8.ensures _ _ labels marks next k) put.1.0 put.1.1.0 put.0

returns-12 : tie.Need-returns-in-9
returns-12 c low labels marks next =
    let gone = c.before.before.before in
    let made = gone.before.before.before.before in
    let place = made.before.before.before in
    let left = place.before in
    let read = read₀ left in
    let put = c.put_deque-in-9.ensures in
    deque-place _ _ _ _ labels marks next _ _ read.control_of-c.ensures (called read).call_of-r.ensures _ _ _ _ labels marks next _
    put.1.1.1 9 _
    (passed left (at 8 place.in-9.is) low) place.in-9.is (low-place read low)
    (λ k. made.at9.ensures labels marks next k) put.1.0 put.1.1.0 put.0

returns-13 : tie.Need-returns-in-10
returns-13 c low labels marks next =
    let made = c.before.before.before in
    let place = made.before in
    let left = place.before in
    let read = read₀ left in
    let put = c.put_deque-in-10.ensures in
    deque-place _ _ _ _ labels marks next _ _ read.control_of-c.ensures (called read).call_of-r.ensures _ _ _ _ labels marks next _
    put.1.1.1 10 _
    (passed left (at 9 place.in-10.is) low) place.in-10.is (low-place read low)
    (λ k. made.at10.ensures _ _ labels marks next k) put.1.0
    put.1.1.0 put.0

-- No other place is met here.
returns-14 : tie.Need-returns-in_default
returns-14 c low labels marks next =
    let place = c.before in
    let read = read₀ place.before in
    let h = place.in_default.in_default-own.rest in
    let g = h.0.0.0.0 in
    let f = g.0.0.0.0 in
    let three = above (above (some f.0.0.1) f.0.1) f.1 in
    let seven = above (above (above (above three g.0.0.0.1) g.0.0.1) g.0.1) g.1 in
    let beyond = above (above (above (above seven h.0.0.0.1) h.0.0.1) h.0.1) h.1 in
    let within = low-place read low in
    absurd (omega (arith, beyond, within))

pub deque_step_spec : {M : Type 1} → statement M
deque_step_spec =
    tie.close
    (tie.spec
    (λ c κs. search rules)
    (λ c κs. search rules)
    (λ c κs. search rules)
    (λ c κs. search rules)
    returns
    (λ c κs. search rules)
    returns-2
    (λ c κs. search rules)
    (λ c κs. search rules)
    (λ c κs. search rules)
    (λ c κs. search rules)
    (λ c κs. search rules)
    (λ c κs. search rules)
    (λ c κs. search rules)
    (λ c κs. search rules)
    (λ c κs. search rules)
    (λ c κs. search rules)
    (λ c κs. search rules)
    (λ c κs. search rules)
    (λ c κs. search rules)
    (λ c κs. search rules)
    (λ c κs. search rules)
    (λ c κs. search rules)
    (λ c κs. search rules)
    (λ c κs. search rules)
    (λ c κs. search rules)
    (λ c κs. search rules)
    (λ c κs. search rules)
    (λ c κs. search rules)
    returns-3
    returns-4
    returns-5
    (λ c. search rules)
    (λ c. search rules)
    returns-6
    returns-7
    (λ c. search rules)
    (λ c. search rules)
    returns-8
    returns-9
    (λ c. search rules)
    (λ c. search rules)
    returns-10
    returns-11
    (λ c. search rules)
    (λ c. search rules)
    returns-12
    returns-13
    returns-14)
