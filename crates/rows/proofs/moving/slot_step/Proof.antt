-- Refused by its number, or its place's contract and what is stored of it, by `at_its_place`.
use mathlib.Core.{Path.{◌≡◌, sym, subst, ◌∙◌}, List.{List, []}}
use Prim.Native.Nat.{ℕ, ◌<◌, ◌≤◌}
use native.Mathlib.{Nat.le_antisymm, Omega.arith}
use borrow.Author.{Rules.rules}
use Rattle.model.specs.{declared.{Control.Control, Call.Call}, Tables.{is_pooled, tables_of}, Refusals.record_refusal}
use Rattle.sound.proofs.{SlotPlaces.slot_places, Refused.{unsound, passes}}
use Rattle.engine.proofs.InParts.{above, below_18}
use Rattle.layout.specs.Rows.{control_of, call_of, record_of}
use Rattle.layout.proofs.Rows.{counting}
use Rattle.rows.proofs.{InItsRow.{in_layers, refuses, at_its_place}}
use Rattle.rows.proofs.moving.slot_step.Statement.{statement}
use Rattle.rows.proofs.moving.slot_step.Tie as tie

-- Control and record, read from their rows.
module _ (read : tie.After-control_of-c) where
  abbrev c₀ : Control
  c₀ = read.control_of-c.result

  abbrev called : tie.After-call_of-r
  called = read.before.before

  abbrev r₀ : Call
  r₀ = called.call_of-r.result

  abbrev row₀ : List ℕ
  row₀ = let s = called.before.before.before.before in s.before.args.row.now

  abbrev words₀ : List ℕ
  words₀ = let s = called.before.before.before.before in s.before.args.control.now

  high-place : 10 < (call_of row₀).place → 10 < r₀.place
  high-place high = subst (λ (t : Call). 10 < t.place) (sym called.call_of-r.ensures) high

some : {n : ℕ} → 10 < n → n ≡ 0 → ⊥
some high zero = omega arith

returns : tie.Need-returns-then-not-slot_sound
returns c high lefts rights =
    let told = c.before.before in
    let read = told.before.before in
    refuses _ _ lefts rights _ _ _ _ _ read.control_of-c.ensures (called read).call_of-r.ensures 34 _
    (unsound _ _ _ (sym (slot_places _ _ _ (high-place read high)) ∙ sym told.slot_sound.ensures ∙ c.before.if-not-slot_sound.true))
    (λ (x : ◌≡◌ {A = ℕ} 34 0). omega (arith, x)) c.refuse.ensures

-- Past the refusals.
module _ (left : tie.Else-not-slot_sound) where
  abbrev read₀ : tie.After-control_of-c
  read₀ = left.before.before.before

  module _ (high : 10 < (call_of (row₀ read₀)).place) where
    passed : record_refusal (is_pooled (c₀ read₀)) (c₀ read₀).slots (r₀ read₀) ≡ 0
    passed =
        passes _ _ _ (some (high-place read₀ high))
        (sym (slot_places _ _ _ (high-place read₀ high)) ∙ sym left.before.slot_sound.ensures ∙ left.if-not-slot_sound.false)

    most : (r₀ read₀).place ≤ 17
    most = below_18 (tables_of (c₀ read₀) [] [] [] [] []) (counting (r₀ read₀) 0) passed

returns-2 : tie.Need-returns-in-11
returns-2 c high lefts rights =
    let rest = c.before.before.before in
    let gone = rest.before.before.before in
    let made = gone.before.before in
    let place = made.before.before in
    let left = place.before in
    let read = read₀ left in
    let put = in_layers (control_of (words₀ read)) (record_of (row₀ read)) rest.put_rest.ensures c.put_deque.ensures in
    at_its_place _ _ lefts rights _ _ _ _ _ read.control_of-c.ensures (called read).call_of-r.ensures _ _ lefts rights _ _ _ _
    put.1.1.1 11 _
    (passed left high) place.in-11.is (λ k. made.at11.ensures lefts rights _ k) put.1.0 put.1.1.0 put.0

returns-3 : tie.Need-returns-in-12
returns-3 c high lefts rights =
    let rest = c.before.before.before in
    let made = rest.before.before.before in
    let place = made.before in
    let left = place.before in
    let read = read₀ left in
    let put = in_layers (control_of (words₀ read)) (record_of (row₀ read)) rest.put_rest-in-12.ensures c.put_deque-in-12.ensures in
    at_its_place _ _ lefts rights _ _ _ _ _ read.control_of-c.ensures (called read).call_of-r.ensures _ _ lefts rights _ _ _ _
    put.1.1.1 12 _
    (passed left high) place.in-12.is (λ k. made.at12.ensures lefts rights _ _ _ k) put.1.0 put.1.1.0 put.0

returns-4 : tie.Need-returns-in-13
returns-4 c high lefts rights =
    let rest = c.before.before.before in
    let made = rest.before.before.before in
    let place = made.before in
    let left = place.before in
    let read = read₀ left in
    let put = in_layers (control_of (words₀ read)) (record_of (row₀ read)) rest.put_rest-in-13.ensures c.put_deque-in-13.ensures in
    at_its_place _ _ lefts rights _ _ _ _ _ read.control_of-c.ensures (called read).call_of-r.ensures _ _ lefts rights _ _ _ _
    put.1.1.1 13 _
    (passed left high) place.in-13.is (λ k. made.at13.ensures lefts rights _ _ k) put.1.0 put.1.1.0 put.0

returns-5 : tie.Need-returns-in-14
returns-5 c high lefts rights =
    let rest = c.before.before.before in
    let gone = rest.before.before.before in
    let made = gone.before.before.before.before in
    let place = made.before.before.before in
    let left = place.before in
    let read = read₀ left in
    let put = in_layers (control_of (words₀ read)) (record_of (row₀ read)) rest.put_rest-in-14.ensures c.put_deque-in-14.ensures in
    at_its_place _ _ lefts rights _ _ _ _ _ read.control_of-c.ensures (called read).call_of-r.ensures _ _ lefts rights _ _ _ _
    put.1.1.1 14 _
    (passed left high) place.in-14.is (λ k. made.at14.ensures lefts rights _ k) put.1.0 put.1.1.0 put.0

returns-6 : tie.Need-returns-in-15
returns-6 c high lefts rights =
    let rest = c.before.before.before in
    let made = rest.before.before.before in
    let place = made.before in
    let left = place.before in
    let read = read₀ left in
    let put = in_layers (control_of (words₀ read)) (record_of (row₀ read)) rest.put_rest-in-15.ensures c.put_deque-in-15.ensures in
    at_its_place _ _ lefts rights _ _ _ _ _ read.control_of-c.ensures (called read).call_of-r.ensures _ _ lefts rights _ _ _ _
    put.1.1.1 15 _
    (passed left high) place.in-15.is (λ k. made.at15.ensures lefts rights _ _ _ k) put.1.0 put.1.1.0 put.0

returns-7 : tie.Need-returns-in-16
returns-7 c high lefts rights =
    let rest = c.before.before.before in
    let gone = rest.before.before.before in
    let made = gone.before.before in
    let place = made.before.before in
    let left = place.before in
    let read = read₀ left in
    let put = in_layers (control_of (words₀ read)) (record_of (row₀ read)) rest.put_rest-in-16.ensures c.put_deque-in-16.ensures in
    at_its_place _ _ lefts rights _ _ _ _ _ read.control_of-c.ensures (called read).call_of-r.ensures _ _ lefts rights _ _ _ _
    put.1.1.1 16 _
    (passed left high) place.in-16.is (λ k. made.at16.ensures lefts rights _ _ k) put.1.0 put.1.1.0 put.0

returns-8 : tie.Need-returns-in_default
returns-8 c high lefts rights =
    let rest = c.before.before.before in
    let made = rest.before.before.before in
    let place = made.before in
    let left = place.before in
    let read = read₀ left in
    let put = in_layers (control_of (words₀ read)) (record_of (row₀ read)) rest.put_rest-in_default.ensures c.put_deque-in_default.ensures in
    let h = place.in_default.in_default-own.rest in
    let g = h.0.0.0.0 in
    let thirteen = above (above (high-place read high) g.0.1) g.1 in
    let last = above (above (above (above thirteen h.0.0.0.1) h.0.0.1) h.0.1) h.1 in
    at_its_place _ _ lefts rights _ _ _ _ _ read.control_of-c.ensures (called read).call_of-r.ensures _ _ lefts rights _ _ _ _
    put.1.1.1 17 _
    (passed left high) (le_antisymm (most left high) last) (λ k. made.at17.ensures lefts rights _ _ _ k) put.1.0 put.1.1.0 put.0

pub slot_step_spec : {M : Type 1} → statement M
slot_step_spec =
    tie.close
    (tie.spec
    (λ c κs. search rules)
    (λ c κs. search rules)
    (λ c κs. search rules)
    (λ c κs. search rules)
    returns
    (λ c κs. search rules)
    (λ c κs. search rules)
    (λ c κs. search rules)
    (λ c κs. search rules)
    (λ c κs. search rules)
    (λ c κs. search rules)
    (λ c κs. search rules)
    (λ c κs. search rules)
    (λ c κs. search rules)
    (λ c κs. search rules)
    (λ c κs. search rules)
    (λ c κs. search rules)
    (λ c κs. search rules)
    (λ c κs. search rules)
    (λ c κs. search rules)
    (λ c κs. search rules)
    (λ c κs. search rules)
    (λ c κs. search rules)
    (λ c κs. search rules)
    (λ c κs. search rules)
    (λ c κs. search rules)
    (λ c. search rules)
    (λ c. search rules)
    returns-2
    returns-3
    (λ c. search rules)
    returns-4
    (λ c. search rules)
    (λ c. search rules)
    returns-5
    returns-6
    (λ c. search rules)
    returns-7
    returns-8)
