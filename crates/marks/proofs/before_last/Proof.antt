-- Before word k the marks of the slots below 64 k are counted.
use mathlib.Core.Path.{◌≡◌, refl, ap, ◌∙◌, sym}
use Prim.Native.Nat.{ℕ, ◌≤◌, ◌<◌, ◌+◌, ◌-◌, ◌*◌, ◌/◌}
use native.Mathlib.Omega.{arith}
use lib.{Count.ones, ListN.{get_or, get_or-eq_default}}
use borrow.Author.{Rules.rules, Tests.ne_eqb}
use Rattle.model.specs.Report.{taken_slots}
use Rattle.marks.specs.Masked.{masked_word}
use Rattle.marks.proofs.{Ones.{marks, whole-step, blank, marks_le}, before_last.Statement.statement}
use Rattle.marks.proofs.before_last.Tie as tie

abbrev invariant-loop : tie.invariant-loop-k
invariant-loop n slots ws end sum₀ k₀ sum k = (1 ≤ k) × (k ≤ slots / 64) × (sum ≡ marks ws (64 * k - 1))

abbrev decreases-loop : tie.decreases-loop-k
decreases-loop n slots ws end sum₀ k₀ sum k = slots / 64 - k

loop-holds : tie.Need-loop-k-init invariant-loop decreases-loop
unfolding taken_slots
loop-holds c = (omega arith, omega arith, c.before.before.requires.1)

-- Of a word between the first and the last every bit counts.
between : (w k slots : ℕ) → 1 ≤ k → k < slots / 64 → masked_word w k slots ≡ w
between w k slots first last = rw (ne_eqb k 0 (λ z. omega arith), ne_eqb k (slots / 64) (λ z. omega arith)) refl

-- A word's marks beside those before it, and no more than there are slots.
module _ (c : tie.After-masked invariant-loop decreases-loop) where
  abbrev turn : tie.At-loop-k invariant-loop decreases-loop
  turn = c.before.before.before

  abbrev words : tie.Start invariant-loop decreases-loop
  words = turn.before.before.before

  word : c.masked.result ≡ get_or words.args.marks.now turn.loop-k.k 0
  word = c.masked.ensures ∙ between _ turn.loop-k.k words.args.slots turn.loop-k.invariant.0 (omega arith)

  next : turn.loop-k.sum + ones c.masked.result ≡ marks words.args.marks.now (64 * (turn.loop-k.k + 1) - 1)
  next =
      let ws = words.args.marks.now in
      (λ i. turn.loop-k.invariant.2 i + ones (word i))
      ∙ sym (whole-step ws turn.loop-k.k turn.loop-k.invariant.0 (c.before.shared_slice_known-in-loop-k-1.given turn.loop-k.k).fits)

  room : turn.loop-k.sum + ones c.masked.result ≤ words.args.slots
  room = omega (arith, next, marks_le words.args.marks.now (64 * (turn.loop-k.k + 1) - 1))

loop-again : tie.Need-loop-k-preserved invariant-loop decreases-loop
loop-again c = (omega arith, omega arith, next c)

returns : tie.Need-returns invariant-loop decreases-loop
unfolding taken_slots
returns c =
    let l = c.before.loop-k in
    let a = c.before.before.before.before.args in
    let ws = a.marks.now in
    let end : l.k + (a.slots / 64 - l.k) ≡ a.slots / 64 = omega arith in
    l.invariant.2
    ∙ sym (blank ws l.k (a.slots / 64 - l.k) l.invariant.0 (λ j h g. get_or-eq_default ws 0 (omega arith)))
    ∙ ap (λ (k : ℕ). marks ws (64 * k - 1)) end

pub before_last_spec : {M : Type 1} → statement M
before_last_spec =
    tie.close
    (tie.spec
    invariant-loop
    decreases-loop
    (λ _ _. tt)
    loop-holds
    (λ c. search rules)
    (λ c. search rules)
    (λ c κs. omega arith)
    (λ c. omega (arith, room c))
    (λ c. omega (arith, room c))
    (λ c. omega arith)
    (λ c. omega arith)
    loop-again
    returns)
