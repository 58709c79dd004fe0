-- By the word: 0, neither 0 nor 1, or 1, where the length decides.
use mathlib.Core.Path.{◌≡◌}
use native.Mathlib.Omega.{arith}
use borrow.Author.Tests.{eq-eqb, ne_eqb, le-leb, lt-leb, lt-ltb, le-ltb}
use Rattle.sound.proofs.admission.next_refusal.Statement.{statement}
use Rattle.sound.proofs.admission.next_refusal.Tie as tie

returns : tie.Need-returns-then-pooled-eq0
returns c =
    let pooled = c.before.args.pooled in
    let zero : pooled ≡ 0 = c.if-pooled-eq0.true in
    rw (le-leb pooled 1 (omega arith), ne_eqb pooled 1 (omega arith))

returns-2 : tie.Need-returns-then-pooled-ne1
returns-2 c =
    let left = c.before in
    let pooled = left.before.args.pooled in
    let some : pooled ≡ 0 → ⊥ = left.if-pooled-eq0.false in
    let more : pooled ≡ 1 → ⊥ = c.if-pooled-ne1.true in
    rw (lt-leb pooled 1 (omega arith))

returns-3 : tie.Need-returns-then-slots-next
returns-3 c =
    let left = c.before in
    let pooled = left.before.before.args.pooled in
    let one : pooled ≡ 1 = left.if-pooled-ne1.false in
    rw (le-leb pooled 1 (omega arith), eq-eqb pooled 1 one, lt-ltb _ _ c.if-slots-next.true)

returns-4 : tie.Need-returns-else-slots-next
returns-4 c =
    let left = c.before in
    let pooled = left.before.before.args.pooled in
    let one : pooled ≡ 1 = left.if-pooled-ne1.false in
    rw (le-leb pooled 1 (omega arith), eq-eqb pooled 1 one, le-ltb _ _ c.if-slots-next.false)

pub next_refusal_spec : {M : Type 1} → statement M
next_refusal_spec = tie.close (tie.spec returns returns-2 returns-3 returns-4)
