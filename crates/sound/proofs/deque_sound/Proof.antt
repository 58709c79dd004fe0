-- The first test that fails, or all.
use mathlib.Core.Path.{sym, ◌∙◌}
use borrow.Author.Tests.{le-leb, lt-leb}
use Rattle.sound.specs.Records.{deque_sound}
use Rattle.sound.proofs.deque_sound.Statement.{statement}
use Rattle.sound.proofs.deque_sound.Tie as tie

returns : tie.Need-returns-then-r-gt1
unfolding deque_sound
returns c =
    rw (lt-leb _ _ c.if-r-gt1.true)

returns-2 : tie.Need-returns-then-not-read_sound
unfolding deque_sound
returns-2 c =
    let side = c.before.before in
    rw (le-leb _ _ side.if-r-gt1.false, sym c.before.read_sound.ensures ∙ c.if-not-read_sound.true)

returns-3 : tie.Need-returns-then-not-deque_call
unfolding deque_sound
returns-3 c =
    let reads = c.before.before in
    let side = reads.before.before in
    rw (
      le-leb _ _ side.if-r-gt1.false,
      sym reads.before.read_sound.ensures ∙ reads.if-not-read_sound.false,
      sym c.before.deque_call.ensures ∙ c.if-not-deque_call.true,
    )

returns-4 : tie.Need-returns
unfolding deque_sound
returns-4 c =
    let call = c.before in
    let reads = call.before.before in
    let side = reads.before.before in
    c.deque_seen.ensures
    ∙ (rw (
      le-leb _ _ side.if-r-gt1.false,
      sym reads.before.read_sound.ensures ∙ reads.if-not-read_sound.false,
      sym call.before.deque_call.ensures ∙ call.if-not-deque_call.false,
    ))

pub deque_sound_spec : {M : Type 1} → statement M
deque_sound_spec =
    tie.close
    (tie.spec
    returns
    (λ _ _. tt)
    returns-2
    (λ _ _. tt)
    returns-3
    (λ _ _. tt)
    returns-4)
