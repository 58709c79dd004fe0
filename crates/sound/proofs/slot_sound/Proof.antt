-- The first test that fails, or all.
use mathlib.Core.Path.{sym, ◌∙◌}
use borrow.Author.Tests.{eq-eqb, ne_eqb, le-leb, lt-leb}
use Rattle.sound.specs.Records.{slot_sound}
use Rattle.sound.proofs.slot_sound.Statement.{statement}
use Rattle.sound.proofs.slot_sound.Tie as tie

returns : tie.Need-returns-then-r-gt1
unfolding slot_sound
returns c =
    rw (lt-leb _ _ c.if-r-gt1.true)

returns-2 : tie.Need-returns-then-not-read_sound
unfolding slot_sound
returns-2 c =
    let side = c.before.before in
    rw (le-leb _ _ side.if-r-gt1.false, sym c.before.read_sound.ensures ∙ c.if-not-read_sound.true)

returns-3 : tie.Need-returns-then-r-ne0
unfolding slot_sound
returns-3 c =
    let reads = c.before.before in
    let side = reads.before.before in
    rw (le-leb _ _ side.if-r-gt1.false, sym reads.before.read_sound.ensures ∙ reads.if-not-read_sound.false, ne_eqb _ _ c.if-r-ne0.true)

returns-4 : tie.Need-returns-then-not-anchor_sound
unfolding slot_sound
returns-4 c =
    let finishing = c.before.before in
    let reads = finishing.before.before in
    let side = reads.before.before in
    rw (
      le-leb _ _ side.if-r-gt1.false,
      sym reads.before.read_sound.ensures ∙ reads.if-not-read_sound.false,
      eq-eqb _ _ finishing.if-r-ne0.false,
      sym c.before.anchor_sound.ensures ∙ c.if-not-anchor_sound.true,
    )

returns-5 : tie.Need-returns
unfolding slot_sound
returns-5 c =
    let seen = c.before in
    let finishing = seen.before.before in
    let reads = finishing.before.before in
    let side = reads.before.before in
    c.slot_call.ensures
    ∙ (rw (
      le-leb _ _ side.if-r-gt1.false,
      sym reads.before.read_sound.ensures ∙ reads.if-not-read_sound.false,
      eq-eqb _ _ finishing.if-r-ne0.false,
      sym seen.before.anchor_sound.ensures ∙ seen.if-not-anchor_sound.false,
    ))

pub slot_sound_spec : {M : Type 1} → statement M
slot_sound_spec =
    tie.close
    (tie.spec
    returns
    (λ _ _. tt)
    returns-2
    returns-3
    (λ _ _. tt)
    returns-4
    (λ _ _. tt)
    returns-5)
