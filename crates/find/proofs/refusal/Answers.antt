-- Tests made one after the other.
use mathlib.Core.Path.{sym, ◌∙◌}
use borrow.Author.Tests.{lt-ltb, le-ltb}
use Rattle.sound.proofs.Measured.{measured_unpooled}
use Rattle.find.specs.Looked.{refusal_before}
use Rattle.find.proofs.refusal.Goals as goal

pub returns-then-not-control_sound : goal.returns-then-not-control_sound
unfolding refusal_before
returns-then-not-control_sound c next = rw (sym c.control_sound.ensures ∙ c.if-not-control_sound.true)

pub returns-then-wanted-gt32 : goal.returns-then-wanted-gt32
unfolding refusal_before
returns-then-wanted-gt32 c next = rw (sym c.control_sound.ensures ∙ c.if-not-control_sound.false, lt-ltb _ _ c.if-wanted-gt32.true)

pub returns-then-not-rows_fit : goal.returns-then-not-rows_fit
unfolding refusal_before
returns-then-not-rows_fit c next =
    let fit = measured_unpooled c.args.c c.args.c.slots _ _ _ _ next _ _ (c.of-t.ensures c.args.c) in
    rw (
      sym c.control_sound.ensures ∙ c.if-not-control_sound.false,
      le-ltb _ _ c.if-wanted-gt32.false,
      sym fit ∙ sym c.rows_fit.ensures ∙ c.if-not-rows_fit.true,
    )

pub returns : goal.returns
unfolding refusal_before
returns c next =
    let fit = measured_unpooled c.args.c c.args.c.slots _ _ _ _ next _ _ (c.of-t.ensures c.args.c) in
    rw (
      sym c.control_sound.ensures ∙ c.if-not-control_sound.false,
      le-ltb _ _ c.if-wanted-gt32.false,
      sym fit ∙ sym c.rows_fit.ensures ∙ c.if-not-rows_fit.false,
    )
