-- The tests are the definition's.
use Rattle.std.proofs.Common.{sym, ap, ◌∙◌}
use Rattle.model.specs.{Sides.is_empty, Sound.from1}
use Rattle.walk.specs.{declared.Way.Way, Ways.{beginning_of}}
use Rattle.walk.proofs.begin.Goals as goal

pub returns-then-a : goal.returns-then-a
unfolding beginning_of
returns-then-a c = rw (ap is_empty (sym c.unpack-a.ensures) ∙ c.if-a.true)

pub returns-then-from1 : goal.returns-then-from1
unfolding beginning_of
returns-then-from1 c = rw (
  ap is_empty (sym c.unpack-a.ensures) ∙ c.if-a.false,
  c.way_of-w.ensures,
  ap (λ (w : Way). from1 w.slots w.first) (sym c.way_of-w.ensures) ∙ sym c.from1.ensures ∙ c.if-from1.true,
)

pub returns-else-from1 : goal.returns-else-from1
unfolding beginning_of
returns-else-from1 c = rw (
  ap is_empty (sym c.unpack-a.ensures) ∙ c.if-a.false,
  ap (λ (w : Way). from1 w.slots w.first) (sym c.way_of-w.ensures) ∙ sym c.from1.ensures ∙ c.if-from1.false,
)
