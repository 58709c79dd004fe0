-- A label whose place among those after it is in the list is listed twice.
use Rattle.sheet.proofs.Turns.{twice-here, twice-on, twice_end}
use Rattle.sheet.proofs.form.listed_twice.Goals as goal

pub returns-then-place_from-listed : goal.returns-then-place_from-listed
returns-then-place_from-listed c =
    twice-here c.args.listed.now c.loop-i.i c.place_from.result c.loop-i-test.true c.loop-i.invariant c.place_from.ensures c.if-place_from-listed.true

pub loop-i-preserved : goal.loop-i-preserved
loop-i-preserved c =
    twice-on c.args.listed.now c.loop-i.i c.place_from.result c.loop-i-test.true c.loop-i.invariant c.place_from.ensures c.if-place_from-listed.false

pub returns : goal.returns
returns c = twice_end c.args.listed.now c.loop-i.i c.loop-i-test.false c.loop-i.invariant
