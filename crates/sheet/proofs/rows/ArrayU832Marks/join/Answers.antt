-- One turn of the loop is one element of the sweep.
use Rattle.std.proofs.Common.{sym, ◌∙◌}
use Rattle.sheet.specs.Squares.{ored, join_row}
use Rattle.sheet.proofs.Turns.{sweep-on, sweep_end}
use Rattle.sheet.proofs.rows.ArrayU832Marks.join.Goals as goal

pub loop-j-preserved : goal.loop-j-preserved
loop-j-preserved c = sym (sweep-on 32 c.loop-j.j 0 (ored c.args.via) _ c.loop-j-test.true) ∙ c.loop-j.invariant

pub returns : goal.returns
unfolding join_row
returns c = sym (sweep_end 32 c.loop-j.j 0 (ored c.args.via) _ c.loop-j-test.false) ∙ c.loop-j.invariant
