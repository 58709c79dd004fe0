-- One label more.
use Rattle.std.proofs.Common.{ap, ◌∙◌, ℕ, ◌%◌, arith}
use Rattle.model.specs.Tables.{with_mark}
use Rattle.find.proofs.Sieve.{one_more}
use Rattle.find.proofs.sift.Goals as goal

pub loop-x-init : goal.loop-x-init
loop-x-init c = (c.requires, λ j h. absurd (omega arith))

pub loop-x-preserved : goal.loop-x-preserved
loop-x-preserved c = one_more c.args.wanted.now c.loop-x.sieve c.set_mark.new.marks c.loop-x.x-index c.loop-x.invariant
    (c.set_mark.ensures ∙ ap (λ (v : ℕ). with_mark c.loop-x.sieve (v % 1024) 1) c.from.ensures)

pub returns : goal.returns
returns c = record { size = c.loop-x.invariant.0; passes = λ i h. c.loop-x.invariant.1 i (omega arith) }
