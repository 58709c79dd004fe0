-- The test is the definition's.
use borrow.Author.Rules.{rules}
use Rattle.table.specs.Stacking.{stacking}
use Rattle.table.proofs.{Stack.long, stack_slots.Statement.statement}
use Rattle.table.proofs.stack_slots.Tie as tie

fill_stack_requires : tie.Need-fill_stack-requires
fill_stack_requires c κs = let a = c.before.before.before.args in long a.pooled a.slots _ c.before.if-pooled-last.true

returns : tie.Need-returns-then-pooled-last
unfolding stacking
returns c = let test = c.before.before.before.before in rw test.if-pooled-last.true c.before.before.fill_stack.ensures

returns-2 : tie.Need-returns-else-pooled-last
unfolding stacking
returns-2 c = rw c.if-pooled-last.false

pub stack_slots_spec : {M : Type 1} → statement M
stack_slots_spec = tie.close (tie.spec fill_stack_requires (λ c. search rules) returns returns-2)
