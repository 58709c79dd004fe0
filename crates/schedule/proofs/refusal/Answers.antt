-- By control and lengths, then by the walk and the tests on the two calls.
use Rattle.model.specs.Tables.{Tables, tables_of}
use Rattle.schedule.proofs.Handing.{found, refused-before, refused-after}
use Rattle.schedule.proofs.refusal.Goals as goal
use Rattle.schedule.proofs.refusal.Goals.{After-unfit_tables-why}

-- The arguments, in the model's terms.
module _ (c : After-unfit_tables-why) where
  abbrev q : Tables
  q = tables_of c.args.c c.args.lefts.now c.args.rights.now c.args.labels.now c.args.marks.now c.args.next.now

pub returns-then-why-ne0 : goal.returns-then-why-ne0
returns-then-why-ne0 c rs these =
    let t = q (goal.at.returns-then-why-ne0 c).After-unfit_tables-why in
    let e = found t rs c.args.records c.args.a c.args.b c.args.given.now these _ _ (c.of-t.ensures c.args.c) c.unfit_tables-why.ensures in
    refused-before t rs c.args.records c.args.a c.args.b c.args.given.now these _ e c.if-why-ne0.true

pub returns : goal.returns
returns c rs these =
    let t = q (goal.at.returns c).After-unfit_tables-why in
    let e = found t rs c.args.records c.args.a c.args.b c.args.given.now these _ _ (c.of-t.ensures c.args.c) c.unfit_tables-why.ensures in
    refused-after t rs c.args.records c.args.a c.args.b c.args.given.now these _ _ _ e c.if-why-ne0.false
    (c.waiting-walked.ensures t.labels t.marks t.next) c.unfit.ensures
