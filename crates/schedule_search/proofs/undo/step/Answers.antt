-- The row and the words read, then the row moved on.
use Rattle.schedule_search.proofs.Stepping.{steps}
use Rattle.schedule_search.proofs.undo.step.Goals as goal

pub returns : goal.returns
returns c =
    steps _ _ _ _ _ _ _ _ _ _ _ _ _ _ _ _ _ _ _ c.call_of-r.ensures c.keep-saved.ensures c.move_row-o.ensures c.moves.ensures
