-- The rows' test, and the records'.
use Rattle.sound.proofs.tables_fit.Statement.{statement}
use Rattle.sound.proofs.tables_fit.Tie as tie

returns : tie.Need-returns
returns c = rw c.before.rows_fit-rows.ensures

pub tables_fit_spec : {M : Type 1} → statement M
tables_fit_spec = tie.close (tie.spec (λ _ _. tt) returns)
