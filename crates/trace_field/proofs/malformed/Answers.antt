-- One line, and the run is over; or nothing, where the line does not fit.
use Rattle.std.proofs.Common.{refl, sym}
use Rattle.trace_field.proofs.{Pages.breaks_short, AfterActs.break_page}
use Rattle.trace_field.proofs.malformed.Goals as goal

pub returns-then-not-fits : goal.returns-then-not-fits
returns-then-not-fits c = λ ws ls rs bs ms ns. sym (breaks_short _ (cc))

pub returns : goal.returns
returns c = λ ws ls rs bs ms ns. break_page _ _ _ _ (cc) refl c.write_line-to.ensures.put
