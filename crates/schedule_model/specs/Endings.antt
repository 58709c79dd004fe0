-- How a schedule ends, as the code says it, and the number that the caller reads.
use Rattle.std.specs.Prelude.{ℕ}
use Rattle.schedule_model.specs.declared.Ending.{Ending, TheVariants.{Answered, Cut, Refused, NoMore}}
use Rattle.schedule_model.specs.Schedules.{answered_both, was_cut, was_refused, said_no_more}

abbrev pub number_of : Ending → ℕ
number_of Answered = answered_both
number_of Cut = was_cut
number_of Refused = was_refused
number_of NoMore = said_no_more
