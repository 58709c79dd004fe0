-- A queue that is held by value.
use Rattle.model.specs.Outcomes.{Outcome}
use Rattle.model.specs.{Tables.{Queue, queue_of}, Calls.Done}
use Rattle.executive.specs.declared.held.Held.{Held}

abbrev pub queue_in : Held → Queue
queue_in h = queue_of h.control h.records h.lefts h.rights h.labels h.marks h.next

-- What a start or step leaves, and its outcome.
abbrev pub done_of : Held → Outcome → Done
done_of h o = record { queue = queue_in h; outcome = o }
