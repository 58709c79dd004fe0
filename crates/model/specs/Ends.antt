-- Which outcomes are no refusals, and which of them end a call: pushed, empty, popped and no slot.
use Rattle.std.specs.Prelude.{Err, Ok}
use Rattle.std.specs.Prelude.{Bool, true, false, not}
use Rattle.model.specs.declared.Answer.{Answer, TheVariants.{Running, Pushed, Empty, Popped, NoFreeSlot}}
use Rattle.model.specs.Outcomes.{Outcome}

abbrev pub answer_ends : Answer → Bool
answer_ends (Running n) = false
answer_ends Pushed = true
answer_ends Empty = true
answer_ends (Popped e) = true
answer_ends NoFreeSlot = true

abbrev pub is_moved : Outcome → Bool
is_moved (Err refusal) = false
is_moved (Ok a) = true

abbrev pub ends_call : Outcome → Bool
ends_call (Err refusal) = false
ends_call (Ok a) = answer_ends a

-- Carried out, and the call goes on.
abbrev pub is_running : Outcome → Bool
is_running (Err refusal) = false
is_running (Ok a) = not (answer_ends a)
