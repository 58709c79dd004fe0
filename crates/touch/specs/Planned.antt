-- What C is told of a touch.
use Rattle.std.specs.Prelude.{cond, ℕ}
use Rattle.decide.specs.declared.touched.LinkWord.{LinkWord}
use Rattle.threads_model.specs.declared.PlannedTouch.{PlannedTouch}
use Rattle.threads_model.specs.Split.{refuses, loads_anchor, swaps_anchor, loads_link, swaps_link, puts_link, takes_label, loads_head}
use Rattle.threads_model.specs.{Split.{swaps_head, draws_slot, loads_next, stores_next}, Starts.{takes_slot, loads_mark}}
use Rattle.touch.specs.declared.planned.Touch.{Touch, TheVariants.{Refused, LoadAnchor, SwapAnchor, LoadLink, SwapLink, PutLink, TakeLabel}}
use Rattle.touch.specs.declared.planned.Touch.TheVariants.{LoadHead, SwapHead, DrawSlot, LoadNext, StoreNext, TakeSlot, LoadMark}

-- The side to which a link word leads.
abbrev pub toward : LinkWord → ℕ
toward link = cond link.right 1 0

abbrev pub planned_of : Touch → PlannedTouch
planned_of (Refused why) = refuses why
planned_of LoadAnchor = loads_anchor
planned_of (SwapAnchor expected word) = swaps_anchor expected word
planned_of (LoadLink link) = loads_link (toward link) link.slot
planned_of (SwapLink link expected word) = swaps_link (toward link) link.slot expected word
planned_of (PutLink link end) = puts_link (toward link) link.slot end
planned_of (TakeLabel slot) = takes_label slot
planned_of LoadHead = loads_head
planned_of (SwapHead expected word) = swaps_head expected word
planned_of (DrawSlot expected word slot label) = draws_slot expected word slot label
planned_of (LoadNext slot) = loads_next slot
planned_of (StoreNext slot next) = stores_next slot next
planned_of (TakeSlot slot label) = takes_slot slot label
planned_of (LoadMark slot) = loads_mark slot
