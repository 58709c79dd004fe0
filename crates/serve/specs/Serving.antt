-- An opening and a list of operations after it: what is answered and left, and what the theorems on histories say of it.
use Rattle.std.specs.Prelude.{Err, Ok}
use mathlib.Core.{Bool.{Bool, true, cond}, List.{List, [], ◌∷◌, ◌++◌}, Path.◌≡◌}
use Rattle.std.specs.Prelude.{ℕ}
use lib.{Dec.eqb, Seq.sets, ListN.{length, set}}
use Rattle.model.specs.Outcomes.{Opening}
use Rattle.model.specs.{Tables.Queue, Retries.SumIsOld}
use Rattle.model.specs.{Lists.zeroed, Calls.{OpenDone, open_as, opening_code}}
use Rattle.model.specs.History.{Request, Event, run, final, Linearized, NeverUnsound, NoFreeSlotTrue}
use Rattle.stock_model.specs.Accounts.{Accounted, StockSum}
use Rattle.layout.specs.Rows.{queue_in, uppers_of, writes_row}
use Rattle.serve.specs.{declared.ServeReply.ServeReply, Requests.{requests_of, replies_of, room}}

-- All that is lent but the requests: the queue, the upper halves of the labels' words in the records, which are in no field, and
-- the memory of the replies.
pub record State : Type 0 where
  pub queue : Queue
  pub uppers : List ℕ
  pub replies : List ℕ

abbrev pub state_in : List ℕ → List (List ℕ) → List ℕ → List ℕ → List ℕ → List ℕ → List ℕ → List ℕ → State
state_in control rows replies lefts rights labels marks next =
    record { queue = queue_in control rows lefts rights labels marks next; uppers = uppers_of rows; replies = replies }

-- How many operations follow an opening that answers `code`, by the lengths of requests and replies.
abbrev pub count_after : ℕ → ℕ → ℕ → ℕ
count_after code requests replies = cond (eqb code 0) (room requests replies) 0

unfoldable pub uppers_after : List ℕ → List Event → List ℕ
uppers_after us [] = us
uppers_after us (e ∷ es) = uppers_after (cond (writes_row e.op e.outcome) (set us e.task 0) us) es

-- A list of operations, whose replies are stored from word n on.
unfoldable pub served : ℕ → State → List Request → State
served n s os = record {
  queue = final s.queue os;
  uppers = uppers_after s.uppers (run s.queue os);
  replies = sets s.replies n (replies_of (run s.queue os));
}

-- From the opened queue q exactly the list os was carried out: its replies, and every word that is lent. And that list is linearized,
-- with no operation refused as unsound; the tasks' counts add up to the failed changes; every label is accounted for, and all of them
-- in one sum (#114); wherever in it *no slot* is answered, every slot is in use.
pub record CarriedOut (pooled : Bool) (tasks : ℕ) (q : Queue) (os : List Request) (before after : State) : Type 0 where
  pub queue : after.queue ≡ final q os
  pub uppers : after.uppers ≡ zeroed tasks 0 before.uppers
  pub answers : after.replies ≡ sets before.replies 0 (replies_of (run q os))
  pub linearized : Linearized q os
  pub sound : NeverUnsound q os
  pub counts : SumIsOld q os
  pub accounts : Accounted q os
  pub stock : StockSum q os
  pub truthful : pooled ≡ true → (done left : List Request) → os ≡ done ++ left → NoFreeSlotTrue q done

-- A refused opening changes nothing. After an accepted one as many requests are carried out as there are and have room for a reply.
abbrev pub FollowsOn : Bool → ℕ → Opening → Queue → List ℕ → State → State → ℕ → Type 0
FollowsOn pooled tasks (Err refusal) q requests before after count = (count ≡ 0) × (after ≡ before)
FollowsOn pooled tasks (Ok u) q requests before after count =
    (count ≡ room (length requests) (length before.replies)) × CarriedOut pooled tasks q (requests_of count requests) before after

abbrev pub Follows : Bool → ℕ → OpenDone → List ℕ → State → State → ℕ → Type 0
Follows pooled tasks o requests before after count = FollowsOn pooled tasks o.outcome o.queue requests before after count

pub record Serves (pooled : Bool) (tasks slots tag : ℕ) (requests : List ℕ) (before after : State) (reply : ServeReply) : Type 0 where
  pub opening : reply.code ≡ opening_code (open_as pooled before.queue tasks slots tag).outcome
  pub follows : Follows pooled tasks (open_as pooled before.queue tasks slots tag) requests before after reply.served
