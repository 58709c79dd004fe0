-- A start in words, and what its settlement leaves and answers.
use mathlib.Core.{Bool.cond, List.List}
use Rattle.std.specs.Prelude.{ℕ, ◌%◌, ◌^◌}
use lib.{Dec.eqb, ListN.get_or}
use Rattle.model.specs.Outcomes.{Refused}
use Rattle.model.specs.{declared.{Record.Record, Reply.Reply}, Calls.reply_of}
use Rattle.model.specs.Ends.{is_moved}
use Rattle.threads_model.specs.{declared.{PlannedTouch.PlannedTouch, Start.Start}, Split.{refuses, plan}}
use Rattle.threads_model.specs.Starts.{start_why, Begins, touches, answers, settle_start}

-- Four words: operation, side, slot, label; a label has 32 bits.
unfoldable pub start_of : List ℕ → Start
start_of ws = record { operation = get_or ws 0 0; side = get_or ws 1 0; slot = get_or ws 2 0; label = get_or ws 3 0 % 2 ^ 32 }

-- What a settlement leaves of the record and of the upper half of its label's word, and what it answers.
pub record Started : Type 0 where
  pub task : Record
  pub upper : ℕ
  pub reply : Reply
  pub touch : PlannedTouch

-- A start that has a touch to make leaves the record and answers 0. One that is decided answers its outcome, and the plan of the record as it then is.
abbrev pub started_by : ℕ → ℕ → ℕ → Record → Begins → Started
started_by pooled slots upper r (touches p) = record { task = r; upper = upper; reply = record { code = 0; label = 0; value = 0 }; touch = p }
started_by pooled slots upper r (answers task o) =
    record { task = task; upper = cond (is_moved o) 0 upper; reply = reply_of o; touch = plan pooled slots task.call }

-- A start whose Anchor is loaded: its own refusals come first, and then it touches nothing; else what it comes to.
abbrev pub loaded_by : ℕ → ℕ → ℕ → Record → Start → ℕ → Started
loaded_by pooled slots upper r s w =
    let why = start_why pooled slots r.call s in
    cond (eqb why 0) (started_by pooled slots upper r (settle_start r s 1 w))
    (record { task = r; upper = upper; reply = reply_of (Refused why); touch = refuses why })
