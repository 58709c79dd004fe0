-- Answers in numbers, beside what each lent table then holds.
use Rattle.std.specs.Prelude.{Err, Ok}
use mathlib.Core.{Bool.{Bool, not, cond}, List.List}
use Rattle.std.specs.Prelude.{ℕ}
use lib.{Dec.{eqb, ltb}, ListN.{get_or, replicate, set}}
use Rattle.model.specs.Outcomes.{Opening, Outcome, Reported}
use Rattle.model.specs.declared.{Reply.Reply, Record.Record}
use Rattle.model.specs.{Tables.{Queue, unused}, Report.report_code, Calls.{OpenDone, Done, opening_code, reply_of}}
use Rattle.model.specs.Lists.{count, zeroed, listed}
use Rattle.capi.specs.declared.ReportReply.{ReportReply}

-- A report with the tasks' counts beside it; all 0 in a refusal.
abbrev pub report_reply_of : Reported → List ℕ → ReportReply
report_reply_of (Err refusal) retries =
    record { code = refusal.number; tag = 0; status = 0; left = 0; right = 0; busy = 0; waiting = 0; taken = 0; retries = replicate 16 0 }
report_reply_of (Ok r) retries =
    record {
      code = report_code (Ok r);
      tag = r.anchor.tag;
      status = r.anchor.status;
      left = r.anchor.left;
      right = r.anchor.right;
      busy = r.busy;
      waiting = r.waiting;
      taken = r.taken;
      retries = retries;
    }

-- How many of the first n records are busy tasks'.
abbrev pub busy_in : ℕ → List Record → ℕ
busy_in n rs = count (λ t. not (eqb (get_or rs t unused).call.place 0)) n

-- The counts of the first n records.
abbrev pub counts_in : ℕ → List Record → List ℕ
counts_in n rs = listed (λ t. cond (ltb t n) (get_or rs t unused).retries 0) 16

-- What an opening answers, and what each lent table then holds. The upper halves of the labels' words are in no field: an opening
-- zeroes them with the records, and a refusal leaves them.
pub record Coded : Type 0 where
  pub queue : Queue
  pub uppers : List ℕ
  pub code : ℕ

abbrev pub uppers_at : ℕ → List ℕ → Opening → List ℕ
uppers_at tasks us (Ok u) = zeroed tasks 0 us
uppers_at tasks us (Err refusal) = us

abbrev pub coded : ℕ → List ℕ → OpenDone → Coded
coded tasks us d =
    record { queue = d.queue; uppers = uppers_at tasks us d.outcome; code = opening_code d.outcome }

-- The same for a start or step of a task. `whole`: the outcomes after which its row is written whole, and its upper half zero.
pub record Replied : Type 0 where
  pub queue : Queue
  pub uppers : List ℕ
  pub reply : Reply

abbrev pub replied : (Outcome → Bool) → ℕ → List ℕ → Done → Replied
replied whole task us d =
    record { queue = d.queue; uppers = cond (whole d.outcome) (set us task 0) us; reply = reply_of d.outcome }
