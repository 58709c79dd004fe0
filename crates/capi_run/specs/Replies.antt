-- The answer of a run of steps in numbers, beside what each lent table then holds. The upper half of the label's word is in no field:
-- the step that ends the call zeroes it with the record.
use mathlib.Core.{Bool.cond, List.List}
use Rattle.std.specs.Prelude.{ℕ, set}
use Rattle.model.specs.Outcomes.{Outcome}
use Rattle.model.specs.{Tables.Queue, Calls.reply_of, Ends.ends_call, Solo.SoloDone}
use Rattle.capi_run.specs.declared.RunReply.{RunReply}

abbrev pub run_reply_of : Outcome → ℕ → RunReply
run_reply_of o steps = record { code = (reply_of o).code; label = (reply_of o).label; value = (reply_of o).value; steps = steps }

pub record Ran : Type 0 where
  pub queue : Queue
  pub uppers : List ℕ
  pub reply : RunReply

abbrev pub ran : ℕ → List ℕ → SoloDone → Ran
ran task us d = record {
  queue = d.queue;
  uppers = cond (ends_call d.outcome) (set us task 0) us;
  reply = run_reply_of d.outcome d.steps;
}
