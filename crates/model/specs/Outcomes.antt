-- What a call answers: refused by its number, or carried out.
use Rattle.std.specs.Prelude.{ℕ, Result, Ok, Err}
use Rattle.model.specs.declared.{Answer.Answer, Refusal.Refusal, Report.Report}

-- Refused by a number, whatever an answer would be.
abbrev pub Refused : {A : Type 0} → ℕ → Result A Refusal
Refused n = Err (record { number = n })

-- A start or step; carried out, with its answer.
abbrev pub Outcome : Type 0
Outcome = Result Answer Refusal

abbrev pub Moved : Answer → Outcome
Moved a = Ok a

-- An opening.
abbrev pub Opening : Type 0
Opening = Result Unit Refusal

abbrev pub Opened : Opening
Opened = Ok tt

-- A report.
abbrev pub Reported : Type 0
Reported = Result Report Refusal
