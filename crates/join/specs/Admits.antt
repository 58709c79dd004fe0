-- What an admission says of the joining.
use Rattle.std.specs.Prelude.{◌≡◌, ◌≢◌, ℕ, length, Result, Ok, Err}
use Rattle.model.specs.{declared.Refusal.Refusal, Outcomes.Refused, Tables.Queue}
use Rattle.walk.specs.declared.Unsound.{Unsound}
use Rattle.stock_model.specs.Accounts.{waiting_labels}
use Rattle.join_model.specs.Closed.{closed_refusal}
use Rattle.join.specs.declared.admit.Waiting.{Waiting}

-- What the two walks say: 34 where one of them is broken, else how many labels they meet.
abbrev pub walked : Result ℕ Unsound → Result ℕ Unsound → Result Waiting Refusal
walked (Err u) t = Refused 34
walked (Ok n) (Err u) = Refused 34
walked (Ok n) (Ok m) = Ok (record { first = n; second = m })

-- No rule applies, and so many labels wait in each of the two queues.
pub record Admitted (a b q : Queue) (w : Waiting) : Type 0 where
  pub none : closed_refusal a b q ≡ 0
  pub first : w.first ≡ length (waiting_labels a.tables)
  pub second : w.second ≡ length (waiting_labels b.tables)

-- That, or its refusal.
abbrev pub Admits : Queue → Queue → Queue → Result Waiting Refusal → Type 0
Admits a b q (Ok w) = Admitted a b q w
Admits a b q (Err refusal) = (refusal.number ≡ closed_refusal a b q) × (refusal.number ≢ 0)
