-- What is promised of a run beyond what it answers. (Document 01, refusals: a refusal is its number alone; every table keeps its contents.)
use mathlib.Core.{List.List, Path.◌≡◌}
use Rattle.std.specs.Prelude.{ℕ}
use Rattle.model.specs.Outcomes.{Refused}
use Rattle.model.specs.{declared.Op.TheVariants.Step, Tables.Queue, Calls.act}
use Rattle.model.specs.Solo.{solo_run}
use Rattle.capi_run.specs.Replies.{Ran, ran, run_reply_of}

-- Every word that is lent is as before, the upper halves of the labels' words too.
abbrev pub unchanged : Queue → List ℕ → ℕ → Ran
unchanged q us why = record { queue = q; uppers = us; reply = run_reply_of (Refused why) 0 }

-- A run that is refused has made no step and changed nothing; its first step is refused by the same number, or would be.
pub record Refuses (n : ℕ) (q : Queue) (t : ℕ) (us : List ℕ) (why : ℕ) : Type 0 where
  pub first : (act q t Step).outcome ≡ Refused why
  pub kept : ran t us (solo_run n q t) ≡ unchanged q us why

abbrev pub RefusalKeeps : Type 0
RefusalKeeps = (n : ℕ) (q : Queue) (t : ℕ) (us : List ℕ) (why : ℕ) → (solo_run n q t).outcome ≡ Refused why → Refuses n q t us why
