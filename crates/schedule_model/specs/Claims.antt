-- What is promised of the schedules and of repeated calls. (Document 02, #107.)
use mathlib.Core.{Path.◌≡◌, Logic.◌≢◌, Bool.{Bool, true, false, ◌&&◌, cond}, List.{List, [], ◌∷◌, ◌++◌, map}}
use Rattle.std.specs.Prelude.{ℕ, zero, suc, ◌+◌, ◌<◌}
use lib.{Dec.eqb, ListN.{length, get_or, take, drop, replicate}}
use Rattle.model.specs.Outcomes.{Refused}
use Rattle.model.specs.{declared.{Entry.Entry, Op.TheVariants.Step}, Tables.Queue}
use Rattle.model.specs.{Calls.act, Standing.Standing, Lists.All, History.{AfterOpening, NeverUnsound, Request, final}}
use Rattle.schedule_model.specs.Schedules.{Schedule, said_no_more, was_refused, at_work, schedules, all_schedules}
use Rattle.schedule_model.specs.Allowed.{after}
use Rattle.schedule_model.specs.Next.{Next, given, no_more, precedes, Handed, schedule_refusal, next_schedule}

-- What the caller reads of an answer: the words 1 to length of the memory, and the ending.
abbrev pub told : Handed → Next
told h =
    cond (eqb h.reply.ending said_no_more) no_more
    (given (record { steps = take h.reply.length (drop 1 h.memory); ending = h.reply.ending }))

-- k calls, each lent the memory that the last one left.
unfoldable pub calls : Queue → ℕ → List ℕ → List Next
calls q zero ws = []
calls q (suc k) ws = told (next_schedule q ws) ∷ calls q k (next_schedule q ws).memory

-- Beginning with zeros, repeated calls hand out exactly the schedules, each once, and then say no more, again and again.
abbrev pub Enumerates : Type 0
Enumerates =
    (q : Queue) (ws : List ℕ) (k : ℕ) → schedule_refusal q ws ≡ 0 → get_or ws 0 0 ≡ 0
    → calls q (length (all_schedules q) + k) ws ≡ map given (all_schedules q) ++ replicate k no_more

-- What holds of each entry of a list and every later one.
abbrev pub Pairwise : (Schedule → Schedule → Type 0) → List Schedule → Type 0
Pairwise R [] = Unit {0}
Pairwise R (s ∷ l) = All (R s) l × Pairwise R l

-- They are in dictionary order, so that none is there twice.
abbrev pub InOrder : Type 0
InOrder = (q : Queue) (n : ℕ) → Pairwise (λ s x. precedes s.steps x.steps ≡ true) (schedules q n)

-- No schedule is a beginning of another.
abbrev pub begins : List ℕ → List ℕ → Bool
begins [] s = true
begins (u ∷ g) [] = false
begins (u ∷ g) (t ∷ s) = eqb u t && begins g s

abbrev pub Apart : Type 0
Apart = (q : Queue) (n : ℕ) → Pairwise (λ s x. (begins s.steps x.steps ≡ false) × (begins x.steps s.steps ≡ false)) (schedules q n)

-- Of two busy tasks no step is refused by another number than 34, however many steps were tried before.
abbrev pub OnlyUnsound : Type 0
OnlyUnsound =
    (q : Queue) (ws ts : List ℕ) (t n : ℕ) → schedule_refusal q ws ≡ 0 → t < 2
    → let now = after q ts in at_work now t ≡ true → (act now t Step).outcome ≡ Refused n → n ≡ 34

-- Of a queue on which a call that walks may rely no call is refused 34.
abbrev pub StandingSchedules : Type 0
StandingSchedules = (q : Queue) (d : List Entry) → Standing q d → (ws : List ℕ) → schedule_refusal q ws ≢ 34

-- No call is refused 34, and no schedule that is handed out is marked refused: of a queue on which a call that walks may rely and of which no
-- start or step is ever refused 34, as after any accepted opening and any list.
pub record Unrefused (q : Queue) : Type 0 where
  pub code : (ws : List ℕ) → (next_schedule q ws).reply.code ≢ 34
  pub ending : (ws : List ℕ) → (next_schedule q ws).reply.ending ≢ was_refused
  pub schedules : (ws : List ℕ) → schedule_refusal q ws ≡ 0 → All (λ (s : Schedule). s.ending ≢ was_refused) (all_schedules q)

abbrev pub StandingUnrefused : Type 0
StandingUnrefused = (q : Queue) (d : List Entry) → Standing q d → ((os : List Request) → NeverUnsound q os) → Unrefused q

abbrev pub NeverRefused : Type 0
NeverRefused = AfterOpening (λ q os. Unrefused (final q os))
