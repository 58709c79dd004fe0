-- What a step is refused by for what it touches, as the code asks it.
use Rattle.std.specs.Prelude.{Err, Ok}
use Rattle.std.specs.Prelude.{cond, ℕ}
use Rattle.model.specs.Outcomes.{Outcome}
use Rattle.model.specs.declared.{Control.Control, Call.Call}
use Rattle.model.specs.{Tables.Tables, Places.word_found, Refusals.step_sound}
use Rattle.decide.specs.Ending.{change_refused}

-- The number of a refusal; 0: it is none.
abbrev pub why_not : Outcome → ℕ
why_not (Err refusal) = refusal.number
why_not (Ok a) = 0

-- Of a change of Anchor to `new`, which fails where Anchor is not as read.
unfoldable pub why_unchanged : Control → Call → ℕ → ℕ
why_unchanged c r new = cond (change_refused c r new) 34 0

-- 34 for what the step touches; 0: all that is sound.
unfoldable pub touch_refusal : Tables → Call → ℕ
touch_refusal q r = cond (step_sound q.control r (word_found q r)) 0 34
