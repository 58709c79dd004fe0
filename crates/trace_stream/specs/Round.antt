-- What a round leaves: b are the bytes that were left before it, and p' is the page after page p. Of the `full` bytes that the input holds then
-- the first are b, and the others were read behind them.
use mathlib.Core.{Bool.{true, false}, Path.◌≡◌, List.List}
use Rattle.std.specs.{Prelude.{ℕ, ◌<◌, ◌≤◌}, ControlFlow.MatchControlFlow, declared.ops.ControlFlow.ControlFlow}
use lib.{ListN.length, Seq.slice}
use Rattle.trace_field.specs.Page.{Page}
use Rattle.trace_replay.specs.Pieces.{round_page}

-- It goes on: bytes were read, and the run is not over.
pub record Goes (b input : List ℕ) (p p' : Page) (full : ℕ) : Type 0 where
  pub more : length b < full
  pub within : full ≤ length input
  pub page : p' ≡ round_page b (slice (length b) full input) p
  pub on : p'.run.over ≡ false

-- It has gone to its end: nothing was read, or the run is over.
pub record Ended (b input : List ℕ) (p p' : Page) (full : ℕ) : Type 0 where
  pub left : length b ≤ full
  pub within : full ≤ length input
  pub page : p' ≡ round_page b (slice (length b) full input) p
  pub over : length b < full → p'.run.over ≡ true

-- Which of the two, as the answer tells, and how many bytes.
abbrev pub Round : List ℕ → List ℕ → Page → Page → ControlFlow ℕ ℕ → Type 0
Round b input p p' turn = MatchControlFlow turn (Goes b input p p') (Ended b input p p')
