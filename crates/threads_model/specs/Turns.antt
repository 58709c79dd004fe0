-- Lists of starts and steps in which a push that names a slot may have been asked 33 before its turn.
use mathlib.Core.{Bool.{Bool, cond}, List.{List, [], ◌∷◌}}
use Rattle.std.specs.Prelude.{ℕ, eqb}
use Rattle.model.specs.Outcomes.{Moved}
use Rattle.model.specs.{declared.Answer.TheVariants.Running, Calls.{Done, act, back}}
use Rattle.model.specs.{declared.Op.{Op, TheVariants.{Push, Pop, PushPooled, Step}}, Refusals.{among, push_refusal}}
use Rattle.model.specs.{Tables.{Queue, task_at, record_at, with_taken, with_call, started}, History.Event}

-- A start or step of a task. `early`: it is a push that names a slot, and the Anchor that it loaded before its turn was not late.
pub record Turn : Type 0 where
  pub task : ℕ
  pub op : Op
  pub early : Bool

-- Such a push is not asked 33 again: where that alone stands against it, it is carried out. Any other start or step is as ever.
unfoldable pub act_early : Queue → ℕ → Op → Done
act_early q t (Push side slot label) =
    cond (eqb (push_refusal q.tables (among q t) (record_at q t) side slot) 33)
    (back q t (record {
      tables = with_taken q.tables slot label;
      task = with_call (task_at q t) (started 0 side slot label);
      outcome = Moved (Running 1);
    }))
    (act q t (Push side slot label))
act_early q t (Pop side) = act q t (Pop side)
act_early q t (PushPooled side label) = act q t (PushPooled side label)
act_early q t Step = act q t Step

-- A turn: as a push that was early, or as ever.
unfoldable pub take_early : Queue → Turn → Done
take_early q u = cond u.early (act_early q u.task u.op) (act q u.task u.op)

-- The events of a list, and the queue after it, as in `History`.
unfoldable pub run_turns : Queue → List Turn → List Event
run_turns q [] = []
run_turns q (u ∷ us) =
    let d = take_early q u in
    record { task = u.task; op = u.op; outcome = d.outcome; before = q.tables.control.anchor; after = d.queue.tables.control.anchor }
    ∷ run_turns d.queue us

unfoldable pub final_turns : Queue → List Turn → Queue
final_turns q [] = q
final_turns q (u ∷ us) = final_turns (take_early q u).queue us
