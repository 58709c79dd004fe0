-- On an admitted queue the search finds what it finds by steps that ask for admission each time.
use mathlib.Core.{Path.{◌≡◌, refl, ap}, Bool.Bool, List.List}
use Prim.Native.Nat.{ℕ, ◌<◌}
use borrow.Author.Tests.{lt-ltb}
use Rattle.model.specs.{declared.Op.TheVariants.Step, Tables.{Queue, task_at}, Refusals.{among, admission}}
use Rattle.model.specs.Calls.{act_on, back, act}
use Rattle.engine.proofs.InParts.{why, admitted}
use Rattle.schedule_model.proofs.{OnlyUnsound.Ready, AnyStep.{seek_of, any_step}}
use Rattle.schedule_search.specs.{Stepped.moved, Sought.seeking}

no_fault : (q : Queue) (t : ℕ) → Ready q → t < 2 → why q.tables (among q t) (task_at q t) ≡ 0
unfolding admission
no_fault q t h low = rw (h.sound, h.enough, h.tasks, lt-ltb t 2 low) refl

acted : (q : Queue) (t : ℕ) → Ready q → t < 2 → moved q t ≡ act q t Step
unfolding moved act act_on
acted q t h low = ap (back q t) (admitted q.tables (among q t) (task_at q t) (no_fault q t h low))

pub unasked : (ws : List ℕ) (len n : ℕ) (free : Bool) (q : Queue) → Ready q → seeking ws len n free q ≡ seek_of ws len n free q
unasked ws len = any_step moved acted ws len
