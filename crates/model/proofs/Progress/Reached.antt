-- What holds of every queue that an accepted opening and a list of operations have made.
use mathlib.Core.{Bool.Bool, Path.◌≡◌, List.{List, [], ◌∷◌}}
use Prim.Native.Nat.{suc, ℕ}
use Rattle.model.specs.{Calls.{act, opened}, History.{Ledger, Request, final}, Refusals.open_refusal, Tables.Queue}
use Rattle.model.specs.declared.Op.{Op}
use Rattle.model.proofs.Ledger.{EveryOperation.act_good, Matched.Matched, Opened.{nobody, open_good, some_slots}}
use Rattle.model.proofs.{Unsound.{Runs.act_safe, Safe.Safe}, Never34.open_safe}
use Rattle.model.proofs.Progress.NotRefused.{Roomy, act_roomy, open_roomy}

pub record Reached (pooled : Bool) (tasks : ℕ) (q : Queue) : Type 0 where
  pub position : ℕ
  pub ledger : Ledger
  pub matched : Matched position q ledger
  pub safe : Safe q
  pub roomy : Roomy pooled tasks q

module _ (pooled : Bool) (tasks : ℕ) where
  pub act_reached : (q : Queue) (t : ℕ) (o : Op) → Reached pooled tasks q → Reached pooled tasks (act q t o).queue
  act_reached q t o z = record {
    position = suc z.position;
    ledger = _;
    matched = act_good z.position q z.ledger z.matched t o;
    safe = (act_safe z.position q z.ledger z.matched z.safe t o).1;
    roomy = act_roomy pooled tasks q t o z.roomy;
  }

  pub final_reached : (os : List Request) (q : Queue) → Reached pooled tasks q → Reached pooled tasks (final q os)
  unfolding final
  final_reached [] q z = z
  final_reached (o ∷ os) q z = final_reached os (act q o.task o.op).queue (act_reached q o.task o.op z)

  pub open_reached : (q : Queue) (slots tag : ℕ) → open_refusal pooled q tasks slots ≡ 0 → Reached pooled tasks (opened pooled q tasks slots tag)
  open_reached q slots tag e = record {
    position = 1;
    ledger = nobody;
    matched = open_good pooled q tasks slots tag (some_slots pooled q tasks slots e);
    safe = open_safe pooled q tasks slots tag e;
    roomy = open_roomy pooled q tasks slots tag e;
  }
