-- What is left of the replay leads from here to where the whole replay leads; so far no position stands too early.
use Rattle.std.proofs.Common.{◌≡◌, ◌≤◌, ◌+◌, ◌/◌, [], length, drop}
use Rattle.audit_model.specs.{Audit.{in_order, replay}, LentHistory.calls_in}
use Rattle.audit.specs.{FirstMisplaced.first_misplaced, LabelQueue.{Holds, held}}
use Rattle.audit.proofs.served.Given as goal

abbrev pub invariant-loop-i : goal.invariant-loop-i
invariant-loop-i l =
    record {
      order : l.labels.low ≤ l.labels.high;
      low : 64 ≤ l.labels.low + l.i;
      high : l.labels.high ≤ 64 + l.i;
      holds : Holds (length l.words / 7) l.labels.places.now;
      first : l.i + first_misplaced (in_order (calls_in l.words) (drop l.i l.order)) ≡ l.misplaced;
      left : replay (l.i + 1) (in_order (calls_in l.words) (drop l.i l.order)) (held l.words l.labels.low l.labels.high l.labels.places.now)
          ≡ replay 1 (in_order (calls_in l.words) l.order) [];
    }
