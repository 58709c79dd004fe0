-- What is left of the list leads from here to where the whole list leads from the start.
use Rattle.std.proofs.Common.{◌≡◌, ◌*◌, ◌-◌}
use Rattle.serve.specs.{Requests.requests_from, Serving.{state_in, served}}
use Rattle.serve.proofs.carry_out.Given as goal

abbrev pub invariant-loop-i : goal.invariant-loop-i
invariant-loop-i l =
    served (3 * l.i) (state_in l.control l.records l.replies l.lefts l.rights l.labels l.marks l.next)
    (requests_from l.i (l.count - l.i) l.requests)
    ≡ served 0 (state_in l.fn.control l.fn.records l.fn.replies l.fn.lefts l.fn.rights l.fn.labels l.fn.marks l.fn.next)
    (requests_from 0 l.count l.requests)
